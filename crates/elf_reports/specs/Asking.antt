-- What the words of a command ask of a run of a function, and which of them ask nothing.
use Rattle.std.specs.Prelude.{◌≡◌, ℕ, ◌+◌, ◌==◌, ◌&&◌, Bool, false, List, [], ◌∷◌, ◌++◌, codes, drop, map, Option, None}
use Rattle.std.specs.Prelude.{Some, Result, Ok, Err, is_some, nat_eq, nat_le, slice_get, take, if◌then◌else◌}
use Rattle.std.specs.Borrow.{Bor}
use Rattle.std.specs.Fmt.{decimal}
use Rattle.std.specs.List.{position, starts_with}
use Rattle.std.specs.Option.{option_map}
use Rattle.std.specs.Str.{bytes_eq}
use Rattle.hex.specs.Hex.{decode_of}
use Rattle.hex.specs.declared.error.FromHexError.{FromHexError}
use Rattle.elf_reports.specs.Below.{Argument, Asked, each_from, need, Need, Part, Setting, word_of}
use Rattle.elf.specs.declared.fault.ElfRule.TheVariants as rules
use Rattle.elf_memory.specs.declared.asked.Argument.TheVariants as arguments
use Rattle.elf_runs.specs.declared.fault.Part.TheVariants as parts
use Rattle.elf_reports.specs.declared.asking.AskedWords.{AskedWords}

-- what is asked of an argument: this number, any word, or an address so far behind a symbol's
pub data AskedArgument : Type 0 where
  number : ℕ → AskedArgument
  anything : AskedArgument
  behind : List ℕ → ℕ → AskedArgument

-- what an argument is asked to be, as the code has it
abbrev pub asked_argument : Argument → AskedArgument
asked_argument (arguments.Number n) = number n
asked_argument arguments.Unknown = anything
asked_argument (arguments.Address symbol offset) = behind symbol.items offset

-- what is set: bytes, at the beginning of an object
pub record AskedSetting : Type 0 where
  pub object : List ℕ
  pub bytes : List ℕ

abbrev pub asked_setting : Setting → AskedSetting
asked_setting setting = record { object = setting.object.items; bytes = setting.bytes.items }

-- what stands before and behind the first byte that is this one, where there is one
abbrev pub cut_at : ℕ → List ℕ → Option (List ℕ × List ℕ)
cut_at cut text = option_map (λ at. (take at text, drop (at + 1) text)) (position (λ byte. byte == cut) text)

-- a symbol and how far behind it: `NAME+N`, where N is a number that fits a word; else the whole word is a name
abbrev pub at_name : List ℕ → List ℕ → Option ℕ → List ℕ × ℕ
at_name word name None = (word, 0)
at_name word name (Some offset) = (name, offset)

abbrev pub at_parts : List ℕ → Option (List ℕ × List ℕ) → List ℕ × ℕ
at_parts word None = (word, 0)
at_parts word (Some (name, offset)) = at_name word name (word_of offset)

-- a `+` is the byte 43
abbrev pub place_in : List ℕ → List ℕ × ℕ
place_in word = at_parts word (cut_at 43 word)

-- it begins with a decimal digit
abbrev pub begins_with_digit : List ℕ → Bool
begins_with_digit [] = false
begins_with_digit (character ∷ characters) = nat_le 48 character && nat_le character 57

abbrev pub behind_place : List ℕ × ℕ → AskedArgument
behind_place (symbol, offset) = behind symbol offset

abbrev pub number_or_place : List ℕ → Option ℕ → Option AskedArgument
number_or_place word (Some n) = Some (number n)
number_or_place word None = if begins_with_digit word then None else Some (behind_place (place_in word))

-- what the word of an argument asks, if it asks anything: `?` any word, a number that fits a word itself, another one
-- an address; but no name begins with a digit
abbrev pub argument_in : List ℕ → Option AskedArgument
argument_in word = if bytes_eq word (codes "?") then Some anything else number_or_place word (word_of word)

-- the bytes that digits spell, if they spell any
abbrev pub bytes_or_none : Result (List ℕ) FromHexError → Option (List ℕ)
bytes_or_none (Ok bytes) = Some bytes
bytes_or_none (Err fault) = None

abbrev pub bytes_of : List ℕ → Option (List ℕ)
bytes_of digits = bytes_or_none (decode_of digits)

-- these bytes for an object, where there are any
abbrev pub set_to : List ℕ → Option (List ℕ) → Option AskedSetting
set_to object None = None
set_to object (Some bytes) = Some (record { object = object; bytes = bytes })

abbrev pub setting_of : Option (List ℕ × List ℕ) → Option AskedSetting
setting_of None = None
setting_of (Some (object, value)) =
    if starts_with nat_eq value (codes "hex:") then set_to object (bytes_of (drop 4 value)) else None

-- what the word of a setting asks, if it asks anything: `NAME=hex:DIGITS`, where `=` is the byte 61
abbrev pub setting_in : List ℕ → Option AskedSetting
setting_in word = setting_of (cut_at 61 word)

-- what has to hold of the words: each argument asks something, and so does each setting
abbrev pub argument_spelled : ℕ → List ℕ → List Need
argument_spelled k word = need rules.Argument (parts.Argument k) (is_some (argument_in word)) ∷ []

abbrev pub setting_spelled : ℕ → List ℕ → List Need
setting_spelled k word = need rules.Argument (parts.Setting k) (is_some (setting_in word)) ∷ []

abbrev pub arguments_spelled : List (List ℕ) → List Need
arguments_spelled words = each_from argument_spelled 0 words

abbrev pub settings_spelled : List (List ℕ) → List Need
settings_spelled words = each_from setting_spelled 0 words

-- the words as texts
abbrev pub texts : List (Bor (List ℕ)) → List (List ℕ)
texts words = map (λ word. word.now) words

abbrev pub spelling : AskedWords → List Need
spelling words = arguments_spelled (texts words.arguments.now) ++ settings_spelled (texts words.settings.now)

-- this is what the words ask
pub record AsksFor (words : AskedWords) (asked : Asked) : Type 0 where
  pub function : asked.function.items ≡ words.function.now
  pub arguments : map (λ one. Some (asked_argument one)) asked.arguments.items
      ≡ map argument_in (texts words.arguments.now)
  pub secrets : map (λ one. one.object.items) asked.secrets.items ≡ texts words.secrets.now
  pub settings : map (λ one. Some (asked_setting one)) asked.settings.items
      ≡ map setting_in (texts words.settings.now)
  pub stack : asked.stack ≡ words.stack

-- the word of a part of a request, as the user wrote it; of the stack its size
abbrev pub text_or_none : Option (List ℕ) → List ℕ
text_or_none None = []
text_or_none (Some text) = text

abbrev pub part_word : AskedWords → Part → List ℕ
part_word words parts.Function = words.function.now
part_word words (parts.Argument k) = text_or_none (slice_get (texts words.arguments.now) k)
part_word words (parts.Secret k) = text_or_none (slice_get (texts words.secrets.now) k)
part_word words (parts.Setting k) = text_or_none (slice_get (texts words.settings.now) k)
part_word words parts.Stack = decimal words.stack
