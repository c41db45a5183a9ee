-- The lines of listings, as bytes. Each is ended by LF.
use Rattle.std.specs.Prelude.{ℕ, ◌+◌, ◌/◌, ◌%◌, nat_lt, List, [], ◌∷◌, ◌++◌, codes, if◌then◌else◌}
use Rattle.rv_machine.specs.declared.memory.Size.{Size}
use Rattle.rv_machine.specs.declared.memory.Size.TheVariants.{Byte, Half, Word}
use Rattle.rv_machine.specs.declared.observation.Event.{Event}
use Rattle.rv_machine.specs.declared.observation.Event.TheVariants.{Load, Store, Div, Mul}
use Rattle.listing.specs.Below.{entries_of, Entry, event, Observation, program_counter, Stop}
use Rattle.rv_machine.specs.Stops.{stop_name}

-- the character of a hexadecimal digit: `0` to `9`, then `a` to `f`
abbrev pub digit_character : ℕ → ℕ
digit_character digit = if nat_lt digit 10 then 48 + digit else 87 + digit

-- the hexadecimal digit of a number at the place of this unit, a power of 16
abbrev pub digit_at : ℕ → ℕ → ℕ
digit_at number unit = digit_character (number / unit % 16)

-- the lowest eight hexadecimal digits of a number, the highest first
abbrev pub eight_digits : ℕ → List ℕ
eight_digits number =
    digit_at number 0x1000_0000 ∷ digit_at number 0x100_0000 ∷ digit_at number 0x10_0000 ∷ digit_at number 0x1_0000
    ∷ digit_at number 0x1000 ∷ digit_at number 0x100 ∷ digit_at number 0x10 ∷ digit_at number 1 ∷ []

-- how many bytes
abbrev pub size_text : Size → List ℕ
size_text Byte = codes "1"
size_text Half = codes "2"
size_text Word = codes "4"

-- the line of an event: an address and how many bytes, or what is divided and by what, or what is multiplied
abbrev pub event_line : Event → List ℕ
event_line (Load a n) = codes "load " ++ eight_digits a ++ codes " " ++ size_text n ++ codes "\n"
event_line (Store a n) = codes "store " ++ eight_digits a ++ codes " " ++ size_text n ++ codes "\n"
event_line (Div a b) = codes "div " ++ eight_digits a ++ codes " " ++ eight_digits b ++ codes "\n"
event_line (Mul a b) = codes "mul " ++ eight_digits a ++ codes " " ++ eight_digits b ++ codes "\n"

-- the line of an entry
abbrev pub entry_line : Entry → List ℕ
entry_line (program_counter pc) = codes "pc " ++ eight_digits pc ++ codes "\n"
entry_line (event e) = event_line e

-- a line for each entry, in order
abbrev pub entry_lines : List Entry → List ℕ
entry_lines [] = []
entry_lines (entry ∷ entries) = entry_line entry ++ entry_lines entries

-- what an observer sees, line by line
abbrev pub lines_of : List Observation → List ℕ
lines_of seen = entry_lines (entries_of seen)

-- the line of a stop
abbrev pub stop_line : Stop → List ℕ
stop_line stop = codes "stop " ++ stop_name stop ++ codes "\n"

-- how the line of a word begins: the address where it stands, and itself
abbrev pub word_head : ℕ → ℕ → List ℕ
word_head address word = eight_digits address ++ codes " " ++ eight_digits word ++ codes " "
