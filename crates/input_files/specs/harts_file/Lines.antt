-- The lines of a file of harts, and what each of them says.
use Rattle.std.specs.Prelude.{ℕ, Bool, not, ◌&&◌, ◌==◌, if◌then◌else◌, List, [], ◌∷◌, length, map, codes, Option}
use Rattle.std.specs.Prelude.{Some, None}
use Rattle.std.specs.List.{slice_split, list_all, list_any}
use Rattle.std.specs.Option.{option_map, option_and_then}
use Rattle.std.specs.Str.{bytes_eq}
use Rattle.input_files.specs.Below.{number_in}

-- a hart: the path of its image, and the texts of its arguments
pub record PlannedHart : Type 0 where
  pub path : List ℕ
  pub arguments : List (List ℕ)

-- turns: so many of one hart, or so many times one of each hart
pub data PlannedTurns : Type 0 where
  turns_of : (hart count : ℕ) → PlannedTurns
  rounds : (count : ℕ) → PlannedTurns

-- what a line says
pub data LineContent : Type 0 where
  a_hart : PlannedHart → LineContent
  some_turns : PlannedTurns → LineContent

-- parts, without an empty one at the end
abbrev pub without_empty_end : List (List ℕ) → List (List ℕ)
without_empty_end [] = []
without_empty_end (part ∷ []) = if length part == 0 then [] else part ∷ []
without_empty_end (part ∷ next ∷ parts) = part ∷ without_empty_end (next ∷ parts)

-- the lines of a text: each is ended by a line feed, the byte 10, which the last may lack
abbrev pub lines_of : List ℕ → List (List ℕ)
lines_of text = without_empty_end (slice_split (λ byte. byte == 10) text)

-- the fields of a line: what stands between its blanks, the bytes 32
abbrev pub fields_of : List ℕ → List (List ℕ)
fields_of line = slice_split (λ byte. byte == 32) line

-- no field is empty, and nowhere is a carriage return, the byte 13
abbrev pub is_joined : List ℕ → Bool
is_joined line = not (list_any (λ byte. byte == 13) line)
    && list_all (λ field. not (length field == 0)) (fields_of line)

-- behind the word `hart`: a path, and arguments
abbrev pub hart_by : List (List ℕ) → Option LineContent
hart_by [] = None
hart_by (path ∷ arguments) = Some (a_hart (record { path = path; arguments = arguments }))

-- behind the word `turns`: the number of a hart, and how many turns
abbrev pub turns_by : List (List ℕ) → Option LineContent
turns_by [] = None
turns_by (hart ∷ []) = None
turns_by (hart ∷ count ∷ []) =
    option_and_then (λ h. option_map (λ n. some_turns (turns_of h n)) (number_in 10 count)) (number_in 10 hart)
turns_by (hart ∷ count ∷ field ∷ fields) = None

-- behind the word `round`: how many rounds
abbrev pub rounds_by : List (List ℕ) → Option LineContent
rounds_by [] = None
rounds_by (count ∷ []) = option_map (λ n. some_turns (rounds n)) (number_in 10 count)
rounds_by (count ∷ field ∷ fields) = None

-- what a word and the fields behind it say
abbrev pub said_with : List ℕ → List (List ℕ) → Option LineContent
said_with word fields =
    if bytes_eq word (codes "hart") then hart_by fields else
    if bytes_eq word (codes "turns") then turns_by fields else
    if bytes_eq word (codes "round") then rounds_by fields else None

-- what fields say, of which the first is a word
abbrev pub said_by_fields : List (List ℕ) → Option LineContent
said_by_fields [] = None
said_by_fields (word ∷ fields) = said_with word fields

-- what a line says, if it has a form
abbrev pub said_of : List ℕ → Option LineContent
said_of line = if is_joined line then said_by_fields (fields_of line) else None

-- what the lines of a text say, one after another
abbrev pub said_in : List ℕ → List (Option LineContent)
said_in text = map said_of (lines_of text)
