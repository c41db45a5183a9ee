-- The vectors that the lines of a text say, each `NAME: ARG .. = OUTCOME ..`.
use Rattle.std.specs.Prelude.{ℕ, ◌+◌, Bool, not, ◌||◌, ◌==◌, nat_eq, if◌then◌else◌, List, [], ◌∷◌, length, take, drop}
use Rattle.std.specs.Prelude.{codes, Option, Some, None, Result, Ok, Err}
use Rattle.std.specs.List.{filter, list_all, position, slice_split, starts_with}
use Rattle.std.specs.Option.{option_map, option_and_then}
use Rattle.std.specs.Str.Lines.{lines}

-- how many bytes a text of vectors has at most
abbrev pub longest_vectors : ℕ
longest_vectors = 4194304

-- a vector: its name, the texts of arguments, and those of the outcome that they have to give
pub record NamedVector : Type 0 where
  pub name : List ℕ
  pub given : List (List ℕ)
  pub wanted : List (List ℕ)

-- a line that begins with `#`, or has nothing but blanks, says nothing
abbrev pub says_nothing : List ℕ → Bool
says_nothing line = starts_with nat_eq line (codes "#") || list_all (λ byte. byte == 32) line

-- what stands before and behind the first byte that is this one, if there is one
abbrev pub cut_at : ℕ → List ℕ → Option (List ℕ × List ℕ)
cut_at cut text = option_map (λ at. (take at text, drop (at + 1) text)) (position (λ byte. byte == cut) text)

-- the fields of a text: what stands between its blanks
abbrev pub fields_of : List ℕ → List (List ℕ)
fields_of text = filter (λ field. not (length field == 0)) (slice_split (λ byte. byte == 32) text)

-- the vector that a line says, if it has the form of one: the name ends at the first `:` (58), and the arguments at
-- the first `=` (61) behind it
abbrev pub vector_of : List ℕ → Option NamedVector
vector_of line =
    option_and_then
    (λ named. option_map (λ sides. record {
      name = named.0;
      given = fields_of sides.0;
      wanted = fields_of sides.1;
    }) (cut_at 61 named.1)) (cut_at 58 line)

-- a vector and those of the later lines; or the number of this line, which says none
abbrev pub with_vector : ℕ → Option NamedVector → Result (List NamedVector) ℕ → Result (List NamedVector) ℕ
with_vector number None later = Err number
with_vector number (Some vector) (Ok vectors) = Ok (vector ∷ vectors)
with_vector number (Some vector) (Err line) = Err line

-- the vectors of lines, of which the first has this number; or the number of the first that says something else
abbrev pub vectors_from : ℕ → List (List ℕ) → Result (List NamedVector) ℕ
vectors_from number [] = Ok []
vectors_from number (line ∷ later) =
    if says_nothing line then vectors_from (number + 1) later
    else with_vector number (vector_of line) (vectors_from (number + 1) later)

-- the vectors that a text says; or the number of its first line, counted from 1, that says something else
abbrev pub vectors_in : List ℕ → Result (List NamedVector) ℕ
vectors_in text = vectors_from 1 (lines text)
