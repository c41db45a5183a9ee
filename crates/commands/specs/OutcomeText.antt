-- An outcome as text.
use Rattle.std.specs.Prelude.{ℕ, ◌+◌, List, [], ◌∷◌, ◌++◌, drop, codes, Option, Some, None, if◌then◌else◌}
use Rattle.std.specs.Fmt.{decimal}
use Rattle.std.specs.List.{flat_map}
use Rattle.commands.specs.Below.{Param, Results}
use Rattle.language.specs.Typing.{is_mutable}

-- numbers with commas between them
abbrev pub numbers_text : List ℕ → List ℕ
numbers_text [] = []
numbers_text (number ∷ numbers) = decimal number ++ flat_map (λ later. codes "," ++ decimal later) numbers

-- the line of the array of the parameter with a number
abbrev pub array_line : ℕ → List ℕ → List ℕ
array_line number words = codes "array " ++ decimal number ++ codes " " ++ numbers_text words ++ codes "\n"

-- of the next array, where there is one
abbrev pub next_line : ℕ → List (List ℕ) → List ℕ
next_line number [] = []
next_line number (words ∷ arrays) = array_line number words

-- a line for each `mut` array, in the order of the parameters, which are numbered from here on
abbrev pub array_lines : ℕ → List Param → List (List ℕ) → List ℕ
array_lines number [] arrays = []
array_lines number (param ∷ params) arrays =
    if is_mutable param.form then next_line number arrays ++ array_lines (number + 1) params (drop 1 arrays)
    else array_lines (number + 1) params arrays

-- the line of what is returned, where there is a result
abbrev pub returned_line : Option ℕ → List ℕ
returned_line None = []
returned_line (Some word) = codes "return " ++ decimal word ++ codes "\n"

-- `return N` where there is a result, and then `array K v1,v2,..` for each `mut` array, with its parameter's number
-- from 0
abbrev pub outcome_text : List Param → Results → List ℕ
outcome_text params outcome = returned_line outcome.returned ++ array_lines 0 params outcome.arrays
