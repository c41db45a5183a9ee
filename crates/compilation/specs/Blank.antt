-- The words of a frame that have to be zeros where code begins: all of them, or those at some offsets.
use Rattle.std.specs.Prelude.{◌≡◌, ℕ, zero, suc, ◌+◌, ◌*◌, ◌<◌, ◌&&◌, Bool, true, false, List, [], ◌∷◌, ◌++◌, length}
use Rattle.std.specs.Prelude.{Option, None, Some, if◌then◌else◌}
use Rattle.std.specs.List.{AllByRecursion}
use Rattle.expression_code.specs.Layout.{control_offset}
use Rattle.compilation.specs.Below.{ByteMap, StraightProgram}
use Rattle.inline.specs.FlatSize.{words_of}
use Rattle.inline.specs.declared.flat.FlatVariable.{FlatVariable}
use Rattle.language.specs.declared.signature.Kind.{Kind}
use Rattle.language.specs.declared.signature.Kind.TheVariants.{Boolean, Uint16, Uint32, Uint8}
use Rattle.variable_room.specs.set_first.Order.{program_sets_first}

-- the offsets, or none where all words have to be
abbrev pub Blank : Type 0
Blank = Option (List ℕ)

-- a word is 0, as far as it lies in a frame of so many bytes
abbrev pub IsZeroWord : ℕ → ℕ → ByteMap → ℕ → Type 0
IsZeroWord size frame bytes offset =
    (b : ℕ) → b < 4 → offset + b < size → bytes (frame + offset + b) ≡ Some 0

-- those that have to be are zeros
abbrev pub IsBlank : Blank → ℕ → ℕ → ByteMap → Type 0
IsBlank None size frame bytes = (o : ℕ) → o < size → bytes (frame + o) ≡ Some 0
IsBlank (Some offsets) size frame bytes = AllByRecursion (IsZeroWord size frame bytes) offsets

-- so many words, one after another
abbrev pub words_from : ℕ → ℕ → List ℕ
words_from low zero = []
words_from low (suc n) = low ∷ words_from (low + 4) n

-- a variable's slot can hold what the variable cannot: a number of 8 or 16 bits has a slot of 32, and a bool is 0 or 1
abbrev pub has_few_values : Kind → Option ℕ → Bool
has_few_values Boolean elements = true
has_few_values Uint8 None = true
has_few_values Uint8 (Some size) = false
has_few_values Uint16 None = true
has_few_values Uint16 (Some size) = false
has_few_values Uint32 elements = false

-- those of such variables, but of the first ones, which are parameters
abbrev pub blank_from : ℕ → ℕ → List FlatVariable → List ℕ
blank_from parameters low [] = []
blank_from (suc parameters) low (d ∷ ds) = blank_from parameters (low + 4 * words_of d) ds
blank_from zero low (d ∷ ds) =
    (if has_few_values d.word.kind d.elements then words_from low (words_of d) else [])
    ++ blank_from zero (low + 4 * words_of d) ds

-- of a program that sets each variable before it reads it: those of such variables, as they are laid out, and of the
-- control values; of another one all
abbrev pub blank_of : List FlatVariable → StraightProgram → Blank
blank_of laid p =
    if program_sets_first p
    then Some (blank_from (length p.parameters) 0 laid ++ words_from (control_offset laid 0) p.controls)
    else None
