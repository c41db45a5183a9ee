-- Which arrays still become words once it is seen how each is used: by known indices alone.
use Rattle.std.specs.Prelude.{ℕ, List, [], ◌∷◌, Option, None, Some}
use Rattle.straight_words.specs.Below.{array, binary, branch, convert, element, first, nothing, number, prefix, put}
use Rattle.straight_words.specs.Below.{repeats, rotate, select, set, StraightBlock, StraightTree, take, TermTree, truth}
use Rattle.straight_words.specs.Below.{variable}
use Rattle.straight_words.specs.element_words.private.Parts.{Parts, whole, word_of}

-- an array stays whole unless this use of it is a word
abbrev pub unless_word : Option ℕ → Parts → ℕ → Parts
unless_word None parts x = whole parts x
unless_word (Some word) parts x = parts

abbrev pub narrowed_at : Parts → ℕ → TermTree → Parts
narrowed_at parts x index = unless_word (word_of parts x index) parts x

-- by an expression
abbrev pub narrowed : Parts → TermTree → Parts
narrowed parts (number value kind) = parts
narrowed parts (truth value) = parts
narrowed parts (variable x) = parts
narrowed parts (prefix operator width operand) = narrowed parts operand
narrowed parts (binary place operator width left right) = narrowed (narrowed parts left) right
narrowed parts (rotate width operand amount) = narrowed parts operand
narrowed parts (convert kind operand) = narrowed parts operand
narrowed parts (select condition accepted otherwise) =
    narrowed (narrowed (narrowed parts condition) accepted) otherwise
narrowed parts (element place x size index) = narrowed (narrowed_at parts x index) index

abbrev pub all_narrowed : Parts → List TermTree → Parts
all_narrowed parts [] = parts
all_narrowed parts (e ∷ es) = all_narrowed (narrowed parts e) es

-- by an index and a value
abbrev pub narrowed_put : Parts → ℕ → TermTree → TermTree → Parts
narrowed_put parts x index value = narrowed (narrowed (narrowed_at parts x index) index) value

abbrev mutual
  -- by a statement
  pub narrowed_by : Parts → StraightTree → Parts
  narrowed_by parts (set within x value) = narrowed parts value
  narrowed_by parts (array x size values) = all_narrowed parts values
  narrowed_by parts (put within place x size index value) = narrowed_put parts x index value
  narrowed_by parts (take control within condition) = narrowed parts condition
  narrowed_by parts (branch condition accepted otherwise) =
      narrowed_by_all (narrowed_by_all (narrowed parts condition) accepted) otherwise
  narrowed_by parts (repeats x low high body) = narrowed_by_all (narrowed (narrowed parts low) high) body

  pub narrowed_by_all : Parts → StraightBlock → Parts
  narrowed_by_all parts nothing = parts
  narrowed_by_all parts (first statement rest) = narrowed_by_all (narrowed_by parts statement) rest

-- by a result, where there is one
abbrev pub narrowed_result : Parts → Option TermTree → Parts
narrowed_result parts None = parts
narrowed_result parts (Some value) = narrowed parts value
