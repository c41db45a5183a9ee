-- Code in which arrays are so many words.
use Rattle.std.specs.Prelude.{ℕ, zero, suc, ◌+◌, List, [], ◌∷◌, drop, map, Option, None, Some}
use Rattle.std.specs.Option.{option_map}
use Rattle.straight_words.specs.Below.{array, branch, chain, element, first, Kind, nothing, number, Place, put, repeats}
use Rattle.straight_words.specs.Below.{set, StraightBlock, StraightTree, take, TermTree, variable}
use Rattle.straight_words.specs.declared.element_words.parts.SplitArray.{SplitArray}
use Rattle.straight_words.specs.element_words.private.Parts.{Parts, part_of, word_of}
use Rattle.straight_words.specs.private.Rewriting.{rewritten}

-- a word stands in the place of an element
abbrev pub word_instead : Parts → TermTree → Option TermTree
word_instead parts (element place x size index) = option_map variable (word_of parts x index)
word_instead parts _ = None

abbrev pub split : Parts → TermTree → TermTree
split parts = rewritten (word_instead parts)

abbrev pub single : StraightTree → StraightBlock
single statement = first statement nothing

-- the first of some values, or 0 where there is none
abbrev pub first_value : Kind → List TermTree → TermTree
first_value kind [] = number 0 kind
first_value kind (value ∷ values) = value

-- so many words of a kind, the first of this number, get these values, and become 0 where there are no more
abbrev pub given_words : ℕ → ℕ → Kind → List TermTree → StraightBlock
given_words base zero kind values = nothing
given_words base (suc n) kind values =
    first (set None base (first_value kind values)) (given_words (base + 1) n kind (drop 1 values))

-- a new array, its first values split already
abbrev pub new_array : Option SplitArray → ℕ → ℕ → List TermTree → StraightBlock
new_array None x size values = single (array x size values)
new_array (Some part) x size values = given_words part.base part.size part.word.kind values

-- an element is set, its index and its value split already
abbrev pub put_in : Option ℕ → Option ℕ → Place → ℕ → ℕ → TermTree → TermTree → StraightTree
put_in None within place x size index value = put within place x size index value
put_in (Some word) within place x size index value = set within word value

abbrev mutual
  pub split_in : Parts → StraightTree → StraightBlock
  split_in parts (set within x value) = single (set within x (split parts value))
  split_in parts (array x size values) = new_array (part_of parts x) x size (map (split parts) values)
  split_in parts (put within place x size index value) =
      single (put_in (word_of parts x index) within place x size (split parts index) (split parts value))
  split_in parts (take control within condition) = single (take control within (split parts condition))
  split_in parts (branch condition accepted otherwise) =
      single (branch (split parts condition) (split_all parts accepted) (split_all parts otherwise))
  split_in parts (repeats x low high body) =
      single (repeats x (split parts low) (split parts high) (split_all parts body))

  pub split_all : Parts → StraightBlock → StraightBlock
  split_all parts nothing = nothing
  split_all parts (first statement rest) = chain (split_in parts statement) (split_all parts rest)
