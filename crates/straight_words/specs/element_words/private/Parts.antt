-- Arrays that become words.
use Rattle.std.specs.Prelude.{ℕ, ◌+◌, ◌-◌, nat_le, nat_lt, List, [], ◌∷◌, ◌++◌, map, drop, replicate, Option, None}
use Rattle.std.specs.Prelude.{Some, if◌then◌else◌, slice_get, slice_set, true, unwrap_or}
use Rattle.std.specs.Option.{option_map}
use Rattle.straight_words.specs.Below.{FlatVariable, number, TermTree, word_as, WordType}
use Rattle.straight_words.specs.declared.element_words.parts.SplitArray.{SplitArray}
use Rattle.straight_words.specs.element_words.Limits.{most_elements_split}

-- for each variable, at its number, what becomes of it where it is an array that becomes words
abbrev pub Parts : Type 0
Parts = List (Option SplitArray)

abbrev pub part_of : Parts → ℕ → Option SplitArray
part_of parts x = unwrap_or (slice_get parts x) None

-- an array stays whole
abbrev pub whole : Parts → ℕ → Parts
whole parts x = slice_set parts x None

-- the number of an index, where it is one below the size
abbrev pub known_index : ℕ → TermTree → Option ℕ
known_index size (number value kind) = if nat_lt value size then Some value else None
known_index size _ = None

-- the word of an element, where the array becomes words and the index is known
abbrev pub word_in : Option SplitArray → TermTree → Option ℕ
word_in None index = None
word_in (Some part) index = option_map (λ i. part.base + i) (known_index part.size index)

abbrev pub word_of : Parts → ℕ → TermTree → Option ℕ
word_of parts x index = word_in (part_of parts x) index

-- Which arrays may become words, and which number each first word has.

-- so many words of a type, the first of this number
abbrev pub part_at : ℕ → ℕ → WordType → SplitArray
part_at base size word = record { base = base; size = size; word = word }

abbrev pub sized : WordType → Option ℕ → Option SplitArray
sized word None = None
sized word (Some size) = if nat_le size most_elements_split then Some (part_at 0 size word) else None

abbrev pub candidate : FlatVariable → Option SplitArray
candidate d = sized d.word d.elements

-- the arrays behind so many parameters, where they are short
abbrev pub candidates : ℕ → List FlatVariable → Parts
candidates parameters declared = replicate parameters None ++ map candidate (drop parameters declared)

-- each array gets words from this number on, as long as there is room for so many
abbrev pub numbered : ℕ → ℕ → Parts → Parts
numbered base room [] = []
numbered base room (None ∷ parts) = None ∷ numbered base room parts
numbered base room (Some part ∷ parts) = if nat_le part.size room
    then Some (part_at base part.size part.word) ∷ numbered (base + part.size) (room - part.size) parts
    else None ∷ numbered base room parts

-- the words, in their order
abbrev pub words_for : Option SplitArray → List FlatVariable
words_for None = []
words_for (Some part) = replicate part.size (word_as part.word true)

abbrev pub all_words : Parts → List FlatVariable
all_words [] = []
all_words (part ∷ parts) = words_for part ++ all_words parts
