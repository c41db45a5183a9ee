-- Code in which numbers are words.
use Rattle.std.specs.Prelude.{ℕ, List, [], ◌∷◌, Option, None, Some, if◌then◌else◌}
use Rattle.std.specs.Option.{option_map}
use Rattle.variable_room.specs.Below.{first, nothing, number, set, StraightBlock, StraightTree, TermTree, variable}
use Rattle.variable_room.specs.declared.number_words.uses.TypedNumber.{TypedNumber}
use Rattle.variable_room.specs.declared.number_words.words.NumberWord.{NumberWord}
use Rattle.variable_room.specs.number_words.private.Uses.{same_number}
use Rattle.straight_words.specs.private.Rewriting.{rewritten, rewritten_all, rewritten_in}

-- the variable of a number that is a word
abbrev pub word_of : TypedNumber → List NumberWord → Option ℕ
word_of n [] = None
word_of n (word ∷ words) = if same_number word.number n then Some word.variable else word_of n words

-- it stands in the place of the number
abbrev pub word_instead : List NumberWord → TermTree → Option TermTree
word_instead words (number value kind) = option_map variable (word_of (record { value = value; kind = kind }) words)
word_instead words _ = None

abbrev pub worded : List NumberWord → TermTree → TermTree
worded words = rewritten (word_instead words)

abbrev pub worded_in : List NumberWord → StraightTree → StraightTree
worded_in words = rewritten_in (word_instead words)

abbrev pub worded_all : List NumberWord → StraightBlock → StraightBlock
worded_all words = rewritten_all (word_instead words)

-- a word gets its number
abbrev pub setting_of : NumberWord → StraightTree
setting_of word = set None word.variable (number word.number.value word.number.kind)

-- so does each of these
abbrev pub settings : List NumberWord → StraightBlock
settings [] = nothing
settings (word ∷ words) = first (setting_of word) (settings words)
