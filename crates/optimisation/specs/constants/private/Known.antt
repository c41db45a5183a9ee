-- What is known of the variables, and what statements leave of it.
use Rattle.std.specs.Prelude.{ℕ, ◌==◌, ◌||◌, Bool, not, List, [], ◌∷◌, ◌++◌, filter, length, map, Option, None}
use Rattle.std.specs.Prelude.{Some, if◌then◌else◌, nat_lt, slice_get, slice_set, unwrap_or}
use Rattle.std.specs.List.{remove}
use Rattle.optimisation.specs.Below.{array, branch, first, nothing, put, repeats, set, StraightBlock, StraightTree}
use Rattle.optimisation.specs.Below.{take}
use Rattle.optimisation.specs.declared.constants.known.Constant.{Constant}
use Rattle.optimisation.specs.declared.constants.known.KnownWords.{KnownWords}
use Rattle.optimisation.specs.declared.constants.known.WordCopy.{WordCopy}

-- a number for each variable whose word is known, at the variable's number, and the last words that have the value of
-- another one, the oldest first
pub record WordFacts : Type 0 where
  pub numbers : List (Option Constant)
  pub copies : List WordCopy

abbrev pub words_of : KnownWords → WordFacts
words_of known = record { numbers = known.words.items; copies = known.copies.items }

-- the word of a variable, where it is known
abbrev pub word_at : List (Option Constant) → ℕ → Option Constant
word_at numbers x = unwrap_or (slice_get numbers x) None

abbrev pub known : WordFacts → ℕ → Option Constant
known words x = word_at words.numbers x

-- the variable whose value this one has: itself, where no other is known
abbrev pub source_in : List WordCopy → ℕ → ℕ
source_in [] x = x
source_in (c ∷ copies) x = if c.variable == x then c.source else source_in copies x

-- a copy of two other words than this one
abbrev pub is_apart : ℕ → WordCopy → Bool
is_apart x c = not (c.variable == x || c.source == x)

-- this is the word of this variable, or it is not known; and it is no other one's copy, nor another one its
abbrev pub with_word : WordFacts → ℕ → Option Constant → WordFacts
with_word words x word = record {
  numbers = slice_set words.numbers x word;
  copies = filter (is_apart x) words.copies;
}

-- of this variable nothing is known
abbrev pub without : WordFacts → ℕ → WordFacts
without words x = with_word words x None

-- at most 16 copies are known: the oldest goes before the next comes
abbrev pub latest : List WordCopy → List WordCopy
latest copies = if nat_lt (length copies) 16 then copies else remove copies 0

-- one copy more
abbrev pub with_copy : WordFacts → WordCopy → WordFacts
with_copy words c = record { numbers = words.numbers; copies = latest words.copies ++ c ∷ [] }

abbrev mutual
  -- of what a statement sets nothing is known
  pub forgotten : WordFacts → StraightTree → WordFacts
  forgotten words (set within x value) = without words x
  forgotten words (array x size values) = without words x
  forgotten words (put within place x size index value) = without words x
  forgotten words (take control within condition) = words
  forgotten words (branch condition accepted otherwise) = forgotten_all (forgotten_all words accepted) otherwise
  forgotten words (repeats x low high body) = forgotten_all (without words x) body

  pub forgotten_all : WordFacts → StraightBlock → WordFacts
  forgotten_all words nothing = words
  forgotten_all words (first statement rest) = forgotten_all (forgotten words statement) rest

-- a word that one instruction holds as a number
abbrev pub short : Option Constant → Option Constant
short None = None
short (Some c) = if nat_lt c.value 2048 then Some c else None

abbrev pub all_short : WordFacts → WordFacts
all_short words = record { numbers = map short words.numbers; copies = words.copies }

-- within a loop, in each of its iterations: longer numbers are read from their variables there
abbrev pub in_loop : WordFacts → ℕ → StraightBlock → WordFacts
in_loop words x body = forgotten_all (without (all_short words) x) body

-- behind an arm or an iteration, which may have run or not: of what it sets nothing is known
abbrev pub behind : WordFacts → StraightBlock → WordFacts
behind words body = forgotten_all words body
