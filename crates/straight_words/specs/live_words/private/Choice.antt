-- Which words share a variable. They are placed one after the other, those first that are used most, of equal ones that
-- of the lower number first. Each takes the first variable of a word placed before that is of its type and with whose
-- words it is in no conflict, else its own. So words that are used little join those that are used much, which get
-- registers. A word that nobody uses keeps its own.
use Rattle.std.specs.Prelude.{ℕ, zero, suc, ◌+◌, ◌*◌, ◌==◌, ◌&&◌, ◌||◌, Bool, true, false, not, List, [], ◌∷◌, ◌++◌}
use Rattle.std.specs.Prelude.{Option, None, Some, if◌then◌else◌, nat_le, slice_get, slice_index, slice_set, take}
use Rattle.std.specs.Prelude.{unwrap_or}
use Rattle.straight_words.specs.Below.{FlatVariable, greatest_of, heaviest, without_greatest}
use Rattle.straight_words.specs.declared.live_words.choice.Placed.{Placed}
use Rattle.straight_words.specs.declared.live_words.choice.WordCandidates.{WordCandidates}
use Rattle.straight_words.specs.private.SameWords.{are_alike}
use Rattle.straight_words.specs.live_words.private.Held.{Table, Holders, holder}

-- two words are in conflict: that of one with the other is noted
abbrev pub is_noted : List Bool → ℕ → ℕ → ℕ → Bool
is_noted conflicts width x y = unwrap_or (slice_get conflicts (x * width + y)) true

abbrev pub is_conflict : List Bool → ℕ → ℕ → ℕ → Bool
is_conflict conflicts width x y = is_noted conflicts width x y || is_noted conflicts width y x

-- what is chosen from: the variables, how many iterations are counted for the loop of each, what is live at the
-- beginning, and how many words may share, the first ones
pub record Words : Type 0 where
  pub declared : List FlatVariable
  pub iterations : List ℕ
  pub starts : Holders
  pub width : ℕ

-- what the code chooses from
abbrev pub words_of : WordCandidates → Words
words_of words = record {
  declared = words.declared.now;
  iterations = words.iterations.now;
  starts = words.starts.now;
  width = words.width;
}

abbrev pub is_some : Option ℕ → Bool
is_some None = false
is_some (Some x) = true

-- a word keeps its variable: some counters do, and what is live at the beginning
abbrev pub is_fixed : Holders → List Bool → ℕ → ℕ → Bool
is_fixed starts conflicts width x = is_some (holder starts x) || is_conflict conflicts width x x

-- a word may share this variable, in which another is placed, where as many iterations are counted for its loops
abbrev pub may_share : Words → List Bool → ℕ → ℕ → Bool
may_share words conflicts x v =
    are_alike (slice_get words.declared x) (slice_get words.declared v)
    && not (is_conflict conflicts words.width v x)
    && nat_le (slice_index words.iterations x) (slice_index words.iterations v)

-- of some variables the first that a word may share, else its own
abbrev pub first_shared : Words → List Bool → ℕ → List ℕ → ℕ
first_shared words conflicts x [] = x
first_shared words conflicts x (v ∷ variables) =
    if may_share words conflicts x v then v else first_shared words conflicts x variables

abbrev pub noted_where : Bool → List Bool → ℕ → ℕ → ℕ → List Bool
noted_where both conflicts width x y = if both then slice_set conflicts (x * width + y) true else conflicts

-- what a word is in conflict with is in conflict with this variable's word too, for so many words from y on
abbrev pub merged : List Bool → ℕ → ℕ → ℕ → ℕ → ℕ → List Bool
merged conflicts width v x zero y = conflicts
merged conflicts width v x (suc count) y =
    merged (noted_where (is_conflict conflicts width x y) conflicts width v y) width v x count (y + 1)

abbrev pub variable_for : Words → List Bool → List ℕ → ℕ → ℕ
variable_for words conflicts variables x =
    if is_fixed words.starts conflicts words.width x then x else first_shared words conflicts x variables

abbrev pub conflicts_with : List Bool → ℕ → ℕ → ℕ → List Bool
conflicts_with conflicts width v x = if v == x then conflicts else merged conflicts width v x width 0

-- The words that are placed.

pub record Placing : Type 0 where
  -- of the first word of a variable, all that words of this variable are in conflict with
  pub conflicts : List Bool
  -- the variables that words are placed in, in the order of placing
  pub variables : List ℕ
  pub table : Table

-- what the code carries along
abbrev pub placing_by : Placed → Placing
placing_by placed = record {
  conflicts = placed.conflicts.items;
  variables = placed.variables.items;
  table = placed.table.items;
}

abbrev pub with_own : List ℕ → ℕ → ℕ → List ℕ
with_own variables v x = if v == x then variables ++ x ∷ [] else variables

-- with the word x in the variable v
abbrev pub placed_in : ℕ → Placing → ℕ → ℕ → Placing
placed_in width placing x v = record {
  conflicts = conflicts_with placing.conflicts width v x;
  variables = with_own placing.variables v x;
  table = slice_set placing.table x v;
}

abbrev pub placed : Words → Placing → ℕ → Placing
placed words placing x =
    placed_in words.width placing x (variable_for words placing.conflicts placing.variables x)

-- with so many more words, by the weights of those that are not placed
abbrev pub placed_all : Words → ℕ → List ℕ → Placing → Placing
placed_all words zero weights placing = placing
placed_all words (suc count) weights placing =
    if greatest_of weights == 0 then placing
    else placed_all words count (without_greatest weights) (placed words placing (heaviest weights))

-- so many words from x on in their own variables
abbrev pub own_variables : ℕ → ℕ → Table
own_variables zero x = []
own_variables (suc count) x = x ∷ own_variables count (x + 1)

abbrev pub none_placed : ℕ → List Bool → Placing
none_placed width conflicts = record { conflicts = conflicts; variables = []; table = own_variables width 0 }

-- the table of words of these weights
abbrev pub chosen : Words → List ℕ → List Bool → Table
chosen words weights conflicts =
    (placed_all words words.width (take words.width weights) (none_placed words.width conflicts)).table
