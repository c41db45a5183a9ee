-- How words share variables: from the last statement back to the first, what is live is carried along.
use Rattle.std.specs.Prelude.{ℕ, Bool, true, false, [], map, Option, None, Some, if◌then◌else◌}
use Rattle.straight_words.specs.Below.{array, branch, first, nothing, number, put, repeats, set, StraightBlock}
use Rattle.straight_words.specs.Below.{StraightTree, take, TermTree}
use Rattle.straight_words.specs.live_words.private.Held.{Table, Held, share, anew, fitting, living, setting, counting}
use Rattle.straight_words.specs.live_words.private.Held.{joined, covers}
use Rattle.straight_words.specs.live_words.private.Terms.{reading, reading_all, renamed, is_dead}
use Rattle.straight_words.specs.live_words.private.Gathering.{at_head}

-- before a word is set, which keeps what it holds where a control value around it is false
abbrev pub setting_within : Table → Held → Option ℕ → ℕ → Held
setting_within table held None x = setting table held x
setting_within table held (Some control) x = living table held x

-- before an array's element is set at an index to a value
abbrev pub before_put : Table → Held → ℕ → TermTree → TermTree → Held
before_put table held x index value =
    reading table [] (reading table [] (living table held x) value) index

-- before a branch, where this is live before its second arm and this before its first
abbrev pub before_arms : Table → TermTree → Held → Held → Held
before_arms table condition second one = reading table [] (joined one 0 second.holders) condition

-- where an iteration of a loop may begin or the loop is over, and this is live before an iteration with its counter:
-- what is live before an iteration has to be live there
abbrev pub closed_by : Held → Held → Held
closed_by head iteration = fitting (anew iteration head.holders) (covers head.holders 0 iteration.holders)

abbrev pub closed : Table → ℕ → Held → Held → Held
closed table x head iteration = closed_by head (setting table iteration x)

-- whether a loop goes from a number to a number
abbrev pub are_numbers : TermTree → TermTree → Bool
are_numbers (number low kind) (number high other) = true
are_numbers low high = false

-- what is live where an iteration ends
abbrev pub at_iteration : Table → Held → ℕ → TermTree → TermTree → StraightBlock → Held
at_iteration table held x low high body = counting table (at_head table held x body) x (are_numbers low high)

abbrev pub before_bounds : Table → TermTree → TermTree → Held → Held
before_bounds table low high held = reading table [] (reading table [] held high) low

abbrev mutual
  -- what is live before a statement
  pub before : Table → Held → StraightTree → Held
  before table held (set within x value) =
      if is_dead table held x value then held else reading table [] (setting_within table held within x) value
  before table held (array x size values) = reading_all table [] (setting table held x) values
  before table held (put within place x size index value) = before_put table held x index value
  before table held (take control within condition) = reading table [] held condition
  before table held (branch condition accepted otherwise) =
      before_arms table condition (before_all table held otherwise)
      (before_all table (anew (before_all table held otherwise) held.holders) accepted)
  before table held (repeats x low high body) =
      before_bounds table low high
      (closed table x (at_head table held x body)
      (before_all table (at_iteration table held x low high body) body))

  -- and before some statements
  pub before_all : Table → Held → StraightBlock → Held
  before_all table held nothing = held
  before_all table held (first statement rest) = before table (before_all table held rest) statement

-- a block with a statement in front of it, where there is one
abbrev pub in_front : Option StraightTree → StraightBlock → StraightBlock
in_front None rest = rest
in_front (Some statement) rest = first statement rest

abbrev mutual
  -- a statement over the variables that words live in, where it is not left out
  pub shared : Table → Held → StraightTree → Option StraightTree
  shared table held (set within x value) =
      if is_dead table held x value then None else Some (set within (share table x) (renamed table value))
  shared table held (array x size values) = Some (array (share table x) size (map (renamed table) values))
  shared table held (put within place x size index value) =
      Some (put within place (share table x) size (renamed table index) (renamed table value))
  shared table held (take control within condition) = Some (take control within (renamed table condition))
  shared table held (branch condition accepted otherwise) =
      Some (branch (renamed table condition)
      (shared_all table (anew (before_all table held otherwise) held.holders) accepted)
      (shared_all table held otherwise))
  shared table held (repeats x low high body) =
      Some (repeats (share table x) (renamed table low) (renamed table high)
      (shared_all table (at_iteration table held x low high body) body))

  pub shared_all : Table → Held → StraightBlock → StraightBlock
  shared_all table held nothing = nothing
  shared_all table held (first statement rest) =
      in_front (shared table (before_all table held rest) statement) (shared_all table held rest)

-- the statements from the last to the first, and what follows them
abbrev pub onto : StraightBlock → StraightBlock → StraightBlock
onto nothing rest = rest
onto (first statement backwards) rest = onto backwards (first statement rest)
