-- An array whose elements straight code sets before it reads them. Seen forwards, with which elements were set. A loop
-- between numbers that are known is followed one iteration after the other; of what else may run or not, nothing that
-- it sets counts behind it.
use Rattle.std.specs.Prelude.{ℕ, zero, suc, ◌+◌, ◌-◌, ◌/◌, ◌==◌, ◌&&◌, ◌||◌, Bool, true, false, not, max, nat_le, List}
use Rattle.std.specs.Prelude.{[], ◌∷◌, length, replicate, Option, None, Some, is_none, is_some, if◌then◌else◌}
use Rattle.std.specs.Prelude.{slice_get, slice_set, unwrap_or}
use Rattle.std.specs.Bool.{then_some}
use Rattle.std.specs.Option.{option_and_then}
use Rattle.variable_room.specs.Below.{array, binary, BinaryOperator, branch, convert, element, first, nothing, number}
use Rattle.variable_room.specs.Below.{prefix, put, repeats, rotate, select, set, StraightBlock, StraightTree, take}
use Rattle.variable_room.specs.Below.{TermTree, truth, variable, Width}
use Rattle.optimisation.specs.constants.private.Folding.{folded}
use Rattle.optimisation.specs.declared.constants.terms.CounterRange.{CounterRange}
use Rattle.variable_room.specs.declared.set_whole.watch.ArrayWatch.{ArrayWatch}
use Rattle.variable_room.specs.declared.set_whole.watch.Counter.{Counter}

-- The array that is watched, how many iterations of a loop are followed one after the other at most, and the counters
-- of the loops around that are followed, the innermost first, each at its number.
pub record Watch : Type 0 where
  pub array : ℕ
  pub room : ℕ
  pub counters : List Counter

-- the same, as it lies in memory
abbrev pub watch_of : ArrayWatch → Watch
watch_of w = record { array = w.array; room = w.room; counters = w.counters.items }

-- which elements of the array were set
abbrev pub Flags : Type 0
Flags = List Bool

abbrev pub all_set : Flags → Bool
all_set [] = true
all_set (flag ∷ flags) = flag && all_set flags

-- an element at a number that is known was set
abbrev pub is_set : Flags → Option ℕ → Bool
is_set flags None = false
is_set flags (Some i) = unwrap_or (slice_get flags i) false

-- and here it is
abbrev pub with_set : Flags → Option ℕ → Flags
with_set flags None = flags
with_set flags (Some i) = slice_set flags i true

-- Numbers.

-- the number of a counter, where it is known
abbrev pub number_at : List Counter → ℕ → Option ℕ
number_at [] y = None
number_at (c ∷ counters) y = if c.variable == y then Some c.number else number_at counters y

-- the value between two numbers, where both are known and they have one
abbrev pub between : BinaryOperator → Width → Option ℕ → Option ℕ → Option ℕ
between operator width (Some a) (Some b) = folded operator width a b
between operator width _ _ = None

-- the number that an expression is, where it is made of numbers and of counters that are known
abbrev pub number_of : List Counter → TermTree → Option ℕ
number_of counters (number value kind) = Some value
number_of counters (truth value) = None
number_of counters (variable y) = number_at counters y
number_of counters (prefix operator width operand) = None
number_of counters (binary place operator width left right) =
    between operator width (number_of counters left) (number_of counters right)
number_of counters (rotate width operand amount) = None
number_of counters (convert kind operand) = None
number_of counters (select condition accepted otherwise) = None
number_of counters (element place y size index) = None

-- Expressions.

-- an element of another array may be read, and one of this array that was set
abbrev pub may_read_element : Watch → Flags → ℕ → TermTree → Bool
may_read_element w flags y index = not (y == w.array) || all_set flags || is_set flags (number_of w.counters index)

-- an expression reads no element of the array that was not set
abbrev pub may_read : Watch → Flags → TermTree → Bool
may_read w flags (number value kind) = true
may_read w flags (truth value) = true
may_read w flags (variable y) = not (y == w.array)
may_read w flags (prefix operator width operand) = may_read w flags operand
may_read w flags (binary place operator width left right) = may_read w flags left && may_read w flags right
may_read w flags (rotate width operand amount) = may_read w flags operand
may_read w flags (convert kind operand) = may_read w flags operand
may_read w flags (select condition accepted otherwise) =
    may_read w flags condition && may_read w flags accepted && may_read w flags otherwise
may_read w flags (element place y size index) = may_read w flags index && may_read_element w flags y index

abbrev pub may_read_all : Watch → Flags → List TermTree → Bool
may_read_all w flags [] = true
may_read_all w flags (e ∷ es) = may_read w flags e && may_read_all w flags es

-- Statements.

-- a variable that may be set: no counter whose number is known
abbrev pub is_free : Watch → ℕ → Bool
is_free w y = is_none (number_at w.counters y)

-- and not the array
abbrev pub is_apart : Watch → ℕ → Bool
is_apart w y = not (y == w.array) && is_free w y

-- how many elements a new array has: as many as values are given, or so many where none are
abbrev pub elements_of : ℕ → List TermTree → ℕ
elements_of size [] = size
elements_of size (e ∷ es) = length (e ∷ es)

-- once a new array of so many elements is set: where it is this one, all of its elements were
abbrev pub filled : Watch → Flags → ℕ → ℕ → Option Flags
filled w flags y count =
    if y == w.array then then_some (count == length flags) (replicate (length flags) true) else Some flags

-- once an element of an array is set; within a control value it may be kept
abbrev pub put_in : Watch → Flags → Option ℕ → ℕ → TermTree → Flags
put_in w flags None y index = if y == w.array then with_set flags (number_of w.counters index) else flags
put_in w flags (Some control) y index = flags

-- the numbers of a loop's counter, where both its bounds are known, and it makes no more iterations than this
abbrev pub range_of : ℕ → Option ℕ → Option ℕ → Option CounterRange
range_of room (Some low) (Some high) =
    if nat_le (high - low) room then Some (record { low = low; high = high }) else None
range_of room _ _ = None

-- in an iteration of a loop that is followed; the more iterations it has, the fewer of another one are followed in it
abbrev pub in_iteration : Watch → ℕ → CounterRange → ℕ → Watch
in_iteration w y range i = record {
  array = w.array;
  room = w.room / max 1 (range.high - range.low);
  counters = record { variable = y; number = i } ∷ w.counters;
}

-- so many iterations, the first at this number
abbrev pub through : ℕ → ℕ → (ℕ → Flags → Option Flags) → Flags → Option Flags
through zero i each flags = Some flags
through (suc n) i each flags = option_and_then (through n (i + 1) each) (each i flags)

-- behind a loop: where its iterations are followed what they set was set, and else what was before any of them
abbrev pub behind_loop : Option CounterRange → (CounterRange → ℕ → Flags → Option Flags) → Option Flags → Flags
    → Option Flags
behind_loop (Some range) each any flags = through (range.high - range.low) range.low (each range) flags
behind_loop None each any flags = then_some (is_some any) flags

abbrev mutual
  -- which elements were set once a statement has run, where it reads none that was not
  pub watched : Watch → Flags → StraightTree → Option Flags
  watched w flags (set within y value) = then_some (is_apart w y && may_read w flags value) flags
  watched w flags (array y size values) =
      if is_free w y && may_read_all w flags values then filled w flags y (elements_of size values) else None
  watched w flags (put within place y size index value) =
      then_some (is_free w y && may_read w flags index && may_read w flags value) (put_in w flags within y index)
  watched w flags (take control within condition) = then_some (may_read w flags condition) flags
  watched w flags (branch condition accepted otherwise) =
      then_some (may_read w flags condition && is_some (watched_all w flags accepted)
      && is_some (watched_all w flags otherwise)) flags
  watched w flags (repeats y low high body) =
      if is_apart w y && may_read w flags low && may_read w flags high
      then behind_loop (range_of w.room (number_of w.counters low) (number_of w.counters high))
      (λ range i next. watched_all (in_iteration w y range i) next body) (watched_all w flags body) flags
      else None

  -- and once some statements have
  pub watched_all : Watch → Flags → StraightBlock → Option Flags
  watched_all w flags nothing = Some flags
  watched_all w flags (first statement rest) =
      option_and_then (λ next. watched_all w next rest) (watched w flags statement)
