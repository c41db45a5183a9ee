-- What is checked of ranges: each index is below the size of its array and no divisor may be 0, in all code, whether
-- a run reaches it or not. And how many iterations are counted for each loop.
use Rattle.std.specs.Prelude.{ℕ, ◌-◌, ◌==◌, ◌&&◌, ◌||◌, Bool, not, nat_lt, nat_le, List, [], ◌∷◌, ◌++◌, length, map}
use Rattle.std.specs.Prelude.{replicate, Option, None, Some, if◌then◌else◌, slice_set}
use Rattle.intervals.specs.Below.{array, assign, because, binary, BinaryOperator, branch, convert, declare, divides}
use Rattle.intervals.specs.Below.{Divisor, DivisorMayBeZero, element, first, FixedArray, FlatBlock, FlatProgram}
use Rattle.intervals.specs.Below.{FlatTree, FlatVariable, Form, hold, Index, IndexOutOfRange, Interval, is_secret, Kind}
use Rattle.intervals.specs.Below.{Label, loop, MutableArray, nothing, number, Param, Place, prefix, Public, put, rotate}
use Rattle.intervals.specs.Below.{Secret, select, SingleWord, skip, TermTree, truth, variable, Violation, when}
use Rattle.intervals.specs.Below.{WordType}
use Rattle.intervals.specs.Intervals.{Bounds, with_bound, between, interval, full_of}
use Rattle.intervals.specs.Narrowing.{where_true, where_false}

-- an index of this interval, where an array has so many elements
abbrev pub index_violations : Place → ℕ → Interval → List Violation
index_violations place size index =
    because (Index (record { index = index; length = size })) place (when (nat_le size index.high) IndexOutOfRange)

-- a divisor of this interval, where the operator divides
abbrev pub divisor_violations : Place → BinaryOperator → Interval → List Violation
divisor_violations place operator divisor =
    because (Divisor divisor) place (when (divides operator && divisor.low == 0) DivisorMayBeZero)

-- the violations in an expression, where this is known of the variables
abbrev pub term_violations : List FlatVariable → Bounds → TermTree → List Violation
term_violations declared bounds (number value kind) = []
term_violations declared bounds (truth value) = []
term_violations declared bounds (variable x) = []
term_violations declared bounds (prefix operator width operand) = term_violations declared bounds operand
term_violations declared bounds (binary place operator width left right) =
    term_violations declared bounds left ++ term_violations declared bounds right
    ++ divisor_violations place operator (interval declared bounds right)
term_violations declared bounds (rotate width operand amount) = term_violations declared bounds operand
term_violations declared bounds (convert kind operand) = term_violations declared bounds operand
term_violations declared bounds (select condition accepted otherwise) =
    term_violations declared bounds condition ++ term_violations declared bounds accepted
    ++ term_violations declared bounds otherwise
term_violations declared bounds (element place x size index) =
    term_violations declared bounds index ++ index_violations place size (interval declared bounds index)

abbrev pub terms_violations : List FlatVariable → Bounds → List TermTree → List Violation
terms_violations declared bounds [] = []
terms_violations declared bounds (e ∷ es) = term_violations declared bounds e ++ terms_violations declared bounds es

-- a public word that is not `mut` keeps its value
abbrev pub is_steady : WordType → Bool → Bool
is_steady word mutable = not (is_secret word.label || mutable)

-- how many iterations a loop makes at most, by the intervals of its bounds
abbrev pub most_iterations : Interval → Interval → ℕ
most_iterations low high = high.high - low.low

-- what a counter is: from the low of the first bound up to one below the high of the second; where there is no
-- iteration, the low
abbrev pub counter_interval : Interval → Interval → Interval
counter_interval low high = if nat_lt low.low high.high then between low.low (high.high - 1)
    else between low.low low.low

module _ (declared : List FlatVariable) where
  -- what is known after a statement: of what an arm or a loop declares nothing is said outside
  abbrev pub bounds_after : Bounds → FlatTree → Bounds
  bounds_after bounds (declare x word mutable value) =
      if is_steady word mutable then with_bound bounds x (interval declared bounds value) else bounds
  bounds_after bounds (array x word mutable size values) = bounds
  bounds_after bounds (assign x value) = bounds
  bounds_after bounds (put place x size index value) = bounds
  bounds_after bounds (hold x place size index) = with_bound bounds x (interval declared bounds index)
  bounds_after bounds skip = bounds
  bounds_after bounds (branch label condition accepted otherwise) = bounds
  bounds_after bounds (loop x low high body) = bounds

  abbrev pub bounds_after_all : Bounds → FlatBlock → Bounds
  bounds_after_all bounds nothing = bounds
  bounds_after_all bounds (first statement rest) = bounds_after_all (bounds_after bounds statement) rest

  -- what is known in the body of a loop
  abbrev pub in_loop : Bounds → ℕ → TermTree → TermTree → Bounds
  in_loop bounds x low high =
      with_bound bounds x (counter_interval (interval declared bounds low) (interval declared bounds high))

  abbrev mutual
    -- the violations in a statement
    pub violations : Bounds → FlatTree → List Violation
    violations bounds (declare x word mutable value) = term_violations declared bounds value
    violations bounds (array x word mutable size values) = terms_violations declared bounds values
    violations bounds (assign x value) = term_violations declared bounds value
    violations bounds (put place x size index value) =
        term_violations declared bounds index ++ index_violations place size (interval declared bounds index)
        ++ term_violations declared bounds value
    violations bounds (hold x place size index) =
        term_violations declared bounds index ++ index_violations place size (interval declared bounds index)
    violations bounds skip = []
    violations bounds (branch label condition accepted otherwise) =
        term_violations declared bounds condition
        ++ violations_all (where_true declared bounds label condition) accepted
        ++ violations_all (where_false declared bounds label condition) otherwise
    violations bounds (loop x low high body) =
        term_violations declared bounds low ++ term_violations declared bounds high
        ++ violations_all (in_loop bounds x low high) body

    pub violations_all : Bounds → FlatBlock → List Violation
    violations_all bounds nothing = []
    violations_all bounds (first statement rest) = violations bounds statement
        ++ violations_all (bounds_after bounds statement) rest

  abbrev mutual
    -- the iterations counted so far, and those of a statement's loops, each at its counter's number
    pub counted : Bounds → List ℕ → FlatTree → List ℕ
    counted bounds iterations (declare x word mutable value) = iterations
    counted bounds iterations (array x word mutable size values) = iterations
    counted bounds iterations (assign x value) = iterations
    counted bounds iterations (put place x size index value) = iterations
    counted bounds iterations (hold x place size index) = iterations
    counted bounds iterations skip = iterations
    counted bounds iterations (branch label condition accepted otherwise) =
        counted_all (where_false declared bounds label condition)
        (counted_all (where_true declared bounds label condition) iterations accepted) otherwise
    counted bounds iterations (loop x low high body) =
        counted_all (in_loop bounds x low high)
        (slice_set iterations x (most_iterations (interval declared bounds low) (interval declared bounds high))) body

    pub counted_all : Bounds → List ℕ → FlatBlock → List ℕ
    counted_all bounds iterations nothing = iterations
    counted_all bounds iterations (first statement rest) =
        counted_all (bounds_after bounds statement) (counted bounds iterations statement) rest

-- what is known of a parameter: a public word is something of its kind
abbrev pub bound_by : Form → Label → Kind → Option Interval
bound_by SingleWord Public kind = Some (full_of kind)
bound_by SingleWord Secret kind = None
bound_by FixedArray label kind = None
bound_by MutableArray label kind = None

abbrev pub bound_of : Param → Option Interval
bound_of p = bound_by p.form p.label p.kind

-- what is known where the body begins: nothing of what it declares
abbrev pub first_bounds : FlatProgram → Bounds
first_bounds p = map bound_of p.parameters ++ replicate (length p.declared - length p.parameters) None

abbrev pub result_violations : List FlatVariable → Bounds → Option TermTree → List Violation
result_violations declared bounds None = []
result_violations declared bounds (Some value) = term_violations declared bounds value

-- the violations in a program
abbrev pub range_violations : FlatProgram → List Violation
range_violations p =
    violations_all p.declared (first_bounds p) p.body
    ++ result_violations p.declared (bounds_after_all p.declared (first_bounds p) p.body) p.value

-- how many iterations are counted for each counter of a program, at its number
abbrev pub iterations_of : FlatProgram → List ℕ
iterations_of p = counted_all p.declared (first_bounds p) (replicate (length p.declared) 0) p.body
