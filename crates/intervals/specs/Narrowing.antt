-- What a public condition tells in its arms of names that keep their values.
use Rattle.std.specs.Prelude.{ℕ, ◌+◌, ◌-◌, Bool, true, false, nat_lt, nat_le, min, max, List, [], ◌∷◌, ◌++◌, Option}
use Rattle.std.specs.Prelude.{None, Some, if◌then◌else◌}
use Rattle.std.specs.Option.{option_to_list}
use Rattle.intervals.specs.Below.{binary, BinaryOperator, LogicalAnd, convert, element, Equal, FlatVariable, Interval}
use Rattle.intervals.specs.Below.{Label, Less, LessOrEqual, number, prefix, Public, rotate, Secret, select, TermTree}
use Rattle.intervals.specs.Below.{truth, variable}
use Rattle.intervals.specs.declared.said.SaidOfVariable.{SaidOfVariable}
use Rattle.intervals.specs.Intervals.{Bounds, known, with_bound, between, interval, full_at}

-- What is said.

-- that a variable lies from one number to another
abbrev pub says : ℕ → ℕ → ℕ → Option SaidOfVariable
says x low high = Some (record { variable = x; interval = between low high })

-- what a comparison of a variable with a number of this interval tells where it is true: no number is below 0
abbrev pub said_where_true : BinaryOperator → ℕ → Interval → Option SaidOfVariable
said_where_true Less x e = if nat_lt 0 e.high then says x 0 (e.high - 1) else None
said_where_true LessOrEqual x e = says x 0 e.high
said_where_true Equal x e = says x e.low e.high
said_where_true _ x e = None

-- and where it is false; the greatest number that the variable may be is given, and none is above it
abbrev pub said_where_false : BinaryOperator → ℕ → ℕ → Interval → Option SaidOfVariable
said_where_false Less x greatest e = says x e.low greatest
said_where_false LessOrEqual x greatest e = if nat_lt e.low greatest then says x (e.low + 1) greatest else None
said_where_false _ x greatest e = None

-- the variable that an expression is
abbrev pub named : TermTree → Option ℕ
named (number value kind) = None
named (truth value) = None
named (variable x) = Some x
named (prefix operator width operand) = None
named (binary place operator width left right) = None
named (rotate width operand amount) = None
named (convert kind operand) = None
named (select condition accepted otherwise) = None
named (element place x size index) = None

-- the same of a comparison whose left operand is this variable, or none
abbrev pub told_where_true : BinaryOperator → Option ℕ → Interval → Option SaidOfVariable
told_where_true operator None e = None
told_where_true operator (Some x) e = said_where_true operator x e

abbrev pub told_where_false : List FlatVariable → BinaryOperator → Option ℕ → Interval → Option SaidOfVariable
told_where_false declared operator None e = None
told_where_false declared operator (Some x) e = said_where_false operator x (full_at declared x).high e

abbrev pub is_both : BinaryOperator → Bool
is_both LogicalAnd = true
is_both _ = false

-- what a condition tells where it is true: it is taken apart at `&&`, from left to right. All parts are read by what
-- is known before any of them
abbrev pub told_true : List FlatVariable → Bounds → TermTree → List SaidOfVariable
told_true declared bounds (number value kind) = []
told_true declared bounds (truth value) = []
told_true declared bounds (variable x) = []
told_true declared bounds (prefix operator width operand) = []
told_true declared bounds (binary place operator width left right) =
    if is_both operator then told_true declared bounds left ++ told_true declared bounds right
    else option_to_list (told_where_true operator (named left) (interval declared bounds right))
told_true declared bounds (rotate width operand amount) = []
told_true declared bounds (convert kind operand) = []
told_true declared bounds (select condition accepted otherwise) = []
told_true declared bounds (element place x size index) = []

-- and where it is false: only as a whole
abbrev pub told_false : List FlatVariable → Bounds → TermTree → Option SaidOfVariable
told_false declared bounds (number value kind) = None
told_false declared bounds (truth value) = None
told_false declared bounds (variable x) = None
told_false declared bounds (prefix operator width operand) = None
told_false declared bounds (binary place operator width left right) =
    told_where_false declared operator (named left) (interval declared bounds right)
told_false declared bounds (rotate width operand amount) = None
told_false declared bounds (convert kind operand) = None
told_false declared bounds (select condition accepted otherwise) = None
told_false declared bounds (element place x size index) = None

-- What is known then.

-- the common part of two intervals, where there is one
abbrev pub meet : Interval → Interval → Option Interval
meet a b = if nat_le (max a.low b.low) (min a.high b.high)
    then Some (between (max a.low b.low) (min a.high b.high)) else None

-- an empty meet is passed over
abbrev pub with_meet : Bounds → ℕ → Option Interval → Bounds
with_meet bounds x None = bounds
with_meet bounds x (Some i) = with_bound bounds x i

-- what is said of a variable of which something is known is met with that
abbrev pub met_at : Bounds → ℕ → Option Interval → Interval → Bounds
met_at bounds x None i = bounds
met_at bounds x (Some before) i = with_meet bounds x (meet before i)

abbrev pub met : Bounds → SaidOfVariable → Bounds
met bounds said = met_at bounds said.variable (known bounds said.variable) said.interval

abbrev pub met_all : Bounds → List SaidOfVariable → Bounds
met_all bounds [] = bounds
met_all bounds (said ∷ rest) = met_all (met bounds said) rest

-- what is known in the arm where the condition is true, and in the other; a secret condition tells nothing
abbrev pub where_true : List FlatVariable → Bounds → Label → TermTree → Bounds
where_true declared bounds Public condition = met_all bounds (told_true declared bounds condition)
where_true declared bounds Secret condition = bounds

abbrev pub where_false : List FlatVariable → Bounds → Label → TermTree → Bounds
where_false declared bounds Public condition = met_all bounds (option_to_list (told_false declared bounds condition))
where_false declared bounds Secret condition = bounds
