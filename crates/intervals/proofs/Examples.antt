-- Intervals, narrowing, iterations and work by small examples: each is computed.
use Rattle.std.proofs.Common.{◌≡◌, ℕ, List, [], ◌∷◌, length, false, true, None, Some, refl}
use Rattle.intervals.specs.Below.{Add, array_as, binary, BinaryOperator, BitAnd, BitOr, BitXor, LogicalAnd, Complement}
use Rattle.intervals.specs.Below.{convert, declare, Divide, element, Equal, first, FlatBlock, FlatProgram, FlatVariable}
use Rattle.intervals.specs.Below.{Greater, hold, Interval, Label, labelled, Less, LessOrEqual, loop, Multiply, Negate}
use Rattle.intervals.specs.Below.{nothing, number, Public, put, Remainder, rotate, Secret, select, ShiftLeft}
use Rattle.intervals.specs.Below.{ShiftRight, skip, Subtract, TermTree, truth, Uint16, Uint32, Uint8, variable, W32, W8}
use Rattle.intervals.specs.Below.{Width, word_as}
use Rattle.intervals.specs.Intervals.{Bounds, between, interval, operated_interval, prefix_interval, converted_interval}
use Rattle.intervals.specs.Narrowing.{where_false, where_true}
use Rattle.intervals.specs.Ranges.{counter_interval, most_iterations, range_violations, iterations_of}
use Rattle.intervals.specs.Work.{work_of, work_violations}
use Rattle.word.specs.Places.{origin}
use Rattle.word.specs.declared.profile.Profile.TheVariants.{P1}

-- Operators: what an operator gives on operands between two bounds, where it wraps, and where it does not.

data Operated : Type 0 where
  gives : (operator : BinaryOperator) (width : Width) (left right result : Interval)
      → operated_interval operator width left right ≡ result → Operated

operators : List Operated
operators =
    gives Add W8 (between 3 5) (between 2 4) (between 5 9) refl
    ∷ gives Add W8 (between 0 200) (between 0 55) (between 0 255) refl
    ∷ gives Add W8 (between 10 200) (between 10 56) (between 0 255) refl
    ∷ gives Subtract W32 (between 4 9) (between 1 4) (between 0 8) refl
    ∷ gives Subtract W8 (between 3 9) (between 1 4) (between 0 255) refl
    ∷ gives Multiply W8 (between 2 3) (between 4 85) (between 8 255) refl
    ∷ gives Multiply W8 (between 2 4) (between 4 64) (between 0 255) refl
    ∷ gives Divide W8 (between 10 20) (between 3 4) (between 2 6) refl
    ∷ gives Divide W8 (between 10 20) (between 0 4) (between 0 255) refl
    ∷ gives Remainder W32 (between 0 100) (between 1 8) (between 0 7) refl
    ∷ gives Remainder W32 (between 0 3) (between 1 8) (between 0 3) refl
    ∷ gives BitAnd W32 (between 5 4294967295) (between 31 31) (between 0 31) refl
    ∷ gives ShiftRight W32 (between 16 40) (between 34 34) (between 4 10) refl
    ∷ gives ShiftRight W32 (between 16 40) (between 1 2) (between 0 40) refl
    ∷ gives ShiftLeft W8 (between 1 1) (between 1 1) (between 0 255) refl
    ∷ gives BitOr W8 (between 1 1) (between 2 2) (between 0 255) refl
    ∷ gives BitXor W8 (between 1 1) (between 2 2) (between 0 255) refl
    ∷ []

complement : prefix_interval Complement W8 ≡ between 0 255
complement = refl

negation : prefix_interval Negate W32 ≡ between 0 4294967295
negation = refl

narrower : converted_interval Uint8 (between 3 255) ≡ between 3 255
narrower = refl

cut : converted_interval Uint8 (between 3 256) ≡ between 0 255
cut = refl

-- Expressions: the numbers 0 and 1 are known variables, 2 may change, 3 is an array.

abbrev variables : List FlatVariable
variables =
    word_as (labelled Uint8 Public) false ∷ word_as (labelled Uint32 Public) false
    ∷ word_as (labelled Uint16 Public) true
    ∷ array_as (labelled Uint8 Secret) true 4 ∷ []

abbrev facts : Interval → Bounds
facts i = Some i ∷ Some (between 2 9) ∷ None ∷ None ∷ []

abbrev i : TermTree
i = variable 0

abbrev byte : ℕ → TermTree
byte v = number v Uint8

-- an expression where the first variable is within an interval
data Expression : Type 0 where
  lies : (known : Interval) (expression : TermTree) (result : Interval)
      → interval variables (facts known) expression ≡ result → Expression

expressions : List Expression
expressions =
    lies (between 0 255) (byte 7) (between 7 7) refl
    ∷ lies (between 3 4) i (between 3 4) refl
    ∷ lies (between 3 4) (variable 2) (between 0 65535) refl
    ∷ lies (between 3 4) (element origin 3 4 i) (between 0 255) refl
    ∷ lies (between 3 4) (rotate W8 i 1) (between 0 255) refl
    ∷ lies (between 3 4) (select (truth true) (byte 9) i) (between 3 9) refl
    ∷ lies (between 3 4) (convert Uint8 (truth true)) (between 0 1) refl
    ∷ []

-- Narrowing.

abbrev below : TermTree → TermTree → TermTree
below a b = binary origin Less W8 a b

abbrev at_most : TermTree → TermTree → TermTree
at_most a b = binary origin LessOrEqual W8 a b

abbrev equal : TermTree → TermTree → TermTree
equal a b = binary origin Equal W8 a b

abbrev both : TermTree → TermTree → TermTree
both a b = binary origin LogicalAnd W8 a b

abbrev free : Bounds
free = facts (between 0 255)

-- what is known where a condition with a label is true, and where it is false
data Narrowed : Type 0 where
  learned : (label : Label) (condition : TermTree) (accepted otherwise : Bounds)
      → where_true variables free label condition ≡ accepted → where_false variables free label condition ≡ otherwise
      → Narrowed

narrowed : List Narrowed
narrowed =
    learned Public (below i (byte 10)) (facts (between 0 9)) (facts (between 10 255)) refl refl
    ∷ learned Public (at_most i (byte 10)) (facts (between 0 10)) (facts (between 11 255)) refl refl
    ∷ learned Public (equal i (variable 1)) (facts (between 2 9)) free refl refl
    -- nothing is below 0 or above the top
    ∷ learned Public (below i (byte 0)) free free refl refl
    ∷ learned Public (at_most i (byte 255)) free free refl refl
    -- each part is met with what those before it left, unless nothing is left; where both together are false, either may be
    ∷ learned Public (both (at_most i (byte 5)) (below i (byte 10))) (facts (between 0 5)) free refl refl
    ∷ learned Public (both (both (below i (byte 10)) (truth true)) (equal i (byte 3))) (facts (between 3 3)) free refl refl
    ∷ learned Public (both (below i (byte 10)) (equal i (byte 20))) (facts (between 0 9)) free refl refl
    -- by other comparisons, by what may change, and by what is secret nothing is learned
    ∷ learned Public (binary origin Greater W8 (byte 10) i) free free refl refl
    ∷ learned Public (below (variable 2) (byte 10)) free free refl refl
    ∷ learned Secret (below i (byte 10)) free free refl refl
    ∷ []

-- Loops.

counter : counter_interval (between 1 3) (between 4 8) ≡ between 1 7
counter = refl

counter_without_iteration : counter_interval (between 5 9) (between 3 5) ≡ between 5 5
counter_without_iteration = refl

iterations : most_iterations (between 1 3) (between 4 8) ≡ 7
iterations = refl

no_iterations : most_iterations (between 5 9) (between 3 5) ≡ 0
no_iterations = refl

-- an empty loop from 0 up to a number
abbrev long : ℕ → FlatProgram
long n = record {
  profile = P1;
  place = origin;
  parameters = [];
  returned = None;
  nodes = 3;
  declared = word_as (labelled Uint32 Public) false ∷ [];
  body = first (loop 0 (number 0 Uint32) (number n Uint32) nothing) nothing;
  stretches = [];
  value = None;
  return_place = None;
}

counted : iterations_of (long 4294967293) ≡ 4294967293 ∷ []
counted = refl

work_at_the_limit : work_of (long 4294967293) ≡ 4294967296
work_at_the_limit = refl

within : length (work_violations (long 4294967293)) ≡ 0
within = refl

too_much : length (work_violations (long 4294967294)) ≡ 1
too_much = refl

-- a loop whose body reads an element at its counter
abbrev reads : ℕ → ℕ → FlatProgram
reads low high = record {
  profile = P1;
  place = origin;
  parameters = [];
  returned = None;
  nodes = 0;
  declared = array_as (labelled Uint8 Public) false 4 ∷ word_as (labelled Uint32 Public) false
      ∷ word_as (labelled Uint8 Public) false ∷ [];
  body =
      first (loop 1 (number low Uint32) (number high Uint32)
      (first (declare 2 (labelled Uint8 Public) false (element origin 0 4 (variable 1))) nothing)) nothing;
  stretches = [];
  value = None;
  return_place = None;
}

inside : length (range_violations (reads 0 4)) ≡ 0
inside = refl

outside : length (range_violations (reads 0 5)) ≡ 1
outside = refl

-- a loop that makes no iteration is checked with its first number
no_iteration_inside : length (range_violations (reads 3 0)) ≡ 0
no_iteration_inside = refl

no_iteration_outside : length (range_violations (reads 4 0)) ≡ 1
no_iteration_outside = refl

-- Calls, as they stand in a body.

-- a body whose variables are an array of 4 elements and three words
abbrev with_calls : FlatBlock → FlatProgram
with_calls body = record {
  profile = P1;
  place = origin;
  parameters = [];
  returned = None;
  nodes = 0;
  declared =
      array_as (labelled Uint8 Public) true 4 ∷ word_as (labelled Uint32 Public) false
      ∷ word_as (labelled Uint32 Public) false
      ∷ word_as (labelled Uint8 Public) false ∷ [];
  body = body;
  stretches = [];
  value = None;
  return_place = None;
}

-- a called body reads an element at its parameter, which is the counter of a loop around the call
abbrev passes : ℕ → FlatProgram
passes high =
    with_calls (first (loop 1 (number 0 Uint32) (number high Uint32)
    (first skip (first (declare 2 (labelled Uint32 Public) false (variable 1))
    (first skip (first (declare 3 (labelled Uint8 Public) false (element origin 0 4 (variable 2))) nothing)))))
    nothing)

passed_inside : length (range_violations (passes 4)) ≡ 0
passed_inside = refl

passed_outside : length (range_violations (passes 5)) ≡ 1
passed_outside = refl

-- its result, one more than its parameter, is the index of an element
abbrev gives_back : ℕ → FlatProgram
gives_back argument =
    with_calls (first skip (first (declare 1 (labelled Uint32 Public) false (number argument Uint32))
    (first skip
    (first (declare 2 (labelled Uint32 Public) false (binary origin Add W32 (variable 1) (number 1 Uint32)))
    (first (declare 3 (labelled Uint8 Public) false (element origin 0 4 (variable 2))) nothing)))))

given_inside : length (range_violations (gives_back 2)) ≡ 0
given_inside = refl

given_outside : length (range_violations (gives_back 3)) ≡ 1
given_outside = refl

-- an index is held until an element is assigned to
abbrev holds : ℕ → FlatProgram
holds index =
    with_calls (first (hold 1 origin 4 (number index Uint32))
    (first (put origin 0 4 (variable 1) (number 7 Uint8)) nothing))

held_inside : length (range_violations (holds 3)) ≡ 0
held_inside = refl

-- it is out of range where it is held, and again where it is used
held_outside : length (range_violations (holds 4)) ≡ 2
held_outside = refl

-- the work of a call is that of its own node, the words passed and the called body
work_of_calls : work_of (gives_back 2) ≡ 11
work_of_calls = refl
