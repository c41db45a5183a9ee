-- The code of what a branch tests of a condition: the test says whether the condition holds.
use Rattle.std.proofs.Common.{◌≡◌, ℕ, ◌+◌, ◌*◌, ◌<◌, ◌≤◌, ◌==◌, Bool, true, false, not, cond, if◌then◌else◌, nat_lt}
use Rattle.std.proofs.Common.{nat_le, [], ◌++◌, Option, None, Some, refl, sym, ap, ap₂, ◌∙◌, subst, arith, append-nil}
use Rattle.codegen.proofs.Choices.{choice_of, of_choice}
use Rattle.codegen.proofs.Language.{TermHasType, Path, Place, StraightState, TermTree, WordType, path_in, term_nodes}
use Rattle.codegen.proofs.Language.{types_of, value_in, word_of}
use Rattle.codegen.proofs.Logic.{along, base_of, cheaper, gives, idle, Kept, kept_then, known, nat_tests, none-some}
use Rattle.codegen.proofs.Logic.{layout_of}
use Rattle.codegen.proofs.Logic.{Ready, register-at, Runs, same_Some, seq, Setting, steps_of}
use Rattle.codegen.proofs.Machine.{between, condition_code, failing, gives_zero, height_of, operands_code, operands_or}
use Rattle.codegen.proofs.Machine.{read_code, read_register, right_code, right_register, slots_to, test_of, test_or}
use Rattle.codegen.proofs.PairRuns.{FirstRead, second_runs}
use Rattle.codegen.proofs.Slots.{read_runs, read_source, ready_valued}
use Rattle.codegen.specs.declared.comparing.Comparison.{Comparison}
use Rattle.codegen.specs.declared.jumping.Test.{Test}
use Rattle.codegen.specs.private.Compared.{against_zero}
use Rattle.codegen.specs.Below.{binary, BinaryOperator, Equal, Greater, GreaterOrEqual, holds, Less, LessOrEqual}
use Rattle.codegen.specs.Below.{marks_of, of_binary, operated, register, Unequal, Width}
use Rattle.rv_machine.specs.Machine as machine
use Rattle.expression_code.proofs.NumberCode.{zero_known}

-- Comparisons.

-- whether two operands pass the test of a comparison
abbrev are_passing : Comparison → ℕ → ℕ → Bool
are_passing c a b = if c.is_swapped then holds c.test b a else holds c.test a b

-- they do where it does not hold, and a comparison puts nothing on the path
record TestsOpposite (operator : BinaryOperator) (c : Comparison) : Type 0 where
  quiet : (place : Place) (a b : ℕ) → marks_of place operator a b ≡ []
  decides : (w : Width) (a b : ℕ) → are_passing c a b ≡ (operated operator w a b == 0)

none_where : (b : Bool) → not b ≡ (word_of b == 0)
none_where true = refl
none_where false = refl

none_where_not : (b : Bool) → b ≡ (word_of (not b) == 0)
none_where_not true = refl
none_where_not false = refl

not_less : (a b : ℕ) → nat_le b a ≡ (word_of (nat_lt a b) == 0)
not_less a b = grind (arith, nat_tests)

not_most : (a b : ℕ) → nat_lt b a ≡ (word_of (nat_le a b) == 0)
not_most a b = grind (arith, nat_tests)

fails_by : (operator : BinaryOperator) {c d : Comparison} → Some d ≡ Some c
    → ((place : Place) (a b : ℕ) → marks_of place operator a b ≡ [])
    → ((w : Width) (a b : ℕ) → are_passing d a b ≡ (operated operator w a b == 0)) → TestsOpposite operator c
fails_by operator is quiet decides =
    subst (TestsOpposite operator) (same_Some _ _ is) (record { quiet = quiet; decides = decides })

fails : (operator : BinaryOperator) (c : Comparison) → failing operator ≡ Some c → TestsOpposite operator c
fails Equal c is = fails_by Equal is (λ place a b. refl) (λ w a b. none_where (a == b))
fails Unequal c is = fails_by Unequal is (λ place a b. refl) (λ w a b. none_where_not (a == b))
fails Less c is = fails_by Less is (λ place a b. refl) (λ w a b. not_less a b)
fails LessOrEqual c is = fails_by LessOrEqual is (λ place a b. refl) (λ w a b. not_most a b)
fails Greater c is = fails_by Greater is (λ place a b. refl) (λ w a b. not_less b a)
fails GreaterOrEqual c is = fails_by GreaterOrEqual is (λ place a b. refl) (λ w a b. not_most b a)
fails operator c is = absurd (none-some c is)

-- Tests of registers.

-- whether they pass a test
abbrev pub passes : Test → (ℕ → ℕ) → Bool
passes test regs = holds test.test (register regs test.left) (register regs test.right)

between_passes : (c : Comparison) (l r : ℕ) (regs : ℕ → ℕ)
    → passes (between c l r) regs ≡ are_passing c (register regs l) (register regs r)
between_passes c l r regs = choice_of (λ test. passes test regs) c.is_swapped _ _

-- a test of registers that there are
pub record IsTest (test : Test) : Type 0 where
  pub left : test.left < 32
  pub right : test.right < 32

between_is : (c : Comparison) (l r : ℕ) → l < 32 → r < 32 → IsTest (between c l r)
between_is c l r low low' =
    of_choice IsTest c.is_swapped (record { left = low'; right = low }) (record { left = low; right = low' })

module _ (z : Setting) where
  read_small : (e : TermTree) (asked : ℕ) → 4 < asked → asked < 28 → read_register z.allocation asked e < 32
  read_small e asked low high = let source = read_source z e asked low high in omega (arith, source.high)

  right_small : (e : TermTree) → right_register z.allocation e < 32
  right_small e =
      of_choice (λ r. r < 32) (gives_zero z.allocation e) (omega arith) (read_small e 6 (omega arith) (omega arith))

  pub test_is : (e : TermTree) → IsTest (test_of z.allocation e)
  test_is (binary place operator width left right) = by_comparison (failing operator)
    where
      by_comparison : (c : Option Comparison)
          → IsTest (test_or c (against_zero 5) (read_register z.allocation 5 left) (right_register z.allocation right))
      by_comparison None = record { left = omega arith; right = omega arith }
      by_comparison (Some c) =
          between_is c (read_register z.allocation 5 left) (right_register z.allocation right)
          (read_small left 5 (omega arith) (omega arith)) (right_small right)
  test_is e = record { left = read_small e 5 (omega arith) (omega arith); right = omega arith }

  -- Operands.

  -- both read as their values, the right one in this register
  record AreCompared (left right : TermTree) (r : ℕ) (env : StraightState) (s t : machine.State) : Type 0 where
    ready : Ready z env t
    left_there : register t.regs (read_register z.allocation 5 left) ≡ value_in env.variables left
    right_there : register t.regs r ≡ value_in env.variables right
    kept : Kept z (base_of z) s t

  read_there : (e : TermTree) (asked v : ℕ) (regs : ℕ → ℕ) → 4 < asked → asked < 28
      → regs (read_register z.allocation asked e) ≡ v → register regs (read_register z.allocation asked e) ≡ v
  read_there e asked v regs low high there =
      let source = read_source z e asked low high in
      register-at regs (read_register z.allocation asked e) (λ f. omega (arith, source.low, f)) ∙ there

  right_runs : (left right : TermTree) {word : WordType} → TermHasType (types_of z.code.profile z.declared) right word
      → base_of z + 4 * slots_to z.allocation.count (height_of right + 1) ≤ z.size
      → Runs z (16 * term_nodes right) (steps_of right) (right_code (layout_of z) right)
      (FirstRead z left) (AreCompared left right (right_register z.allocation right))
  right_runs left right has room = by_zero (gives_zero z.allocation right) refl
    where
      by_zero : (b : Bool) → gives_zero z.allocation right ≡ b
          → Runs z (16 * term_nodes right) (steps_of right)
          (cond b [] (read_code (layout_of z) 6 1 right)) (FirstRead z left)
          (AreCompared left right (cond b 0 (read_register z.allocation 6 right)))
      by_zero true is =
          let zero = zero_known z.allocation right is in
          along (λ env. (known right 0 zero env.variables).1)
          (idle (λ env s first. record {
            ready = first.ready;
            left_there = read_there left 5 _ s.regs (omega arith) (omega arith) first.there;
            right_there = sym (known right 0 zero env.variables).0;
            kept = λ o below. refl;
          }))
      by_zero false is =
          gives
          (λ env s t fine first done. record {
            ready = done.ready;
            left_there = read_there left 5 _ t.regs (omega arith) (omega arith) done.first_there;
            right_there = read_there right 6 _ t.regs (omega arith) (omega arith) done.second_there;
            kept = done.kept;
          })
          (second_runs z left right has room)

  -- Conditions.

  -- registers pass a test where a condition does not hold
  pub record IsDecided (test : Test) (condition : TermTree) (env : StraightState) (s t : machine.State) : Type 0 where
    pub ready : Ready z env t
    pub decides : passes test t.regs ≡ (value_in env.variables condition == 0)
    pub kept : Kept z (base_of z) s t

  -- a condition that is read whole
  whole_runs : {e : TermTree} {word : WordType} → TermHasType (types_of z.code.profile z.declared) e word
      → base_of z + 4 * slots_to z.allocation.count (height_of e) ≤ z.size
      → Runs z (16 * term_nodes e) (steps_of e) (read_code (layout_of z) 5 0 e) (Ready z)
      (IsDecided (against_zero (read_register z.allocation 5 e)) e)
  whole_runs {e = e} has room =
      gives
      (λ env s t fine ready done. record {
        ready = ready_valued z e env s t ready done;
        decides = ap (λ v. v == 0) (read_there e 5 _ t.regs (omega arith) (omega arith) done.there);
        kept = done.kept;
      })
      (read_runs z has room)

  -- a comparison, by its operands
  module _ (place : Place) (operator : BinaryOperator) (width : Width) {left right : TermTree} {one other : WordType}
      (has : TermHasType (types_of z.code.profile z.declared) left one)
      (more : TermHasType (types_of z.code.profile z.declared) right other)
      (room : base_of z + 4 * slots_to z.allocation.count (height_of (binary place operator width left right))
      ≤ z.size) where
    abbrev e : TermTree
    e = binary place operator width left right

    decided : {word : WordType} → TermHasType (types_of z.code.profile z.declared) e word → (c : Option Comparison)
        → failing operator ≡ c
        → Runs z (16 * term_nodes e) (steps_of e)
        (operands_or c (read_code (layout_of z) 5 0 e)
        (operands_code (layout_of z) left right)) (Ready z)
        (IsDecided
        (test_or c (against_zero 5) (read_register z.allocation 5 left) (right_register z.allocation right)) e)
    decided whole None is = whole_runs whole room
    decided whole (Some c) is =
        let comparison = fails operator c is in
        cheaper (omega arith)
        (along
        (λ env. ap (λ (p : Path). path_in env.variables left ++ path_in env.variables right ++ p)
        (comparison.quiet place (value_in env.variables left) (value_in env.variables right))
        ∙ append-nil (path_in env.variables left ++ path_in env.variables right))
        (gives
        (λ env s t fine ready done.
        let compared = done.second in
        record {
          ready = compared.ready;
          decides =
              between_passes c (read_register z.allocation 5 left) (right_register z.allocation right) t.regs
              ∙ (ap₂ (are_passing c) compared.left_there compared.right_there
              ∙ comparison.decides width (value_in env.variables left) (value_in env.variables right));
          kept = kept_then z (base_of z) s done.middle t done.first.kept compared.kept;
        })
        (seq (read_runs z has (omega (arith, room))) (right_runs left right more (omega (arith, room)))
        (λ env s t ready valued. record {
          ready = ready_valued z left env s t ready valued;
          there = valued.there;
        }))))

  pub condition_runs : {e : TermTree} {word : WordType} → TermHasType (types_of z.code.profile z.declared) e word
      → base_of z + 4 * slots_to z.allocation.count (height_of e) ≤ z.size
      → Runs z (16 * term_nodes e) (steps_of e) (condition_code (layout_of z) e) (Ready z)
      (IsDecided (test_of z.allocation e) e)
  condition_runs (of_binary {place = place} {operator = operator} {width = width} {left = left} {right = right} {one =
      one} {other = other} {whole = word} has more makes same) room =
      decided place operator width has more room
      (of_binary {place = place} {operator = operator} {width = width} {left = left} {right = right} {one = one}
      {other = other} {whole = word} has more makes same) (failing operator) refl
  condition_runs has room = whole_runs has room
