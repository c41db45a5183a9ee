-- What becomes of a branch and of a loop, and what is known after them, by what decides it: what holds of each that
-- they may become holds of what they become.
use Rattle.std.proofs.Common.{◌≡◌, ℕ, ◌-◌, Bool, true, false, List, Option, None, Some, slice_index, nat_le, refl}
use Rattle.std.proofs.lemmas.Bool.{cond_both}
use Rattle.optimisation.specs.Below.{branch, FlatVariable, repeats, StraightBlock, TermTree}
use Rattle.optimisation.specs.declared.constants.known.Constant.{Constant}
use Rattle.optimisation.specs.declared.constants.terms.CounterRange.{CounterRange}
use Rattle.optimisation.specs.constants.private.Folding.{simple, constant_of, decision, numbers_of}
use Rattle.optimisation.specs.constants.private.Known.{WordFacts, behind, in_loop}
use Rattle.optimisation.specs.constants.private.Simplification.{decided, knowing, knowing_all, simplified}
use Rattle.optimisation.specs.constants.private.Simplification.{simplified_all, single, iterations_code}
use Rattle.optimisation.specs.constants.private.Simplification.{iterations_known, unrolled}

module _ (unroll_limits : List ℕ) (declared : List FlatVariable) (P : StraightBlock → WordFacts → Type 0)
    (words : WordFacts) where
  abbrev made : WordFacts → StraightBlock → StraightBlock
  made w body = simplified_all unroll_limits declared w body

  abbrev then_known : WordFacts → StraightBlock → WordFacts
  then_known w body = knowing_all unroll_limits declared w body

  -- a branch that is decided is its one arm
  pub branch_by : (condition : TermTree) (accepted otherwise : StraightBlock)
      → (decision (simple words condition) ≡ Some true → P (made words accepted) (then_known words accepted))
      → (decision (simple words condition) ≡ Some false → P (made words otherwise) (then_known words otherwise))
      → P (single (branch (simple words condition) (made words accepted)
      (made (behind (then_known words accepted) accepted) otherwise)))
      (behind (then_known (behind (then_known words accepted) accepted) otherwise) otherwise)
      → P (simplified unroll_limits declared words (branch condition accepted otherwise))
      (knowing unroll_limits declared words (branch condition accepted otherwise))
  branch_by condition accepted otherwise accepts declines chooses = by_decision (decision (simple words condition)) refl
    where
      by_decision : (d : Option Bool) → decision (simple words condition) ≡ d
          → P (decided d (made words accepted) (made words otherwise)
          (single (branch (simple words condition) (made words accepted)
          (made (behind (then_known words accepted) accepted) otherwise))))
          (decided d (then_known words accepted) (then_known words otherwise)
          (behind (then_known (behind (then_known words accepted) accepted) otherwise) otherwise))
      by_decision (Some true) is = accepts is
      by_decision (Some false) is = declines is
      by_decision None is = chooses

  -- a loop between numbers may become its iterations
  pub loop_by : (x : ℕ) (low high : TermTree) (body : StraightBlock)
      → ((a b : Constant) → constant_of (simple words low) ≡ Some a → constant_of (simple words high) ≡ Some b
      → P (iterations_code unroll_limits declared words x (record { low = a.value; high = b.value }) body)
      (iterations_known unroll_limits declared words x (record { low = a.value; high = b.value }) body))
      → P (single (repeats x (simple words low) (simple words high) (made (in_loop words x body) body)))
      (behind (then_known (in_loop words x body) body) body)
      → P (simplified unroll_limits declared words (repeats x low high body))
      (knowing unroll_limits declared words (repeats x low high body))
  loop_by x low high body unrolls loops =
      by_bounds (constant_of (simple words low)) (constant_of (simple words high)) refl refl
    where
      By : Option CounterRange → Type 0
      By o = P (unrolled o (λ each. iterations_code unroll_limits declared words x each body)
          (single (repeats x (simple words low) (simple words high) (made (in_loop words x body) body))))
          (unrolled o (λ each. iterations_known unroll_limits declared words x each body)
          (behind (then_known (in_loop words x body) body) body))

      by_bounds : (a b : Option Constant) → constant_of (simple words low) ≡ a → constant_of (simple words high) ≡ b
          → By (numbers_of (slice_index unroll_limits x) a b)
      by_bounds (Some a) (Some b) is also =
          cond_both (nat_le (b.value - a.value) (slice_index unroll_limits x))
          (Some (record { low = a.value; high = b.value })) None By (λ few. unrolls a b is also) (λ many. loops)
      by_bounds a b is also = loops
