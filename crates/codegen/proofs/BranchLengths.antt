-- How long the code of a branch is, by that of its arms.
use Rattle.std.proofs.Common.{ℕ, ◌+◌, ◌*◌, ◌≤◌, ◌&&◌, List, [], ◌∷◌, length, Option, None, Some, arith}
use Rattle.std.proofs.Common.{length-append}
use Rattle.codegen.proofs.Choices.{of_choice}
use Rattle.codegen.proofs.Language.{TermTree, term_nodes}
use Rattle.codegen.proofs.Logic.{one_of}
use Rattle.codegen.proofs.Machine.{Instr, branching_code, condition_code, failing, leave, gives_zero, Frame}
use Rattle.codegen.proofs.Machine.{operands_code, operands_or, read_code, right_code}
use Rattle.codegen.proofs.WordLengths.{read_length}
use Rattle.codegen.specs.declared.comparing.Comparison.{Comparison}
use Rattle.codegen.specs.private.Compared.{is_short_arm}
use Rattle.codegen.specs.Below.{binary}

-- as long as two arms, and so many instructions more at most
abbrev pub SpansBoth : List Instr → List Instr → ℕ → List Instr → Type 0
SpansBoth one other more code =
    (length one + length other ≤ length code) × (length code ≤ length one + length other + more)

leave_length : (is : List Instr) → length (leave is) ≤ 1
leave_length [] = omega arith
leave_length (i ∷ is) = omega arith

module _ (layout : Frame) where
  right_length : (e : TermTree) → length (right_code layout e) ≤ 16 * term_nodes e
  right_length e =
      one_of (gives_zero layout.allocation e) _ _ (16 * term_nodes e) (omega arith)
      (read_length layout 6 1 e)

  pub condition_length : (e : TermTree) → length (condition_code layout e) ≤ 16 * term_nodes e
  condition_length (binary place operator width left right) = by_test (failing operator)
    where
      by_test : (c : Option Comparison)
          → length (operands_or c (read_code layout 5 0 (binary place operator width left right))
          (operands_code layout left right))
          ≤ 16 * term_nodes (binary place operator width left right)
      by_test None = read_length layout 5 0 (binary place operator width left right)
      by_test (Some c) =
          omega (arith, length-append {A = Instr}, read_length layout 5 0 left, right_length right)
  condition_length e = read_length layout 5 0 e

  pub branching_spans : (condition : TermTree) (xs ys : List Instr)
      → SpansBoth xs ys (16 * term_nodes condition + 3) (branching_code layout condition xs ys)
  branching_spans condition xs ys =
      let e = length-append {A = Instr} in
      of_choice (SpansBoth xs ys (16 * term_nodes condition + 3)) (layout.allocation.immediates && is_short_arm xs)
      (omega (arith, e), omega (arith, e, leave_length ys, condition_length condition))
      (omega (arith, e), omega (arith, e, read_length layout 5 0 condition))
