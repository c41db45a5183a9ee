-- The code of a statement that holds others, by that of its arms or its body.
use Rattle.std.proofs.Common.{◌≡◌, ℕ, ◌+◌, ◌≤◌, ◌++◌, List, [], length, Result}
use Rattle.std.proofs.Common.{Ok, Err, IsErrAnd, IfErr, Bool, refl, sym, ap, ◌∙◌, arith}
use Rattle.codegen.proofs.Language.{branch, repeats, StraightBlock, StraightTree, TermTree}
use Rattle.codegen.proofs.BranchLengths.{branching_spans}
use Rattle.codegen.proofs.LoopLengths.{repeat_spans}
use Rattle.codegen.proofs.Machine.{statement_code, block_code, branching_code}
use Rattle.codegen.proofs.Machine.{Frame, IsFar, Instr}
use Rattle.codegen.specs.private.Loops.{any_sets, repeat_code}
use Rattle.codegen.specs.declared.unemitted.Unemitted.{Unemitted}

-- in a layout, of statements that so many loops are around
module _ (f : Frame) where
  abbrev code_of : ℕ → StraightTree → List Instr
  code_of depth s = statement_code f depth s

  abbrev code_of_all : ℕ → StraightBlock → List Instr
  code_of_all depth b = block_code f depth b

  module _ (depth : ℕ) {s : StraightTree} {condition : TermTree} {accepted otherwise : StraightBlock}
      (tree : s ≡ branch condition accepted otherwise) {xs ys : List Instr}
      (x : xs ≡ code_of_all depth accepted) (y : ys ≡ code_of_all depth otherwise) where
    pub branch_is : branching_code f condition xs ys ≡ code_of depth s
    branch_is = rw (tree, x, y)

    -- the arms are no longer than the statement
    pub arms_within : length xs + length ys ≤ length (code_of depth s)
    arms_within =
        omega (
          arith,
          (branching_spans f condition xs ys).0,
          ap (λ (l : List Instr). length l) branch_is,
        )

  module _ (depth x : ℕ) {s : StraightTree} {low high : TermTree} {body : StraightBlock}
      (tree : s ≡ repeats x low high body) {ys : List Instr} (iteration : ys ≡ code_of_all (depth + 1) body) where
    pub loop_is : (is_set : Bool) → is_set ≡ any_sets x body
        → repeat_code f depth x low high is_set ys ≡ code_of depth s
    loop_is is_set set = rw (tree, iteration, set)

    -- the body is no longer than the statement
    pub body_within : length ys ≤ length (code_of depth s)
    body_within =
        omega (
          arith,
          (repeat_spans f depth x ys low high (any_sets x body)).0,
          ap (λ (l : List Instr). length l) (loop_is (any_sets x body) refl),
        )

-- code that is emitted into no code is that code
pub emitted : {old code new : List Instr} → new ≡ old ++ code → old ≡ [] → new ≡ code
emitted {old} {code} {new} is none = is ∙ ap (λ (front : List Instr). front ++ code) none

-- code that is not emitted because of a part that is not
pub for_part : {T : Type 0} (m n : ℕ) (r : Result T Unemitted) {e : Unemitted} → IsErrAnd r (λ y. y ≡ e) → IsFar m e
    → m ≤ n → IfErr r (IsFar n)
for_part m n (Ok x) is part within = tt
for_part m n (Err y) is part within = λ too_far. omega (arith, part (sym is ∙ too_far), within)
