-- The work of statements that hold others, and of the iterations of a loop.
use Rattle.std.proofs.Common.{◌≡◌, ℕ, ◌+◌, ◌*◌, ◌<◌, List, Vec, Global, inl, inr, slice_index, ap, ◌∙◌, arith}
use Rattle.std.proofs.lemmas.Bool.{cases_lt}
use Rattle.std.proofs.Math.Nat.{le-mul_of_pos_right, mul_comm}
use Rattle.intervals.specs.Below.{Branch, counted, flat_block, flat_tree, FlatStatement, Label, Loop, most_counted}
use Rattle.intervals.specs.Below.{Term, term_nodes, term_tree}
use Rattle.intervals.specs.Work.{tree_work, body_work}
use Rattle.intervals.proofs.Below.{branch_tree, loop_tree}

-- the work of a branch and of a loop, by the lists of their statements
pub branch_work : (iterations : List ℕ) (statement : FlatStatement) (label : Label) (condition : Term)
    (accepted otherwise : Vec FlatStatement Global) → statement ≡ Branch label condition accepted otherwise
    → tree_work iterations (flat_tree statement) ≡ 1 + term_nodes (term_tree condition)
    + body_work iterations (flat_block accepted.items) + body_work iterations (flat_block otherwise.items)
branch_work iterations statement label condition accepted otherwise is =
    ap (tree_work iterations) (ap flat_tree is ∙ branch_tree label condition accepted otherwise)

pub loop_work : (iterations : List ℕ) (statement : FlatStatement) (counter : ℕ) (low high : Term)
    (body : Vec FlatStatement Global) → statement ≡ Loop counter low high body
    → tree_work iterations (flat_tree statement) ≡ term_nodes (term_tree low) + term_nodes (term_tree high)
    + (slice_index iterations counter + 1) * (1 + body_work iterations (flat_block body.items))
loop_work iterations statement counter low high body is =
    ap (tree_work iterations) (ap flat_tree is ∙ loop_tree counter low high body)

-- so many times a count, at least once, is counted as so many times what is counted
pub times_counted : (t m : ℕ) → 0 < t → counted (t * counted m) ≡ counted (t * m)
times_counted t m some = elim (cases_lt m most_counted) [
  | inl few ↦
      let same : counted m ≡ m = omega arith in
      rw same
  | inr many ↦
      let same : counted m ≡ most_counted = omega arith in
      rw same (omega (arith, le-mul_of_pos_right m some, mul_comm m t))
]
