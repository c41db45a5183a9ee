use Rattle.std.proofs.Common.{◌+◌, ◌-◌, ◌*◌, ◌≤◌, ℕ, drop}
use Rattle.source_eval.specs.Below.{block_tree, counting, expr_tree, loop_run, Run, run_all, State, iterations}
use Rattle.source_eval.specs.Metering.{known_of}
use Rattle.source_eval.specs.Views.{held}
use Rattle.source_eval.proofs.RunLemmas.{GoesOnTo}
use Rattle.source_eval.proofs.statements.+statement.Given as goal

-- each way from a statement to itself counts a node
abbrev pub decreases-block : goal.decreases-block
decreases-block l = 6 * l.running.now.left + 3

abbrev pub decreases-body : goal.decreases-body
decreases-body l = 6 * l.running.now.left + 4

abbrev pub decreases-branch : goal.decreases-branch
decreases-branch l = 6 * l.running.now.left + 0

abbrev pub decreases-call : goal.decreases-call
decreases-call l = 6 * l.running.now.left + 0

abbrev pub decreases-repeat : goal.decreases-repeat
decreases-repeat l = 6 * l.running.now.left + 0

abbrev pub decreases-right : goal.decreases-right
decreases-right l = 6 * l.running.now.left + 1

abbrev pub decreases-run_body : goal.decreases-run_body
decreases-run_body l = 6 * l.left.now + 5

abbrev pub decreases-set : goal.decreases-set
decreases-set l = 6 * l.running.now.left + 0

abbrev pub decreases-set_element : goal.decreases-set_element
decreases-set_element l = 6 * l.running.now.left + 0

abbrev pub decreases-statement : goal.decreases-statement
decreases-statement l = 6 * l.running.now.left + 2

-- the statements left lead to the end of all
abbrev pub invariant-block-loop-one : goal.invariant-block-loop-one
invariant-block-loop-one l = record {
  leads : GoesOnTo (run_all (known_of l.earlier) (held l.fn.running.variables) (block_tree l.fn.block))
      l.fn.running.left l.room
      (run_all (known_of l.earlier) (held l.running.variables) (block_tree (drop l.one-index l.block)))
      l.running.left (λ s. s);
  spends : l.running.left ≤ l.fn.running.left;
}

-- the iterations left lead to the end of all
abbrev pub invariant-repeat-loop-number : goal.invariant-repeat-loop-number
invariant-repeat-loop-number l = let iteration : ℕ → State
    → Run State = λ i t. run_all (known_of l.earlier) (counting t l.counter.name i) (block_tree l.body) in
    record {
      leads : GoesOnTo (loop_run (held l.fn.running.variables) (expr_tree l.fn.low) (expr_tree l.fn.high) iteration)
          l.fn.running.left l.room
          (iterations (l.number-end - l.number) l.number iteration (held l.running.variables)) l.running.left (λ s. s);
      spends : l.running.left ≤ l.fn.running.left;
    }
