use Rattle.std.proofs.Common.{◌≡◌, ◌≤◌, ◌+◌, ◌*◌, ◌++◌, drop, length}
use Rattle.inline.proofs.numbering.Numbering.+numbering.Given as goal
use Rattle.inline.specs.Callees.{called_by}
use Rattle.inline.specs.Flat.{chain, flat_block}
use Rattle.inline.specs.Numbering.{block, names_after_all, declared_in_all}
use Rattle.inline.proofs.Measures.{nodes_of_block, nodes_of_statement, nodes_of_call, nodes_of_right}
use Rattle.inline.specs.Below.{block_tree, call_tree, expr_tree, nodes_in, right_tree, statement_tree}

-- what is done and what is left make the whole block, with the same names and variables after it
abbrev pub invariant-block-loop-statement : goal.invariant-block-loop-statement
invariant-block-loop-statement l =
    let known = called_by l.earlier in
    let rest = block_tree (drop l.statement-index l.block) in
    let all = block_tree l.block in
    record {
      block : chain (flat_block l.flat.items) (block known l.self.names (length l.declared.items) rest)
          ≡ chain (flat_block l.fn.flat.items) (block known l.fn.self.names (length l.fn.declared.items) all);
      names : names_after_all known l.self.names (length l.declared.items) rest
          ≡ names_after_all known l.fn.self.names (length l.fn.declared.items) all;
      declared : l.declared.items ++ declared_in_all known rest ≡ l.fn.declared.items ++ declared_in_all known all;
      smaller : nodes_of_block l.earlier (drop l.statement-index l.block) ≤ nodes_of_block l.earlier l.block;
    }

-- A called body has fewer nodes than its call, and each part of a body has fewer than the whole.

abbrev pub decreases-block : goal.decreases-block
decreases-block l = 8 * nodes_of_block l.earlier.now l.block.now + 7

abbrev pub decreases-statement : goal.decreases-statement
decreases-statement l = 8 * nodes_of_statement l.earlier.now (statement_tree l.statement.now) + 6

abbrev pub decreases-word : goal.decreases-word
decreases-word l = 8 * (1 + nodes_of_right l.earlier.now (right_tree l.declaration.now.value)) + 5

abbrev pub decreases-assign : goal.decreases-assign
decreases-assign l = 8 * (1 + nodes_of_right l.earlier.now (right_tree l.assignment.now.value)) + 5

abbrev pub decreases-element : goal.decreases-element
decreases-element l = 8 * (1 + (1 + nodes_in (expr_tree l.assignment.now.index))
    + nodes_of_right l.earlier.now (right_tree l.assignment.now.value)) + 5

abbrev pub decreases-call_alone : goal.decreases-call_alone
decreases-call_alone l = 8 * nodes_of_call l.earlier.now (call_tree l.call.now) + 5

abbrev pub decreases-call : goal.decreases-call
decreases-call l = 8 * nodes_of_call l.earlier.now (call_tree l.call.now) + 1

abbrev pub decreases-inside : goal.decreases-inside
decreases-inside l = 8 * nodes_of_block l.earlier.now l.procedure.now.body.items + 8

abbrev pub decreases-right : goal.decreases-right
decreases-right l = 8 * nodes_of_right l.earlier.now (right_tree l.right.now) + 2

abbrev pub decreases-branch : goal.decreases-branch
decreases-branch l = 8 * (1 + nodes_in (expr_tree l.condition.now) + nodes_of_block l.earlier.now l.accepted.now
    + nodes_of_block l.earlier.now l.otherwise.now) + 5

abbrev pub decreases-arm : goal.decreases-arm
decreases-arm l = 8 * nodes_of_block l.earlier.now l.arm.now + 8

abbrev pub decreases-iterations : goal.decreases-iterations
decreases-iterations l =
    8 * (1 + nodes_in (expr_tree l.low.now) + nodes_in (expr_tree l.high.now)
    + nodes_of_block l.earlier.now l.body.now) + 5
