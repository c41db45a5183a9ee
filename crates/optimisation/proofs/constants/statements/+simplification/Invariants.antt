use Rattle.std.proofs.Common.{◌≡◌, ◌+◌, ◌*◌, drop}
use Rattle.optimisation.specs.Below.{block_nodes, chain, statement_nodes, straight_block, straight_tree}
use Rattle.optimisation.specs.constants.private.Known.{words_of}
use Rattle.optimisation.specs.constants.private.Simplification.{knowing_all, simplified_all, iterations_code}
use Rattle.optimisation.specs.constants.private.Simplification.{iterations_known}
use Rattle.optimisation.specs.declared.constants.terms.CounterRange.{CounterRange}
use Rattle.optimisation.proofs.constants.statements.+simplification.Given as goal

-- the code so far and that of what is left are the code of all statements, and what is known in the end is what is
-- left to learn
abbrev pub invariant-statements-loop-each : goal.invariant-statements-loop-each
invariant-statements-loop-each l =
    let rest = straight_block (drop l.each-index l.body) in
    let all = straight_block l.fn.body in
    record {
      code : chain (straight_block l.code.items) (simplified_all l.pass.unroll_limits.now l.pass.declared.now
          (words_of l.known) rest)
          ≡ chain (straight_block l.fn.code.items)
          (simplified_all l.pass.unroll_limits.now l.pass.declared.now (words_of l.fn.known) all);
      known : knowing_all l.pass.unroll_limits.now l.pass.declared.now (words_of l.known) rest
          ≡ knowing_all l.pass.unroll_limits.now l.pass.declared.now (words_of l.fn.known) all;
    }

-- the code so far and that of the iterations that are left are the code of all iterations
abbrev pub invariant-iterations-loop-value : goal.invariant-iterations-loop-value
invariant-iterations-loop-value l =
    let unroll_limits = l.pass.unroll_limits.now in
    let declared = l.pass.declared.now in
    let body = straight_block l.fn.body in
    let left : CounterRange = record { low = l.value; high = l.value-end } in
    record {
      code : chain (straight_block l.code.items)
          (iterations_code unroll_limits declared (words_of l.known) l.counter left body)
          ≡ chain (straight_block l.fn.code.items)
          (iterations_code unroll_limits declared (words_of l.fn.known) l.counter l.fn.numbers body);
      known : iterations_known unroll_limits declared (words_of l.known) l.counter left body
          ≡ iterations_known unroll_limits declared (words_of l.fn.known) l.counter l.fn.numbers body;
    }

-- Each call is for a part of what it is called in.

abbrev pub decreases-statement : goal.decreases-statement
decreases-statement l = 4 * statement_nodes (straight_tree l.statement.now)

abbrev pub decreases-statements : goal.decreases-statements
decreases-statements l = 4 * block_nodes (straight_block l.body.now) + 1

abbrev pub decreases-part : goal.decreases-part
decreases-part l = 4 * block_nodes (straight_block l.body.now) + 2

abbrev pub decreases-branch : goal.decreases-branch
decreases-branch l = 4 * (block_nodes (straight_block l.accepted.now) + block_nodes (straight_block l.otherwise.now))
    + 3

abbrev pub decreases-repeat : goal.decreases-repeat
decreases-repeat l = 4 * block_nodes (straight_block l.body.now) + 3

abbrev pub decreases-iterations : goal.decreases-iterations
decreases-iterations l = 4 * block_nodes (straight_block l.body.now) + 2
