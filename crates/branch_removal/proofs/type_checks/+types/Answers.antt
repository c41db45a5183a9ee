use Rattle.std.proofs.Common.{rules, refl}
use Rattle.branch_removal.proofs.StatementTrees.{tree_of_branch, tree_of_loop, accepted_smaller, otherwise_smaller}
use Rattle.branch_removal.proofs.StatementTrees.{body_smaller, item_here, smaller_here}
use Rattle.branch_removal.proofs.type_checks.+types.Goals as goal

pub are_typed-is_typed-requires : goal.are_typed-is_typed-requires
are_typed-is_typed-requires t c =
    let s = c.statement-item.result in
    let i = c.loop-statement.statement-index in
    let here = item_here c.args.statements.now i s c.loop-statement-test.true c.statement-item.is in
    search (rules, smaller_here c.args.statements.now i s here)

pub is_typed-are_typed-one-requires : goal.is_typed-are_typed-one-requires
is_typed-are_typed-one-requires t c =
    let b = c.in-Branch in
    search (rules, accepted_smaller b.accepted b.otherwise b.is c.deref-in-Branch.ensures.value refl)

pub is_typed-are_typed-other-requires : goal.is_typed-are_typed-other-requires
is_typed-are_typed-other-requires t c =
    let b = c.in-Branch in
    search (rules, otherwise_smaller b.accepted b.otherwise b.is refl c.deref-in-Branch-2.ensures.value)

pub is_typed-are_typed-iteration-requires : goal.is_typed-are_typed-iteration-requires
is_typed-are_typed-iteration-requires t c =
    search (rules, body_smaller c.in-Repeat.body c.in-Repeat.is c.deref-in-Repeat.ensures.value)

pub is_typed-returns-in-Branch : goal.is_typed-returns-in-Branch
is_typed-returns-in-Branch t c =
    rw (
      c.both-in-Branch.ensures,
      c.both.ensures,
      c.decides-decides.ensures,
      c.type_of-in-Branch.ensures,
      c.are_typed-one.ensures,
      c.are_typed-other.ensures,
      tree_of_branch c.in-Branch.accepted c.in-Branch.otherwise c.in-Branch.is c.deref-in-Branch.ensures.value
          c.deref-in-Branch-2.ensures.value,
    ) refl

pub is_typed-returns-in-Repeat : goal.is_typed-returns-in-Repeat
is_typed-returns-in-Repeat t c =
    rw (
      c.both-in-Repeat-3.ensures,
      c.both-in-Repeat-2.ensures,
      c.both-in-Repeat.ensures,
      c.is_loop_counter-counts.ensures,
      c.variable_at-in-Repeat.ensures,
      c.counts-from.ensures,
      c.type_of-in-Repeat.ensures,
      c.counts-to.ensures,
      c.type_of-in-Repeat-2.ensures,
      c.are_typed-iteration.ensures,
      tree_of_loop c.in-Repeat.body c.in-Repeat.is c.deref-in-Repeat.ensures.value,
    ) refl
