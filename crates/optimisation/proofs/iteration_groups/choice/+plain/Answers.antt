use Rattle.std.proofs.Common.{rules, refl}
use Rattle.branch_removal.proofs.StatementTrees.{tree_of_branch, accepted_smaller, otherwise_smaller}
use Rattle.branch_removal.proofs.StatementTrees.{item_here, smaller_here}
use Rattle.optimisation.proofs.iteration_groups.choice.+plain.Goals as goal

pub is_plain-are_plain-requires : goal.is_plain-are_plain-requires
is_plain-are_plain-requires t c =
    search (
      rules,
      accepted_smaller c.in-Branch.accepted c.in-Branch.otherwise c.in-Branch.is c.deref.ensures.value refl,
    )

pub is_plain-are_plain-requires-then-are_plain : goal.is_plain-are_plain-requires-then-are_plain
is_plain-are_plain-requires-then-are_plain t c =
    search (
      rules,
      otherwise_smaller c.in-Branch.accepted c.in-Branch.otherwise c.in-Branch.is refl
          c.deref-then-are_plain.ensures.value,
    )

pub is_plain-returns-then-are_plain : goal.is_plain-returns-then-are_plain
is_plain-returns-then-are_plain t c =
    rw (
      tree_of_branch c.in-Branch.accepted c.in-Branch.otherwise c.in-Branch.is c.deref.ensures.value
          c.deref-then-are_plain.ensures.value,
      ← c.are_plain.ensures,
      c.if-are_plain.true,
      c.are_plain-then-are_plain.ensures,
    ) refl

pub is_plain-returns-else-are_plain : goal.is_plain-returns-else-are_plain
is_plain-returns-else-are_plain t c =
    rw (
      tree_of_branch c.in-Branch.accepted c.in-Branch.otherwise c.in-Branch.is c.deref.ensures.value refl,
      ← c.are_plain.ensures,
      c.if-are_plain.false,
    ) refl

pub are_plain-is_plain-requires : goal.are_plain-is_plain-requires
are_plain-is_plain-requires t c =
    let s = c.statement-item.result in
    let i = c.loop-statement.statement-index in
    let here = item_here c.args.statements.now i s c.loop-statement-test.true c.statement-item.is in
    search (rules, smaller_here c.args.statements.now i s here)
