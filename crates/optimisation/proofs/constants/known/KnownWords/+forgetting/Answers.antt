use Rattle.std.proofs.Common.{rules, refl}
use Rattle.branch_removal.proofs.StatementTrees.{tree_of_branch, tree_of_loop, accepted_smaller, otherwise_smaller}
use Rattle.branch_removal.proofs.StatementTrees.{body_smaller, item_here, smaller_here}
use Rattle.optimisation.proofs.constants.known.KnownWords.+forgetting.Goals as goal

pub forget-forget_all-requires : goal.forget-forget_all-requires
forget-forget_all-requires t c =
    search (
      rules,
      accepted_smaller c.in-Branch.accepted c.in-Branch.otherwise c.in-Branch.is c.deref.ensures.value refl,
    )

pub forget-forget_all-requires-in-Branch : goal.forget-forget_all-requires-in-Branch
forget-forget_all-requires-in-Branch t c =
    search (
      rules,
      otherwise_smaller c.in-Branch.accepted c.in-Branch.otherwise c.in-Branch.is refl c.deref-in-Branch.ensures.value,
    )

pub forget-forget_all-requires-in-Repeat : goal.forget-forget_all-requires-in-Repeat
forget-forget_all-requires-in-Repeat t c =
    search (rules, body_smaller c.in-Repeat.body c.in-Repeat.is c.deref-in-Repeat.ensures.value)

pub forget-returns-in-Branch : goal.forget-returns-in-Branch
forget-returns-in-Branch t c =
    rw (
      c.forget_all-in-Branch.ensures,
      c.forget_all.ensures,
      tree_of_branch c.in-Branch.accepted c.in-Branch.otherwise
          c.in-Branch.is c.deref.ensures.value c.deref-in-Branch.ensures.value,
    ) refl

pub forget-returns-in-Repeat : goal.forget-returns-in-Repeat
forget-returns-in-Repeat t c =
    rw (
      c.forget_all-in-Repeat.ensures,
      c.note.ensures,
      tree_of_loop c.in-Repeat.body c.in-Repeat.is c.deref-in-Repeat.ensures.value,
    ) refl

pub forget_all-forget-requires : goal.forget_all-forget-requires
forget_all-forget-requires t c =
    let s = c.statement-item.result in
    let i = c.loop-statement.statement-index in
    let here = item_here c.args.body.now i s c.loop-statement-test.true c.statement-item.is in
    search (rules, smaller_here c.args.body.now i s here)
