use Rattle.std.proofs.Common.{rules, refl}
use Rattle.std.proofs.lemmas.List.{at_drop_all}
use Rattle.straight_words.specs.Below.{straight_block}
use Rattle.branch_removal.proofs.StatementTrees.{tree_of_branch, tree_of_loop, accepted_smaller, otherwise_smaller}
use Rattle.branch_removal.proofs.StatementTrees.{body_smaller, item_here, smaller_here}
use Rattle.straight_words.proofs.live_words.gathering.+gathering.Goals as goal

pub gather-gather_all-requires : goal.gather-gather_all-requires
gather-gather_all-requires t c =
    search (
      rules,
      accepted_smaller c.in-Branch.accepted c.in-Branch.otherwise c.in-Branch.is
          c.deref-in-Branch.ensures.value refl,
    )

pub gather-gather_all-requires-in-Branch : goal.gather-gather_all-requires-in-Branch
gather-gather_all-requires-in-Branch t c =
    search (
      rules,
      otherwise_smaller c.in-Branch.accepted c.in-Branch.otherwise c.in-Branch.is refl
          c.deref-in-Branch-2.ensures.value,
    )

pub gather-gather_all-requires-in-Repeat : goal.gather-gather_all-requires-in-Repeat
gather-gather_all-requires-in-Repeat t c =
    search (rules, body_smaller c.in-Repeat.body c.in-Repeat.is c.deref-in-Repeat.ensures.value)

pub gather-returns-in_ok-gather_all-in-Branch-2 : goal.gather-returns-in_ok-gather_all-in-Branch-2
gather-returns-in_ok-gather_all-in-Branch-2 t c =
    rw (
      tree_of_branch c.in-Branch.accepted c.in-Branch.otherwise c.in-Branch.is c.deref-in-Branch.ensures.value
          c.deref-in-Branch-2.ensures.value,
      c.in_ok-gather_all-in-Branch-2.ensures,
      c.in_ok-from_slice-in-Branch-2.ensures.items,
      c.in_ok-gather_all-in-Branch.ensures,
      c.in_ok-from_slice-in-Branch.ensures.items,
      c.read-in-Branch.ensures,
    )

pub gather-returns-in_ok-gather_all-in-Repeat : goal.gather-returns-in_ok-gather_all-in-Repeat
gather-returns-in_ok-gather_all-in-Repeat t c =
    rw (
      tree_of_loop c.in-Repeat.body c.in-Repeat.is c.deref-in-Repeat.ensures.value,
      c.in_ok-gather_all-in-Repeat.ensures,
      c.note_done.ensures,
      c.in_ok-inside-in-Repeat.ensures.items,
      c.read-in-Repeat-2.ensures,
      c.read-in-Repeat.ensures,
    )

pub gather_all-gather-requires : goal.gather_all-gather-requires
gather_all-gather-requires t c =
    let s = c.statement-item.result in
    let l = c.loop-statement in
    let here = item_here c.args.body.now l.statement-index s c.loop-statement-test.true c.statement-item.is in
    search (rules, smaller_here c.args.body.now l.statement-index s here)

pub gather_all-loop-statement-preserved : goal.gather_all-loop-statement-preserved
gather_all-loop-statement-preserved t c =
    let l = c.loop-statement in
    let here = item_here c.args.body.now l.statement-index c.statement-item.result c.loop-statement-test.true
    c.statement-item.is in
    rw (c.in_ok-gather.ensures, c.note_done_by.ensures, c.as_slice.ensures.value, ← l.invariant, here) refl

pub gather_all-returns : goal.gather_all-returns
gather_all-returns t c =
    let l = c.loop-statement in
    let none = at_drop_all (λ xs. straight_block xs) c.args.body.now l.statement-index c.loop-statement-test.false in
    rw (← l.invariant, none) refl
