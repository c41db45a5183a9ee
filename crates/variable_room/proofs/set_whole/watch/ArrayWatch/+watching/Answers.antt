use Rattle.std.proofs.Common.{◌≡◌, ◌+◌, ◌-◌, suc, rules, refl, arith}
use Rattle.std.proofs.lemmas.List.{at_drop_all}
use Rattle.variable_room.specs.Below.{straight_block}
use Rattle.branch_removal.proofs.StatementTrees.{tree_of_branch, tree_of_loop, accepted_smaller, otherwise_smaller}
use Rattle.branch_removal.proofs.StatementTrees.{body_smaller, item_here, smaller_here}
use Rattle.variable_room.proofs.set_whole.watch.ArrayWatch.+watching.Goals as goal

pub watch-may_run-requires : goal.watch-may_run-requires
watch-may_run-requires t c =
    search (
      rules,
      accepted_smaller c.in-Branch.accepted c.in-Branch.otherwise c.in-Branch.is
          c.deref-in-Branch.ensures.value refl,
    )

pub watch-may_run-requires-in-Branch : goal.watch-may_run-requires-in-Branch
watch-may_run-requires-in-Branch t c =
    search (
      rules,
      otherwise_smaller c.in-Branch.accepted c.in-Branch.otherwise c.in-Branch.is refl
          c.deref-in-Branch-2.ensures.value,
    )

pub watch-watch_iterations-requires : goal.watch-watch_iterations-requires
watch-watch_iterations-requires t c =
    search (rules, body_smaller c.in-Repeat.body c.in-Repeat.is c.deref-in-Some.ensures.value)

pub watch-may_run-requires-in-None : goal.watch-may_run-requires-in-None
watch-may_run-requires-in-None t c =
    search (rules, body_smaller c.in-Repeat.body c.in-Repeat.is c.deref-in-None.ensures.value)

pub watch_all-watch-requires : goal.watch_all-watch-requires
watch_all-watch-requires t c =
    let s = c.statement-item.result in
    let l = c.loop-statement in
    let here = item_here c.args.body.now l.statement-index s c.loop-statement-test.true c.statement-item.is in
    search (rules, smaller_here c.args.body.now l.statement-index s here)

pub watch-returns-in_ok-other-in-Branch : goal.watch-returns-in_ok-other-in-Branch
watch-returns-in_ok-other-in-Branch t c =
    rw (
      tree_of_branch c.in-Branch.accepted c.in-Branch.otherwise c.in-Branch.is c.deref-in-Branch.ensures.value
          c.deref-in-Branch-2.ensures.value,
      c.all_three.ensures,
      c.may_read-chosen.ensures,
      c.as_slice-in-Branch.ensures.value,
      c.in_ok-one-in-Branch.ensures,
      c.as_slice-in-Branch-2.ensures.value,
      c.in_ok-other-in-Branch.ensures,
      c.as_slice-in-Branch-3.ensures.value,
    )

pub watch-returns-in-Some : goal.watch-returns-in-Some
watch-returns-in-Some t c =
    let began = rw (c.as_slice-in-Repeat.ensures.value) at c.may_begin.ensures in
    rw (
      tree_of_loop c.in-Repeat.body c.in-Repeat.is c.deref-in-Some.ensures.value,
      ← began,
      c.if-not-may_begin.false,
      ← c.range_of.ensures,
      c.in-Some.is,
    ) c.watch_iterations.ensures

pub watch-returns-in_ok-may-in-None : goal.watch-returns-in_ok-may-in-None
watch-returns-in_ok-may-in-None t c =
    let began = rw (c.as_slice-in-Repeat.ensures.value) at c.may_begin.ensures in
    rw (
      tree_of_loop c.in-Repeat.body c.in-Repeat.is c.deref-in-None.ensures.value,
      ← began,
      c.if-not-may_begin.false,
      ← c.range_of.ensures,
      c.in-None.is,
      c.in_ok-may-in-None.ensures,
      c.as_slice-in-None.ensures.value,
    ) refl

pub watch_iterations-loop-number-init : goal.watch_iterations-loop-number-init
watch_iterations-loop-number-init t c = refl

pub watch_iterations-loop-number-preserved : goal.watch_iterations-loop-number-preserved
watch_iterations-loop-number-preserved t c =
    let l = c.loop-number in
    let more : c.args.range.high - l.number ≡ suc (c.args.range.high - (l.number + 1)) =
    omega (arith, c.loop-number-test.true) in
    rw (← l.invariant, more, ← c.in_ok-inside.ensures, c.in_ok-fine.ensures, c.if-not-fine.false) refl

pub watch_iterations-returns-then-not-fine : goal.watch_iterations-returns-then-not-fine
watch_iterations-returns-then-not-fine t c =
    let l = c.loop-number in
    let more : c.args.range.high - l.number ≡ suc (c.args.range.high - (l.number + 1)) =
    omega (arith, c.loop-number-test.true) in
    rw (← l.invariant, more, ← c.in_ok-inside.ensures, c.in_ok-fine.ensures, c.if-not-fine.true) refl

pub watch_iterations-returns : goal.watch_iterations-returns
watch_iterations-returns t c =
    let none : c.args.range.high - c.loop-number.number ≡ 0 = omega (arith, c.loop-number-test.false) in
    rw (← c.loop-number.invariant, none) refl

pub watch_all-loop-statement-preserved : goal.watch_all-loop-statement-preserved
watch_all-loop-statement-preserved t c =
    let l = c.loop-statement in
    let here = item_here c.args.body.now l.statement-index c.statement-item.result c.loop-statement-test.true
    c.statement-item.is in
    rw (← l.invariant, here, c.in_ok-watch.ensures, c.if-not-branch.false) refl

pub watch_all-returns : goal.watch_all-returns
watch_all-returns t c =
    let l = c.loop-statement in
    let none = at_drop_all (λ xs. straight_block xs) c.args.body.now l.statement-index c.loop-statement-test.false in
    rw (← l.invariant, none) refl
