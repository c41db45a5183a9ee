use Rattle.std.proofs.Common.{rules, ◌≡◌, ◌+◌, ◌-◌, length, refl, arith}
use Rattle.branch_removal.proofs.StatementTrees.{tree_of_branch, tree_of_loop, arms_smaller, body_smaller, item_here}
use Rattle.branch_removal.proofs.StatementTrees.{smaller_here}
use Rattle.straight_words.proofs.live_words.statements.+sharing.Goals as goal

pub statement-branch-alloc-requires : goal.statement-branch-alloc-requires
statement-branch-alloc-requires t c =
    search (
      rules,
      arms_smaller c.in-Branch.accepted c.in-Branch.otherwise c.in-Branch.is c.deref-in-Branch.ensures.value
          c.deref-in-Branch-2.ensures.value,
    )

pub statement-repeat-requires : goal.statement-repeat-requires
statement-repeat-requires t c =
    search (rules, body_smaller c.in-Repeat.body c.in-Repeat.is c.deref-in-Repeat.ensures.value)

pub statement-returns-in-Branch-clause-code : goal.statement-returns-in-Branch-clause-code
statement-returns-in-Branch-clause-code t c =
    rw (tree_of_branch c.in-Branch.accepted c.in-Branch.otherwise c.in-Branch.is c.deref-in-Branch.ensures.value
    c.deref-in-Branch-2.ensures.value)
    c.branch-alloc.ensures.code

pub statement-returns-in-Branch-clause-live : goal.statement-returns-in-Branch-clause-live
statement-returns-in-Branch-clause-live t c =
    rw (tree_of_branch c.in-Branch.accepted c.in-Branch.otherwise c.in-Branch.is c.deref-in-Branch.ensures.value
    c.deref-in-Branch-2.ensures.value)
    c.branch-alloc.ensures.live

pub statement-returns-in-Repeat-clause-code : goal.statement-returns-in-Repeat-clause-code
statement-returns-in-Repeat-clause-code t c =
    rw (tree_of_loop c.in-Repeat.body c.in-Repeat.is c.deref-in-Repeat.ensures.value) c.repeat.ensures.code

pub statement-returns-in-Repeat-clause-live : goal.statement-returns-in-Repeat-clause-live
statement-returns-in-Repeat-clause-live t c =
    rw (tree_of_loop c.in-Repeat.body c.in-Repeat.is c.deref-in-Repeat.ensures.value) c.repeat.ensures.live

pub statements-statement-requires : goal.statements-statement-requires
statements-statement-requires t c =
    let body = c.args.body.now in
    let i = length body - 1 - c.loop-behind.behind in
    let s = c.index-body-body.result in
    let here = item_here body i s (omega (arith, c.loop-behind-test.true)) c.index-body-body.is in
    search (rules, smaller_here body i s here)

pub statements-loop-behind-preserved : goal.statements-loop-behind-preserved
statements-loop-behind-preserved t c =
    let body = c.args.body.now in
    let l = c.loop-behind in
    let i = length body - 1 - l.behind in
    let here = item_here body i c.index-body-body.result (omega (arith, c.loop-behind-test.true))
    c.index-body-body.is in
    let more : length body - l.behind ≡ i + 1 = omega (arith, c.loop-behind-test.true) in
    let less : length body - (l.behind + 1) ≡ i = omega (arith, c.loop-behind-test.true) in
    record {
      code = rw (
        c.in_ok-push_any.ensures,
        c.in_ok-code.ensures.code,
        l.invariant.code,
        l.invariant.live,
        more,
        less,
        here,
      );
      live = rw (c.in_ok-code.ensures.live, l.invariant.live, more, less, here);
    }

pub branch-returns-clause-code : goal.branch-returns-clause-code
branch-returns-clause-code t c =
    rw (
      c.branch_of.ensures,
      c.in_ok-condition.ensures,
      c.in_ok-one.ensures.code,
      c.in_ok-other.ensures.code,
      c.replace-second.ensures.live,
      ← c.in_ok-other.ensures.live,
      c.in_ok-behind.ensures,
    ) refl

pub branch-returns-clause-live : goal.branch-returns-clause-live
branch-returns-clause-live t c =
    rw (
      c.read.ensures,
      c.join.ensures,
      c.as_slice.ensures.value,
      c.in_ok-one.ensures.live,
      c.replace-second.ensures.live,
      c.replace-second.ensures.before,
      ← c.in_ok-other.ensures.live,
      c.in_ok-behind.ensures,
    ) refl

pub repeat-returns-clause-code : goal.repeat-returns-clause-code
repeat-returns-clause-code t c =
    rw (
      c.loop_of.ensures,
      c.share-shared.ensures,
      c.in_ok-low.ensures,
      c.in_ok-high.ensures,
      c.in_ok-iteration.ensures.code,
      c.count.ensures,
      c.are_numbers.ensures,
      ← c.in_ok-gather_loop.ensures,
    ) refl
