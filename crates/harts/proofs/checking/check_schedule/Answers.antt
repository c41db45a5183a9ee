-- The first entry that breaks a rule.
use Rattle.std.proofs.Common.{ℕ, ◌<◌, ◌≤◌, List, All, subst, arith}
use Rattle.std.proofs.lemmas.List.{take_all}
use Rattle.std.proofs.lemmas.List.Elements.{All-more}
use Rattle.harts.proofs.RefusalLemmas.{no_such_hart, too_many_turns}
use Rattle.harts.proofs.checking.check_schedule.Goals as goal

pub returns-then-from-harts-clause-refused : goal.returns-then-from-harts-clause-refused
returns-then-from-harts-clause-refused c =
    no_such_hart c.args.harts c.args.schedule.now c.loop-at.at c.loop-at-test.true c.loop-at.invariant.named
    c.loop-at.invariant.near
    (subst (λ n. c.args.harts ≤ n) c.from.ensures c.if-from-harts.true)

pub returns-then-at-ge-MOST_TURNS-clause-refused : goal.returns-then-at-ge-MOST_TURNS-clause-refused
returns-then-at-ge-MOST_TURNS-clause-refused c =
    too_many_turns c.args.harts c.args.schedule.now c.loop-at.at c.loop-at-test.true c.loop-at.invariant.named
    c.loop-at.invariant.near
    (subst (λ n. n < c.args.harts) c.from.ensures c.if-from-harts.false) c.if-at-ge-MOST_TURNS.true

pub loop-at-preserved : goal.loop-at-preserved
loop-at-preserved c = record {
  named = All-more (λ number. number < c.args.harts) c.args.schedule.now c.loop-at.at 0 c.loop-at-test.true
      c.loop-at.invariant.named (subst (λ n. n < c.args.harts) c.from.ensures c.if-from-harts.false);
  near = omega (arith, c.if-at-ge-MOST_TURNS.false);
}

pub returns-clause-named : goal.returns-clause-named
returns-clause-named c =
    subst (λ (xs : List ℕ). All (λ number. number < c.args.harts) xs)
    (take_all c.loop-at.at c.args.schedule.now c.loop-at-test.false) c.loop-at.invariant.named
