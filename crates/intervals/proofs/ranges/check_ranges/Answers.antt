use Rattle.std.proofs.Common.{sym, subst, ◌∙◌, inl, inr}
use Rattle.intervals.specs.Loose.{IsSafe}
use Rattle.intervals.specs.Ranges.{range_violations}
use Rattle.language.proofs.SoonerLemmas.{found_first, found_none}
use Rattle.findings.proofs.NotedLemmas.{first_is}
use Rattle.intervals.proofs.RefusalLemmas.{on_any, on_error}
use Rattle.intervals.proofs.ranges.check_ranges.Goals as goal

pub returns-in-Some-clause-refused : goal.returns-in-Some-clause-refused
returns-in-Some-clause-refused c =
    inl
    (inr (
      c.in-Some.first,
      found_first (range_violations c.args.flat.now) c.in-Some.first
          (sym (first_is (range_violations c.args.flat.now) c.new.ensures c.in_ok-walk.ensures.findings c.first.ensures) ∙ c.in-Some.is),
      c.of.ensures.rule,
      c.of.ensures.place,
    ))

pub returns-clause-in_range : goal.returns-clause-in_range
returns-clause-in_range c =
    on_any c.with_work.result
    (found_none (range_violations c.args.flat.now)
    (sym (first_is (range_violations c.args.flat.now) c.new.ensures c.in_ok-walk.ensures.findings c.first.ensures) ∙ c.in-None.is))

pub returns-clause-refused : goal.returns-clause-refused
returns-clause-refused c =
    on_error c.with_work.result (λ refusal h.
    inr (
      found_none (range_violations c.args.flat.now)
          (sym (first_is (range_violations c.args.flat.now) c.new.ensures c.in_ok-walk.ensures.findings c.first.ensures) ∙ c.in-None.is),
      inr (h.0, h.1, h.3.rule, h.3.place),
    )) c.with_work.ensures.refused

pub returns-in-Some-clause-told : goal.returns-in-Some-clause-told
returns-in-Some-clause-told c =
    inl
    (inr (
      c.in-Some.first,
      sym (first_is (range_violations c.args.flat.now) c.new.ensures c.in_ok-walk.ensures.findings c.first.ensures) ∙ c.in-Some.is,
      record { rule = c.of.ensures.rule; place = c.of.ensures.place; why = c.of.ensures.why },
    ))

pub returns-clause-told : goal.returns-clause-told
returns-clause-told c =
    on_error c.with_work.result (λ refusal h.
    inr (
      found_none (range_violations c.args.flat.now)
          (sym (first_is (range_violations c.args.flat.now) c.new.ensures c.in_ok-walk.ensures.findings c.first.ensures) ∙ c.in-None.is),
      inr (h.0, h.2, h.3),
    )) c.with_work.ensures.refused

pub with_work-requires : goal.with_work-requires
with_work-requires c =
    let in_range = found_none (range_violations c.args.flat.now)
    (sym (first_is (range_violations c.args.flat.now) c.new.ensures c.in_ok-walk.ensures.findings c.first.ensures) ∙ c.in-None.is) in
    record {
      iterations = c.in_ok-walk.ensures.iterations;
      safe = subst (IsSafe c.args.flat.now) (sym c.in_ok-walk.ensures.iterations)
          (c.in_ok-walk.ensures.safe in_range);
    }
