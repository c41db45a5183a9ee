use Rattle.std.proofs.Common.{arith}
use Rattle.std.proofs.lemmas.Result.{err_from_is_err_and}
use Rattle.std.proofs.lemmas.List.{map_push}
use Rattle.syntax.proofs.ParserSteps.{ahead-parameters}
use Rattle.syntax.proofs.parser.Parser.parameters.Goals as goal

pub returns-in_err-skips-2-clause-leads : goal.returns-in_err-skips-2-clause-leads
returns-in_err-skips-2-clause-leads c = λ k.
    let p = err_from_is_err_and c.from_residual-in_err-skips-2.result c.from_residual-in_err-skips-2.ensures.1 in
    rw (p.1, p.2, c.list.invariant.same) (simp (c.in_ok-parameter.ensures.leads, ahead-parameters)
    (c.in_err-skips-2.ensures.leads _ _))

pub list-preserved : goal.list-preserved
list-preserved c = record {
  same = λ k.
      rw (c.in_ok-push.ensures.items, map_push) (simp (c.list.invariant.same, c.in_ok-parameter.ensures.leads)
      (simp (ahead-parameters, c.in_ok-skips-2.ensures.leads, c.if-not-branch.false)));
  shorter = omega (arith, c.list.invariant.shorter, c.in_ok-skips-2.ensures.same, c.in_ok-parameter.ensures.shorter);
}

pub returns-in_err-pass-clause-leads : goal.returns-in_err-pass-clause-leads
returns-in_err-pass-clause-leads c = λ k.
    let p = err_from_is_err_and c.from_residual-in_err-pass.result c.from_residual-in_err-pass.ensures.1 in
    rw (p.1, p.2, c.list.invariant.same) (simp c.in_ok-parameter.ensures.leads
    (simp (ahead-parameters, c.in_ok-skips-2.ensures.leads, c.if-not-branch.true) (c.in_err-pass.ensures.leads _)))

pub returns-clause-leads : goal.returns-clause-leads
returns-clause-leads c = λ k.
    rw (c.in_ok-push.ensures.items, map_push) (simp (c.list.invariant.same, c.in_ok-parameter.ensures.leads)
    (simp (ahead-parameters, c.in_ok-skips-2.ensures.leads, c.if-not-branch.true) (c.in_ok-pass.ensures.leads _)))

pub list-init : goal.list-init
list-init c = record {
  same = λ k. simp (c.in_ok-skips.ensures.leads, c.if-branch.false, c.new-parameters.ensures.items);
  shorter = c.in_ok-skips.ensures.same;
}
