use Rattle.std.proofs.Common.{arith}
use Rattle.std.proofs.lemmas.Result.{err_from_is_err_and}
use Rattle.std.proofs.lemmas.List.{map_push}
use Rattle.syntax.proofs.ParserSteps.{ahead-exprs}
use Rattle.syntax.proofs.parser.Parser.expressions.Goals as goal

pub returns-in_err-skips-clause-leads : goal.returns-in_err-skips-clause-leads
returns-in_err-skips-clause-leads c = λ k.
    let p = err_from_is_err_and c.from_residual-in_err-skips.result c.from_residual-in_err-skips.ensures.1 in
    rw (p.1, p.2, c.list.invariant.same) (simp (c.in_ok-expression.ensures.leads, ahead-exprs)
    (c.in_err-skips.ensures.leads _ _))

pub list-preserved : goal.list-preserved
list-preserved c = record {
  same = λ k.
      rw (c.in_ok-push.ensures.items, map_push) (simp (c.list.invariant.same, c.in_ok-expression.ensures.leads)
      (simp (ahead-exprs, c.in_ok-skips.ensures.leads, c.if-not-branch.false)));
  shorter = omega (arith, c.list.invariant.shorter, c.in_ok-skips.ensures.same, c.in_ok-expression.ensures.shorter);
}

pub returns-in_err-pass-clause-leads : goal.returns-in_err-pass-clause-leads
returns-in_err-pass-clause-leads c = λ k.
    let p = err_from_is_err_and c.from_residual-in_err-pass.result c.from_residual-in_err-pass.ensures.1 in
    rw (p.1, p.2, c.list.invariant.same) (simp c.in_ok-expression.ensures.leads
    (simp (ahead-exprs, c.in_ok-skips.ensures.leads, c.if-not-branch.true) (c.in_err-pass.ensures.leads _)))

pub returns-clause-leads : goal.returns-clause-leads
returns-clause-leads c = λ k.
    rw (c.in_ok-push.ensures.items, map_push) (simp (c.list.invariant.same, c.in_ok-expression.ensures.leads)
    (simp (ahead-exprs, c.in_ok-skips.ensures.leads, c.if-not-branch.true) (c.in_ok-pass.ensures.leads _)))
