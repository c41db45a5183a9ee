use Rattle.std.proofs.Common.{sym}
use Rattle.std.proofs.lemmas.Result.{err_from_is_err_and}
use Rattle.tokens.specs.Lexeme.{lexeme}
use Rattle.syntax.specs.private.Machine.{statements, statement}
use Rattle.syntax.proofs.MachineSteps.{start-step, more_statements}
use Rattle.syntax.proofs.parser.Parser.start.Goals as goal

pub returns-in_err-advance-clause-leads : goal.returns-in_err-advance-clause-leads
returns-in_err-advance-clause-leads c = λ k.
    let t = lexeme c.in-Ok.token in
    let p = err_from_is_err_and c.from_residual.result c.from_residual.ensures.1 in
    rw (p.1, p.2) (c.in_err-advance.ensures.leads (statements k) (statement c.in-Some.start t (more_statements k))
    (start-step k t c.in-Some.start (sym c.in-Some.ensures)))
