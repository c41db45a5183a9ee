use Rattle.std.proofs.Common.{◌≡◌, true, rules}
use Rattle.std.proofs.lemmas.Result.{err_from_is_err_and}
use Rattle.tokens.specs.Lexeme.{lexeme}
use Rattle.syntax.specs.private.Machine.{either, fits}
use Rattle.syntax.proofs.MachineSteps.{either-step}
use Rattle.syntax.proofs.parser.Parser.skips.Goals as goal

pub returns-in_err-advance-clause-leads : goal.returns-in_err-advance-clause-leads
returns-in_err-advance-clause-leads c = λ next other.
    let t = lexeme c.in-Ok.token in
    let same : fits c.args.wanted c.in-Ok.token.kind ≡ true = search rules in
    let p = err_from_is_err_and c.from_residual.result c.from_residual.ensures.1 in
    rw (p.1, p.2) (c.in_err-advance.ensures.leads (either c.args.wanted next other) (next t)
    (either-step c.args.wanted next other t same))
