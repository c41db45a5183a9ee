use Rattle.std.proofs.Common.{◌≤◌, arith, sym}
use Rattle.std.proofs.lemmas.Result.{err_from_is_err_and}
use Rattle.tokens.specs.Lexeme.{lexeme}
use Rattle.syntax.specs.private.Machine.{more, linked, link_level, link_left_level}
use Rattle.syntax.proofs.MachineSteps.{sign-step}
use Rattle.syntax.proofs.parser.Parser.sign.Goals as goal

pub returns-in_err-advance-clause-leads : goal.returns-in_err-advance-clause-leads
returns-in_err-advance-clause-leads c = λ left k.
    let t = lexeme c.in-Ok.token in
    let o = c.in-Some.link in
    let low : c.args.level ≤ link_level o = omega (arith, c.level.ensures, c.if-level.false) in
    let high : link_left_level o ≤ c.args.top = omega (arith, c.left_level.ensures, c.if-top-left_level.false) in
    let p = err_from_is_err_and c.from_residual.result c.from_residual.ensures.1 in
    rw (p.1, p.2) (c.in_err-advance.ensures.leads (more c.args.level c.args.top left k)
    (linked o t.place c.args.level left k)
    (sign-step c.args.level c.args.top left k t o (sym c.in-Some.ensures) low high))
