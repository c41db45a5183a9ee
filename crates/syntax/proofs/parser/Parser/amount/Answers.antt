use Rattle.std.proofs.Common.{sym}
use Rattle.std.proofs.lemmas.Result.{err_from_is_err_and}
use Rattle.tokens.specs.Lexeme.{lexeme}
use Rattle.syntax.specs.private.Machine.{an_amount}
use Rattle.syntax.proofs.MachineSteps.{amount-step}
use Rattle.syntax.proofs.parser.Parser.amount.Goals as goal

pub returns-in_err-advance-clause-leads : goal.returns-in_err-advance-clause-leads
returns-in_err-advance-clause-leads c = λ k.
    let r = c.from_residual-in_err-advance in
    let p = err_from_is_err_and r.result r.ensures.1 in
    let found = amount-step k (lexeme c.in_ok-token.token) c.in-Some.amount (sym c.in-Some.ensures) in
    rw (p.1, p.2) (c.in_err-advance.ensures.leads (an_amount k) (k c.in-Some.amount) found)
