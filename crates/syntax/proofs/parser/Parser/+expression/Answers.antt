use Rattle.std.proofs.Common.{sym}
use Rattle.std.proofs.lemmas.Result.{err_from_is_err_and}
use Rattle.tokens.specs.Lexeme.{lexeme}
use Rattle.syntax.specs.private.Machine.{expr, more, operand}
use Rattle.syntax.specs.Below.{ExprTree}
use Rattle.syntax.proofs.MachineSteps.{operand-step}
use Rattle.syntax.proofs.parser.Parser.+expression.Goals as goal

pub expression-returns-clause-leads : goal.expression-returns-clause-leads
expression-returns-clause-leads t c = λ k. simp c.in_ok-first.ensures.leads (c.further.ensures.leads k)

pub operand-returns-in_err-advance-clause-leads : goal.operand-returns-in_err-advance-clause-leads
operand-returns-in_err-advance-clause-leads t c = λ level k.
    let token = lexeme c.in_ok-token.token in
    let p = err_from_is_err_and c.from_residual-in_err-advance.result c.from_residual-in_err-advance.ensures.1 in
    rw (p.1, p.2) (c.in_err-advance.ensures.leads (expr level k)
    (operand c.in-Some.begins token (λ e. more level 11 e k))
    (operand-step level k token c.in-Some.begins (sym c.in-Some.ensures)))

pub operand-returns-clause-leads : goal.operand-returns-clause-leads
operand-returns-clause-leads t c = λ level k.
    let token = lexeme c.in_ok-token.token in
    let after = λ (e : ExprTree). more level 11 e k in
    let e = c.in_ok-advance.ensures.leads (expr level k) (operand c.in-Some.begins token after)
    (operand-step level k token c.in-Some.begins (sym c.in-Some.ensures)) in
    rw e (c.operand_from.ensures.leads after)
