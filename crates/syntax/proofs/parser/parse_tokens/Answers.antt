use Rattle.std.proofs.Common.{ap, sym, subst, ◌∙◌, inr}
use Rattle.tokens.specs.Lexeme.{lexemes}
use Rattle.syntax.specs.private.Machine.{program, verdict}
use Rattle.syntax.specs.private.ParserViews.{FaultIs}
use Rattle.tokens.specs.Nested.{nest}
use Rattle.syntax.specs.Reading.{IsParseAnswer, refused}
use Rattle.tokens.specs.Tokens.{ending}
use Rattle.syntax.proofs.MachineAnswers.{answers}
use Rattle.syntax.proofs.parser.parse_tokens.Goals as goal

pub returns-in-Ok-clause-accepted : goal.returns-in-Ok-clause-accepted
returns-in-Ok-clause-accepted c =
    let ts = lexemes c.args.tokens.now in
    let e = ending c.args.end in
    subst (IsParseAnswer ts e) (ap (λ n. verdict program n ts e) (sym c.new.ensures) ∙ c.in-Ok.ensures.leads)
    (answers ts e)

pub returns-in-Err-Refused-clause-refused : goal.returns-in-Err-Refused-clause-refused
returns-in-Err-Refused-clause-refused c =
    let ts = lexemes c.args.tokens.now in
    let e = ending c.args.end in
    let place = c.in-Err-Refused.place in
    let h = subst (λ f. FaultIs f (verdict program (nest c.new.result) ts e)) c.in-Err-Refused.field-0-is
    c.in-Err-Refused.ensures.leads in
    let a = subst (IsParseAnswer ts e) (ap (λ n. verdict program n ts e) (sym c.new.ensures) ∙ h) (answers ts e) in
    inr (
      place,
      c.at.ensures.place,
      subst (λ r. IsParseAnswer ts e (refused r place)) (sym c.at.ensures.rule) a,
      c.at.ensures.why,
    )
