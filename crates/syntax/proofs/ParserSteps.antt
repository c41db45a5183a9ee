-- States of the machine that the parser's functions take for one another.
use Rattle.std.proofs.Common.{◌≡◌, Bool, true, false, List, [], ◌∷◌, ◌++◌, length, nat_eq, refl}
use Rattle.std.proofs.Common.{ap}
use Rattle.std.specs.Prelude.{if◌then◌else◌}
use Rattle.syntax.specs.declared.parser.Parser.{Parser}
use Rattle.tokens.specs.declared.token.Token.{Token}
use Rattle.tokens.specs.Lexeme.{Lexeme, lexemes}
use Rattle.tokens.specs.Nesting.{Nest, after}
use Rattle.tokens.specs.Tokens.{TokensEnding, ending}
use Rattle.syntax.specs.private.Machine.{ParserState, procedures, more_exprs, more_parameters, otherwise}
use Rattle.syntax.specs.private.Machine.{step, at_end, procedure, verdict, ending_answer}
use Rattle.syntax.specs.private.Machine.{token_answer}
use Rattle.syntax.specs.private.ParserViews.{ahead}
use Rattle.tokens.specs.Nested.{nest}
use Rattle.syntax.specs.Below.{BlockTree, ExprTree, ParameterTree, ProcedureTree}
use Rattle.syntax.proofs.MachineSteps.{after_exprs, after_parameters, before_else}
use Rattle.tokens.specs.declared.token.TokenKind.{TokenKind}

-- the one of two states that a test picks, where both come of it
pub either_way : (b : Bool) (k : Bool → ParserState) → (if b then k true else k false) ≡ k b
either_way true k = refl
either_way false k = refl

-- states between which no token can tell
same-verdict : (s s' : ParserState) (n : Nest) (ts : List Lexeme) (e : TokensEnding) → at_end s ≡ at_end s'
    → ((t : Lexeme) → step s t ≡ step s' t) → verdict s n ts e ≡ verdict s' n ts e
same-verdict s s' n [] e last h = ap (ending_answer e) last
same-verdict s s' n (t ∷ ts) e last h =
    let n' = after t.kind n in
    ap (λ o. token_answer o t n' (λ next. verdict next n' ts e)) (h t)

pub ahead-exprs : (end : TokenKind) (es : List ExprTree) (k : List ExprTree → ParserState) (p : Parser)
    → ahead (more_exprs end es k) p ≡ ahead (after_exprs end es k) p
ahead-exprs end es k p = same-verdict (more_exprs end es k) (after_exprs end es k) (nest p.nesting)
    (lexemes p.rest.now) (ending p.end) refl (λ t. refl)

pub ahead-parameters : (ps : List ParameterTree) (k : List ParameterTree → ParserState) (p : Parser)
    → ahead (more_parameters ps k) p ≡ ahead (after_parameters ps k) p
ahead-parameters ps k p = same-verdict (more_parameters ps k) (after_parameters ps k) (nest p.nesting)
    (lexemes p.rest.now) (ending p.end) refl (λ t. refl)

pub ahead-otherwise : (k : BlockTree → ParserState) (p : Parser) → ahead (otherwise k) p ≡ ahead (before_else k) p
ahead-otherwise k p = same-verdict (otherwise k) (before_else k) (nest p.nesting) (lexemes p.rest.now)
    (ending p.end) refl (λ t. refl)

-- procedures: where a token is left, a further one
ahead-procedure-at : (ps : List ProcedureTree) (n : Nest) (xs : List Token) (e : TokensEnding)
    → nat_eq (length xs) 0 ≡ false → verdict (procedures ps) n (lexemes xs) e
    ≡ verdict (procedure (λ q. procedures (ps ++ q ∷ []))) n (lexemes xs) e
ahead-procedure-at ps n [] e h = cc
ahead-procedure-at ps n (x ∷ xs) e h = refl

pub ahead-procedure : (ps : List ProcedureTree) (p : Parser) → nat_eq (length p.rest.now) 0 ≡ false
    → ahead (procedures ps) p ≡ ahead (procedure (λ q. procedures (ps ++ q ∷ []))) p
ahead-procedure ps p h = ahead-procedure-at ps (nest p.nesting) p.rest.now (ending p.end) h
