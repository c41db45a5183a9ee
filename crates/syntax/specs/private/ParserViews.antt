-- The values of the parser, as the machine sees them.
use Rattle.std.specs.Prelude.{◌≡◌, Bool, if◌then◌else◌, List, [], ◌∷◌, Option, Some, None, Result, MatchResult, ℕ}
use Rattle.syntax.specs.declared.parser.ParseFault.{ParseFault}
use Rattle.syntax.specs.declared.parser.ParseFault.TheVariants.{Refused, Memory}
use Rattle.syntax.specs.declared.parser.Parser.{Parser}
use Rattle.syntax.specs.declared.parser.expression.Joint.{Joint}
use Rattle.syntax.specs.declared.parser.statement.BegunStatement.{BegunStatement}
use Rattle.tokens.specs.declared.token.Token.{Token}
use Rattle.tokens.specs.declared.token.TokenKind.TheVariants.{Name}
use Rattle.tokens.specs.Lexeme.{Lexeme, lexeme, lexemes}
use Rattle.syntax.specs.private.Machine.{ParserState, linked, statements, statement, verdict}
use Rattle.tokens.specs.Nested.{nest}
use Rattle.syntax.specs.Reading.{ParseAnswer, refused}
use Rattle.tokens.specs.Tokens.{ending}
use Rattle.syntax.specs.Below.{BlockTree, ExprTree, first, nothing, origin}

-- the machine's answer to what is left
abbrev pub ahead : ParserState → Parser → ParseAnswer
ahead s p = verdict s (nest p.nesting) (lexemes p.rest.now) (ending p.end)

-- the fault is this answer, or out of memory
abbrev pub FaultIs : ParseFault → ParseAnswer → Type 0
FaultIs (Refused rule place) answer = answer ≡ refused rule place
FaultIs Memory answer = Unit {0}

-- the answer from the state on is that from the next one on, after the call
abbrev pub Leads : {T : Type 0} → ParserState → (T → ParserState) → Result T ParseFault → Parser → Parser → Type 0
Leads s next result old new =
    MatchResult result (λ x. ahead s old ≡ ahead (next x) new) (λ f. FaultIs f (ahead s old))

-- the token that stands next; where none does, a name without letters
abbrev pub front : List Token → Lexeme
front [] = record { kind = Name; place = origin; text = [] }
front (token ∷ rest) = lexeme token

-- after the token that stands next, where it may stand there, and without it
abbrev pub skipped : (Lexeme → ParserState) → ParserState → List Token → Bool → ParserState
skipped next other tokens is = if is then next (front tokens) else other

-- after a token that may stand there, and without it
abbrev pub taken : (Lexeme → ParserState) → ParserState → Option Token → ParserState
taken next other None = other
taken next other (Some token) = next (lexeme token)

-- after a sign its right side follows; without one the expression is complete
abbrev pub after_sign : ℕ → ExprTree → (ExprTree → ParserState) → Option Joint → ParserState
after_sign level left k None = k left
after_sign level left k (Some joint) = linked joint.link joint.place level left k

-- after its first token a statement follows; without one there are no more
abbrev pub after_start : (BlockTree → ParserState) → Option BegunStatement → ParserState
after_start k None = k nothing
after_start k (Some begun) = statement begun.start (lexeme begun.token) (λ s. statements (λ b. k (first s b)))
