-- Single steps of the machine, and states that step as others do.
use Rattle.std.proofs.Common.{◌≡◌, ℕ, ◌≤◌, true, ◌&&◌, List, [], ◌∷◌, ◌++◌, Some, None, ap, ◌∙◌, arith}
use Rattle.std.proofs.Common.{if◌then◌else◌}
use Rattle.std.proofs.lemmas.Bool.Decides.{nat_tests}
use Rattle.std.specs.Prelude.{nat_le}
use Rattle.std.specs.Option.{option_map}
use Rattle.syntax.specs.Below.{BlockTree, ExprTree, first, Kind, Label, nothing, ParameterTree, StatementTree}
use Rattle.tokens.specs.declared.operators.OperandStart.{OperandStart}
use Rattle.tokens.specs.declared.operators.Link.{Link}
use Rattle.syntax.specs.declared.parser.statement.Start.{Start}
use Rattle.tokens.specs.declared.token.TokenKind.{TokenKind}
use Rattle.syntax.specs.Grammar.{label_of, word_of, amount_of, length_of}
use Rattle.tokens.specs.Lexeme.{Lexeme}
use Rattle.syntax.specs.private.Machine.{ParserState, fits, one, either, statements, starts_with, statement, started}
use Rattle.syntax.specs.private.Machine.{a_label, a_kind, a_length, an_amount, expr, more, begins_of, operand, link_of}
use Rattle.syntax.specs.private.Machine.{link_level, link_left_level, linked, within, joined, step, more_exprs}
use Rattle.syntax.specs.private.Machine.{more_parameters, parameter, after_else}
use Rattle.tokens.specs.declared.token.TokenKind.TheVariants as token
use Rattle.tokens.specs.declared.token.Keyword.TheVariants as keyword
use Rattle.tokens.specs.declared.token.Sign.TheVariants as sign

pub one-step : (what : TokenKind) (k : Lexeme → ParserState) (t : Lexeme) → fits what t.kind ≡ true
    → step (one what k) t ≡ Some (k t)
one-step what k t is = ap (λ b. if b then Some (k t) else None) is

pub either-step : (what : TokenKind) (next : Lexeme → ParserState) (other : ParserState) (t : Lexeme)
    → fits what t.kind ≡ true
    → step (either what next other) t ≡ Some (next t)
either-step what next other t is = ap (λ b. if b then Some (next t) else step other t) is

pub label-step : (k : Label → ParserState) (t : Lexeme) (label : Label) → label_of t.kind ≡ Some label
    → step (a_label k) t ≡ Some (k label)
label-step k t label is = ap (option_map k) is

pub kind-step : (k : Kind → ParserState) (t : Lexeme) (kind : Kind) → word_of t.kind ≡ Some kind
    → step (a_kind k) t ≡ Some (k kind)
kind-step k t kind is = ap (option_map k) is

pub length-step : (k : ℕ → ParserState) (t : Lexeme) (n : ℕ) → length_of t.kind ≡ Some n → step (a_length k) t ≡ Some
    (k n)
length-step k t n is = ap (option_map k) is

pub amount-step : (k : ℕ → ParserState) (t : Lexeme) (n : ℕ) → amount_of t.kind ≡ Some n → step (an_amount k) t ≡ Some
    (k n)
amount-step k t n is = ap (option_map k) is

both_le : (level n m top : ℕ) → level ≤ n → m ≤ top → (nat_le level n && nat_le m top) ≡ true
both_le level n m top low high = grind (arith, nat_tests)

within_level : (level top : ℕ) (link : Link) → level ≤ link_level link → link_left_level link ≤ top
    → within level top (Some link) ≡ Some link
within_level level top link low high = let e = both_le level (link_level link) (link_left_level link) top low high in
    rw e

pub sign-step : (level top : ℕ) (left : ExprTree) (k : ExprTree → ParserState) (t : Lexeme) (link : Link)
    → link_of t.kind ≡ Some link → level ≤ link_level link → link_left_level link ≤ top
    → step (more level top left k) t ≡ Some (linked link t.place level left k)
sign-step level top left k t link is low high =
    ap (λ o. joined o t.place level left k (step (k left) t)) (ap (within level top) is
    ∙ within_level level top link low high)

pub operand-step : (level : ℕ) (k : ExprTree → ParserState) (t : Lexeme) (b : OperandStart) → begins_of t.kind ≡ Some b
    → step (expr level k) t ≡ Some (operand b t (λ e. more level 11 e k))
operand-step level k t b is = ap (option_map (λ b. operand b t (λ e. more level 11 e k))) is

-- after a statement
abbrev pub more_statements : (BlockTree → ParserState) → StatementTree → ParserState
more_statements k s = statements (λ b. k (first s b))

pub start-step : (k : BlockTree → ParserState) (t : Lexeme) (start : Start) → starts_with t.kind ≡ Some start
    → step (statements k) t ≡ Some (statement start t (more_statements k))
start-step k t start is = ap (λ o. started o t (more_statements k) (step (k nothing) t)) is

-- a further expression of the list
abbrev pub further : TokenKind → List ExprTree → (List ExprTree → ParserState) → ParserState
further end es k = expr 1 (λ e. more_exprs end (es ++ e ∷ []) k)

-- expressions of a list: a comma and a further one, or the end
abbrev pub after_exprs : TokenKind → List ExprTree → (List ExprTree → ParserState) → ParserState
after_exprs end es k = either (token.Sign sign.Comma) (λ _. further end es k) (one end (λ _. k es))

-- parameters: a comma and a further one, or the end
abbrev pub further_parameter : List ParameterTree → (List ParameterTree → ParserState) → ParserState
further_parameter ps k = parameter (λ p. more_parameters (ps ++ p ∷ []) k)

abbrev pub after_parameters : List ParameterTree → (List ParameterTree → ParserState) → ParserState
after_parameters ps k = either (token.Sign sign.Comma) (λ _. further_parameter ps k)
    (one (token.Sign sign.CloseRound) (λ _. k ps))

-- a second arm, or what else may stand there
abbrev pub before_else : (BlockTree → ParserState) → ParserState
before_else k = either (token.Keyword keyword.Else) (λ _. after_else k) (k nothing)
