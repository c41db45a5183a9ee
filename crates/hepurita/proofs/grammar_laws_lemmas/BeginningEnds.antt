-- Each beginning of a phrase can be gone on with, to the end of the phrase.
use Rattle.std.proofs.Common.{◌≡◌, ℕ, List, [], ◌∷◌, ◌++◌, Some, None, refl, sym, subst, append_assoc}
use Rattle.language.specs.declared.signature.Kind.TheVariants as kind
use Rattle.language.specs.declared.signature.Label.TheVariants as label
use Rattle.tokens.specs.declared.token.Keyword.{Keyword}
use Rattle.tokens.specs.declared.token.Keyword.TheVariants as keyword
use Rattle.tokens.specs.declared.token.Sign.{Sign}
use Rattle.tokens.specs.declared.token.Sign.TheVariants as sign
use Rattle.hepurita.specs.Below.{a_phrase, a_token, all, any_amount, any_conversion, any_label, any_length}
use Rattle.hepurita.specs.Below.{any_number, any_prefix, any_word, Begins, BeginsParts, by_case, Case, in_case}
use Rattle.hepurita.specs.Below.{in_phrase, IsOne, Lexeme, no_part, no_token, of_kind, one, origin}
use Rattle.hepurita.specs.Below.{CasePart, past_phrase, Phrase, Single, TokenKind, Whole, WholeParts}
use Rattle.tokens.specs.declared.token.TokenKind.TheVariants as token
use Rattle.language.specs.declared.operators.PrefixOperator.TheVariants as prefix
use Rattle.syntax.specs.Beginning.{past_token}
use Rattle.syntax.specs.Cases as cases
use Rattle.hepurita.proofs.grammar_laws_lemmas.BeginningLaws.{frame}

abbrev of : TokenKind → Lexeme
of kind = record { kind = kind; place = origin; text = [] }

abbrev key : Keyword → Lexeme
key word = of (token.Keyword word)

abbrev mark : Sign → Lexeme
mark s = of (token.Sign s)

abbrev zero' : Lexeme
zero' = of (token.Number 0 None)

-- a token that is as wanted
some_token : (single : Single) → (t : Lexeme) × IsOne single t
some_token (of_kind kind) = (of kind, refl)
some_token any_number = (zero', (0, None, refl))
some_token any_amount = (zero', (0, refl))
some_token any_length = (of (token.Number 1 None), (1, refl))
some_token any_label = (key keyword.Public, (label.Public, refl))
some_token any_word = (key keyword.Bool, (kind.Boolean, refl))
some_token any_conversion = (key keyword.Uint8, (kind.Uint8, refl))
some_token any_prefix = (mark sign.Bang, (prefix.Not, refl))

-- with these tokens behind some, they are whole parts
abbrev Ends : List CasePart → List Lexeme → Type 0
Ends parts tokens = (others : List Lexeme)
    × ((rest : List Lexeme) → WholeParts parts (tokens ++ (others ++ rest)) rest)

-- the same of a phrase
abbrev EndsPhrase : Phrase → List Lexeme → Type 0
EndsPhrase phrase tokens = (others : List Lexeme)
    × ((rest : List Lexeme) → Whole phrase (tokens ++ (others ++ rest)) rest)

-- a phrase and then parts, of which the first tokens are there
phrase_and_parts : (phrase : Phrase) (parts : List CasePart) (tokens : List Lexeme) → EndsPhrase phrase tokens
    → Ends parts [] → Ends (all phrase ∷ parts) tokens
phrase_and_parts phrase parts tokens (front, whole) (others, more) = (
  front ++ others,
  λ rest. subst (λ x. WholeParts (all phrase ∷ parts) (tokens ++ x) rest) (sym (append_assoc front others rest))
      (a_phrase (whole (others ++ rest)) (more rest)),
)

-- some tokens are the whole phrase, or all the parts
abbrev CanBe : Phrase → Type 0
CanBe phrase = EndsPhrase phrase []

abbrev CanAllBe : List CasePart → Type 0
CanAllBe parts = Ends parts []

done : CanAllBe []
done = ([], λ rest. no_part)

token_then : {single : Single} {parts : List CasePart} → CanAllBe parts → CanAllBe (one single ∷ parts)
token_then {single} more = let t = some_token single in (t.0 ∷ more.0, λ rest. a_token t.1 (more.1 rest))

phrase_then : {phrase : Phrase} {parts : List CasePart} → CanBe phrase → CanAllBe parts → CanAllBe (all phrase ∷ parts)
phrase_then {phrase} {parts} whole more = phrase_and_parts phrase parts [] whole more

by : {phrase : Phrase} {parts : List CasePart} → Case phrase parts → CanAllBe parts → CanBe phrase
by c parts = (parts.0, λ rest. by_case c (parts.1 rest))

an_expr : (level : ℕ) → CanBe (cases.expr level)
an_expr level = by cases.a_number (token_then done)

a_list_end : (end : TokenKind) → CanBe (cases.more_exprs end)
a_list_end end = by cases.no_more (token_then done)

no_arguments : CanBe cases.arguments
no_arguments = by cases.no_arguments (token_then done)

a_call : CanBe cases.call
a_call = by cases.a_call (token_then (token_then (phrase_then no_arguments done)))

no_statement : CanBe cases.statements
no_statement = by cases.no_statement done

a_block : CanBe cases.block
a_block = by cases.a_block (token_then (phrase_then no_statement (token_then done)))

no_else : CanBe cases.otherwise
no_else = by cases.no_else done

no_parameters : CanBe cases.parameters
no_parameters = by cases.no_parameters (token_then done)

a_void : CanBe cases.result_type
a_void = by cases.a_void (token_then done)

no_return : CanBe cases.body_end
no_return = by cases.no_return (token_then done)

not_exported : CanBe cases.exported
not_exported = by cases.not_exported done

can_be : (phrase : Phrase) → CanBe phrase
can_be (cases.expr level) = an_expr level
can_be (cases.more_exprs end) = a_list_end end
can_be (cases.expr_list end) = by cases.some_exprs (phrase_then (an_expr 1) (phrase_then (a_list_end end) done))
can_be cases.arguments = no_arguments
can_be cases.call = a_call
can_be cases.right_side = by cases.a_value (phrase_then (an_expr 1) done)
can_be cases.mutable = by cases.no_mut done
can_be cases.array_type = by cases.an_array_type (token_then (token_then (token_then (token_then done))))
can_be cases.first_values = by cases.no_values done
can_be cases.statement = by cases.a_call_statement (phrase_then a_call (token_then done))
can_be cases.conditional =
    by cases.a_conditional
    (token_then (token_then (phrase_then (an_expr 1)
    (token_then (phrase_then a_block (phrase_then no_else done))))))
can_be cases.statements = no_statement
can_be cases.block = a_block
can_be cases.otherwise = no_else
can_be cases.parameter = by cases.a_word (token_then (token_then (token_then done)))
can_be cases.more_parameters = by cases.no_more_parameters (token_then done)
can_be cases.parameters = no_parameters
can_be cases.result_type = a_void
can_be cases.body_end = no_return
can_be cases.exported = not_exported
can_be cases.procedure =
    by cases.a_procedure
    (phrase_then not_exported (phrase_then a_void (token_then (token_then (phrase_then no_parameters
    (token_then (phrase_then no_statement (phrase_then no_return done))))))))
can_be cases.procedures = by cases.no_procedure done

parts_can_be : (parts : List CasePart) → CanAllBe parts
parts_can_be [] = done
parts_can_be (one single ∷ parts) = token_then (parts_can_be parts)
parts_can_be (all phrase ∷ parts) = phrase_then (can_be phrase) (parts_can_be parts)

mutual
  pub ends : {phrase : Phrase} {tokens : List Lexeme} → Begins phrase tokens → EndsPhrase phrase tokens
  ends (in_case c begins) = let w = ends_parts begins in (w.0, λ rest. by_case c (w.1 rest))

  ends_parts : {parts : List CasePart} {tokens : List Lexeme} → BeginsParts parts tokens → Ends parts tokens
  ends_parts (no_token {parts}) = parts_can_be parts
  ends_parts (past_token is begins) = let w = ends_parts begins in (w.0, λ rest. a_token is (w.1 rest))
  ends_parts (past_phrase whole begins) = let w = ends_parts begins in
      (w.0, λ rest. a_phrase (frame whole (w.0 ++ rest)) (w.1 rest))
  ends_parts (in_phrase {phrase} {parts} {tokens} begins) =
      phrase_and_parts phrase parts tokens (ends begins) (parts_can_be parts)
