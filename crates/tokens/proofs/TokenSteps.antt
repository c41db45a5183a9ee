-- What one piece adds to the tokens so far, and that each token's text is cut from the text.
use Rattle.std.proofs.Common.{◌≡◌, ℕ, ◌+◌, ◌<◌, List, [], ◌∷◌, ◌++◌, length, take, drop, refl, sym, ap, ◌∙◌, subst}
use Rattle.std.proofs.Common.{arith, append_assoc, length-append}
use Rattle.std.specs.List.{All, AllByRecursion}
use Rattle.std.proofs.lemmas.List.{append-nil, map_push, take_at, drop_at, drop-drop}
use Rattle.std.proofs.lemmas.List.Elements.{All-from_recursion}
use Rattle.tokens.specs.Below.{BadNumber as BadNumberRule, Place, UnknownCharacter}
use Rattle.tokens.specs.declared.token.Token.{Token}
use Rattle.tokens.specs.declared.lexer.piece.Piece.TheVariants.{Space, Token as TokenPiece, BadNumber}
use Rattle.tokens.specs.declared.lexer.piece.Piece.{Piece}
use Rattle.tokens.proofs.TokenLaws.{spelled_some}
use Rattle.tokens.specs.Lexeme.{Lexeme, lexeme, lexemes}
use Rattle.tokens.specs.Tokens.{BeginsWith, BeginsWithNone, TokensEnding, ends_at, stops, LexesFrom, at_end, past_space}
use Rattle.tokens.specs.Tokens.{past_token, at_bad_number, at_unknown_character, place_after, next_place, Lexes}
use Rattle.tokens.specs.Tokens.{IsSliceOf}

-- what is left goes on from the tokens so far
abbrev pub GoesOn : List ℕ → List Token → Place → List ℕ → Type 0
GoesOn text tokens place rest = (more : List Lexeme) (end : TokensEnding) → LexesFrom place rest more end
    → Lexes text (lexemes tokens ++ more) end

pub goes_on_past_space : (text : List ℕ) (tokens : List Token) (place : Place) (rest spelling others : List ℕ)
    → BeginsWith rest Space spelling others → GoesOn text tokens place rest
    → GoesOn text tokens (place_after place spelling) others
goes_on_past_space text tokens place rest spelling others begins goes =
    λ more end h. goes more end (past_space begins h)

pub goes_on_past_token : (text : List ℕ) (tokens : List Token) (place : Place) (rest others : List ℕ) (token : Token)
    → token.place ≡ place → BeginsWith rest (TokenPiece token.kind) token.text.now others
    → GoesOn text tokens place rest → GoesOn text (tokens ++ token ∷ []) (place_after place token.text.now) others
goes_on_past_token text tokens place rest others token same begins goes = λ more end h.
    let one : Lexes text (lexemes tokens
    ++ (record { kind = token.kind; place = place; text = token.text.now } ∷ more)) end =
    goes _ end (past_token begins h) in
    let placed : lexemes tokens ++ (record { kind = token.kind; place = place; text = token.text.now } ∷ more)
    ≡ lexemes tokens ++ (lexeme token ∷ more) =
    (λ i. lexemes tokens ++ (record { kind = token.kind; place = sym same i; text = token.text.now } ∷ more)) in
    let pushed : lexemes tokens ++ (lexeme token ∷ more) ≡ lexemes (tokens ++ token ∷ []) ++ more =
    sym (ap (λ l. l ++ more) (map_push lexeme tokens token)
    ∙ append_assoc (lexemes tokens) (lexeme token ∷ []) more) in
    subst (λ l. Lexes text l end) (placed ∙ pushed) one

-- the list ends there
pub goes_on_end : (text : List ℕ) (tokens : List Token) (place : Place) (rest : List ℕ) (end : TokensEnding)
    → GoesOn text tokens place rest → LexesFrom place rest [] end → Lexes text (lexemes tokens) end
goes_on_end text tokens place rest end goes h =
    subst (λ l. Lexes text l end) (append-nil (lexemes tokens)) (goes [] end h)

pub goes_on_to_end : (text : List ℕ) (tokens : List Token) (place : Place) (rest : List ℕ)
    → GoesOn text tokens place rest → length rest ≡ 0 → Lexes text (lexemes tokens) (ends_at place)
goes_on_to_end text tokens place [] goes none = goes_on_end text tokens place [] (ends_at place) goes at_end
goes_on_to_end text tokens place (b ∷ rest) goes none = absurd (omega arith)

pub goes_on_to_unknown : (text : List ℕ) (tokens : List Token) (place : Place) (rest : List ℕ)
    → GoesOn text tokens place rest → 0 < length rest → BeginsWithNone rest
    → Lexes text (lexemes tokens) (stops UnknownCharacter place)
goes_on_to_unknown text tokens place [] goes some none = absurd (omega arith)
goes_on_to_unknown text tokens place (b ∷ rest) goes some none =
    goes_on_end text tokens place (b ∷ rest) (stops UnknownCharacter place) goes (at_unknown_character none)

pub goes_on_to_bad_number : (text : List ℕ) (tokens : List Token) (place : Place) (rest spelling others : List ℕ)
    → GoesOn text tokens place rest → BeginsWith rest BadNumber spelling others
    → Lexes text (lexemes tokens) (stops BadNumberRule place)
goes_on_to_bad_number text tokens place rest spelling others goes begins =
    goes_on_end text tokens place rest (stops BadNumberRule place) goes
    (at_bad_number begins)

-- less is left
pub rest_shorter : (rest : List ℕ) (piece : Piece) (spelling others : List ℕ) → BeginsWith rest piece spelling others
    → (length rest ≡ length spelling + length others) × (0 < length spelling)
rest_shorter rest piece spelling others begins =
    (ap length begins.parts ∙ length-append spelling others, spelled_some begins.spelled)

-- a place counts the bytes before it
place_after-offset : (place : Place) (bytes : List ℕ) → (place_after place bytes).offset ≡ place.offset + length bytes
place_after-offset place [] = omega arith
place_after-offset place (b ∷ bytes) = let next = place_after-offset (next_place place b) bytes in omega (arith, next)

rest_at : (text rest spelling others : List ℕ) (place : Place) → drop place.offset text ≡ rest
    → rest ≡ spelling ++ others → drop (place_after place spelling).offset text ≡ others
rest_at text rest spelling others place at parts =
    ap (λ n. drop n text) (place_after-offset place spelling)
    ∙ sym (drop-drop (length spelling) place.offset text)
    ∙ ap (drop (length spelling)) (at ∙ parts)
    ∙ drop_at spelling others (length spelling) refl

slices_from : {place : Place} {rest : List ℕ} {tokens : List Lexeme} {end : TokensEnding}
    → LexesFrom place rest tokens end
    → (text : List ℕ) → drop place.offset text ≡ rest → AllByRecursion (IsSliceOf text) tokens
slices_from at_end text at = tt
slices_from (past_space {place} {text = rest} {spelling} {rest = others} begins h) text at =
    slices_from h text (rest_at text rest spelling others place at begins.parts)
slices_from (past_token {place} {text = rest} {spelling} {rest = others} begins h) text at = (
  ap (take (length spelling)) (at ∙ begins.parts) ∙ take_at spelling others (length spelling) refl,
  slices_from h text (rest_at text rest spelling others place at begins.parts),
)
slices_from (at_bad_number begins) text at = tt
slices_from (at_unknown_character none) text at = tt

pub slices : (text : List ℕ) (tokens : List Lexeme) (end : TokensEnding) → Lexes text tokens end
    → All (IsSliceOf text) tokens
slices text tokens end h = All-from_recursion (IsSliceOf text) tokens (slices_from h text refl)
