-- The tokens that a text spells. Each piece of the text is the longest spelling that stands there.
use Rattle.std.specs.Prelude.{◌≡◌, ℕ, ◌+◌, ◌≤◌, ◌==◌, if◌then◌else◌, List, [], ◌∷◌, ◌++◌, length, take, drop}
use Rattle.tokens.specs.Below.{BadNumber as BadNumberRule, origin, Place, Rule, UnexpectedToken, UnknownCharacter}
use Rattle.tokens.specs.declared.token.TokenKind.{TokenKind}
use Rattle.tokens.specs.declared.lexer.piece.Piece.{Piece}
use Rattle.tokens.specs.declared.lexer.piece.Piece.TheVariants.{Space, Token, BadNumber}
use Rattle.tokens.specs.declared.lexer.ListEnd.{ListEnd}
use Rattle.tokens.specs.declared.lexer.ListEnd.TheVariants.{TextEnd, Fault}
use Rattle.tokens.specs.Lexeme.{Lexeme}
use Rattle.tokens.specs.Spelling.{Spells}

-- how a list of tokens ends: at the end of the text, or at the first bad character or number
pub data TokensEnding : Type 0 where
  ends_at : (place : Place) → TokensEnding
  stops : (rule : Rule) (place : Place) → TokensEnding

-- the same of the list's end in code
abbrev pub ending : ListEnd → TokensEnding
ending (TextEnd place) = ends_at place
ending (Fault rule place) = stops rule place

-- why no further token stands there, where one has to
abbrev pub refusal_of : TokensEnding → Rule × Place
refusal_of (ends_at place) = (UnexpectedToken, place)
refusal_of (stops rule place) = (rule, place)

-- the place after a byte: a line feed ends the line
abbrev pub next_place : Place → ℕ → Place
next_place place b = record {
  offset = place.offset + 1;
  line = (if b == 10 then place.line + 1 else place.line);
  column = (if b == 10 then 1 else place.column + 1);
}

-- the place after some bytes
abbrev pub place_after : Place → List ℕ → Place
place_after place [] = place
place_after place (b ∷ bytes) = place_after (next_place place b) bytes

-- the text is this piece's spelling and then the rest, and no spelling of any piece that it begins with is longer
pub record BeginsWith (text : List ℕ) (piece : Piece) (spelling rest : List ℕ) : Type 0 where
  pub parts : text ≡ spelling ++ rest
  pub spelled : Spells piece spelling
  pub longest : (other : Piece) (front others : List ℕ) → Spells other front → text ≡ front ++ others
      → length front ≤ length spelling

-- the text begins with no spelling of a piece
abbrev pub BeginsWithNone : List ℕ → Type 0
BeginsWithNone text = (piece : Piece) (front others : List ℕ) → Spells piece front → text ≡ front ++ others → ⊥

-- what stands from a place on spells these tokens
pub data LexesFrom : Place → List ℕ → List Lexeme → TokensEnding → Type 0 where
  at_end : {place : Place} → LexesFrom place [] [] (ends_at place)
  past_space : {place : Place} {text spelling rest : List ℕ} {tokens : List Lexeme} {end : TokensEnding}
      → BeginsWith text Space spelling rest → LexesFrom (place_after place spelling) rest tokens end
      → LexesFrom place text tokens end
  past_token : {place : Place} {text spelling rest : List ℕ} {kind : TokenKind} {tokens : List Lexeme}
      {end : TokensEnding}
      → BeginsWith text (Token kind) spelling rest → LexesFrom (place_after place spelling) rest tokens end
      → LexesFrom place text (record { kind = kind; place = place; text = spelling } ∷ tokens) end
  at_bad_number : {place : Place} {text spelling rest : List ℕ} → BeginsWith text BadNumber spelling rest
      → LexesFrom place text [] (stops BadNumberRule place)
  at_unknown_character : {place : Place} {b : ℕ} {text : List ℕ} → BeginsWithNone (b ∷ text)
      → LexesFrom place (b ∷ text) [] (stops UnknownCharacter place)

-- the text spells these tokens, with their places, and the list of them ends so
abbrev pub Lexes : List ℕ → List Lexeme → TokensEnding → Type 0
Lexes text tokens end = LexesFrom origin text tokens end

-- a text has one list of tokens
abbrev pub OneList : Type 0
OneList = (text : List ℕ) (xs ys : List Lexeme) (e f : TokensEnding) → Lexes text xs e → Lexes text ys f
    → (xs ≡ ys) × (e ≡ f)

-- the token's text is what stands in the text at its offset
abbrev pub IsSliceOf : List ℕ → Lexeme → Type 0
IsSliceOf text token = take (length token.text) (drop token.place.offset text) ≡ token.text
