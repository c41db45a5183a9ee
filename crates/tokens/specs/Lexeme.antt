-- Tokens as values, without where they lie in memory.
use Rattle.std.specs.Prelude.{ℕ, List, map}
use Rattle.tokens.specs.Below.{Place}
use Rattle.tokens.specs.declared.token.Token.{Token}
use Rattle.tokens.specs.declared.token.TokenKind.{TokenKind}

pub record Lexeme : Type 0 where
  pub kind : TokenKind
  pub place : Place
  pub text : List ℕ

-- a token as a value
abbrev pub lexeme : Token → Lexeme
lexeme token = record { kind = token.kind; place = token.place; text = token.text.now }

abbrev pub lexemes : List Token → List Lexeme
lexemes tokens = map lexeme tokens
