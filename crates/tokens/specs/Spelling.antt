-- How the pieces of a text are spelled, each by its bytes: blanks, comments, keywords, names, numbers and signs.
use Rattle.std.specs.Prelude.{◌≡◌, ◌≢◌, ℕ, ◌<◌, ◌^◌, ◌==◌, ◌||◌, ◌&&◌, ◌⊎◌, Bool, true, false, not, List, [], ◌∷◌}
use Rattle.std.specs.Prelude.{◌++◌, Option, Some, None, codes}
use Rattle.std.specs.Char.{is_ascii_alphanumeric, is_ascii_digit}
use Rattle.std.specs.List.{list_all, list_any}
use Rattle.std.specs.Str.Parse.{IsNumeral, digits_value}
use Rattle.tokens.specs.declared.token.Keyword.{Keyword}
use Rattle.tokens.specs.declared.token.Keyword.TheVariants.{Export, Void, Public, Secret, Mut, Bool as BoolWord}
use Rattle.tokens.specs.declared.token.Keyword.TheVariants.{Uint8, Uint16, Uint32, True, False, If, Else, For, From}
use Rattle.tokens.specs.declared.token.Keyword.TheVariants.{To, Return, Select}
use Rattle.tokens.specs.declared.token.Sign.{Sign}
use Rattle.tokens.specs.declared.token.Sign.TheVariants.{RotateLeft, ShiftLeft, ShiftRight, AtMost, AtLeast, Equals}
use Rattle.tokens.specs.declared.token.Sign.TheVariants.{Differs, AndAlso, OrElse, OpenRound, CloseRound, OpenCurly}
use Rattle.tokens.specs.declared.token.Sign.TheVariants.{CloseCurly, OpenSquare, CloseSquare, Comma, Semicolon}
use Rattle.tokens.specs.declared.token.Sign.TheVariants.{Assign, Plus, Minus, Star, Slash, Percent, Ampersand, Bar}
use Rattle.tokens.specs.declared.token.Sign.TheVariants.{Caret, Tilde, Bang, Below, Above}
use Rattle.tokens.specs.declared.token.Suffix.{Suffix}
use Rattle.tokens.specs.declared.token.Suffix.TheVariants.{U8, U16, U32}
use Rattle.tokens.specs.declared.token.TokenKind.TheVariants.{Keyword as KeywordToken, Name as NameToken}
use Rattle.tokens.specs.declared.token.TokenKind.TheVariants.{Number as NumberToken, Sign as SignToken}
use Rattle.tokens.specs.declared.lexer.piece.Piece.{Piece}
use Rattle.tokens.specs.declared.lexer.piece.Piece.TheVariants.{Space, Token, BadNumber}

abbrev pub keyword_text : Keyword → List ℕ
keyword_text Export = codes "export"
keyword_text Void = codes "void"
keyword_text Public = codes "public"
keyword_text Secret = codes "secret"
keyword_text Mut = codes "mut"
keyword_text BoolWord = codes "bool"
keyword_text Uint8 = codes "uint8"
keyword_text Uint16 = codes "uint16"
keyword_text Uint32 = codes "uint32"
keyword_text True = codes "true"
keyword_text False = codes "false"
keyword_text If = codes "if"
keyword_text Else = codes "else"
keyword_text For = codes "for"
keyword_text From = codes "from"
keyword_text To = codes "to"
keyword_text Return = codes "return"
keyword_text Select = codes "select"

abbrev pub sign_text : Sign → List ℕ
sign_text RotateLeft = codes "<<<"
sign_text ShiftLeft = codes "<<"
sign_text ShiftRight = codes ">>"
sign_text AtMost = codes "<="
sign_text AtLeast = codes ">="
sign_text Equals = codes "=="
sign_text Differs = codes "!="
sign_text AndAlso = codes "&&"
sign_text OrElse = codes "||"
sign_text OpenRound = codes "("
sign_text CloseRound = codes ")"
sign_text OpenCurly = codes "{"
sign_text CloseCurly = codes "}"
sign_text OpenSquare = codes "["
sign_text CloseSquare = codes "]"
sign_text Comma = codes ","
sign_text Semicolon = codes ";"
sign_text Assign = codes "="
sign_text Plus = codes "+"
sign_text Minus = codes "-"
sign_text Star = codes "*"
sign_text Slash = codes "/"
sign_text Percent = codes "%"
sign_text Ampersand = codes "&"
sign_text Bar = codes "|"
sign_text Caret = codes "^"
sign_text Tilde = codes "~"
sign_text Bang = codes "!"
sign_text Below = codes "<"
sign_text Above = codes ">"

-- what a number ends in
abbrev pub suffix_text : Option Suffix → List ℕ
suffix_text None = []
suffix_text (Some U8) = codes "u8"
suffix_text (Some U16) = codes "u16"
suffix_text (Some U32) = codes "u32"

-- blank, tab, carriage return, line feed
abbrev pub is_blank : ℕ → Bool
is_blank b = (b == 32) || (b == 9) || (b == 13) || (b == 10)

abbrev pub is_line_feed : ℕ → Bool
is_line_feed b = b == 10

-- a letter, a digit or `_`
abbrev pub is_word_byte : ℕ → Bool
is_word_byte b = is_ascii_alphanumeric b || (b == 95)

-- a word that begins with no digit
abbrev pub is_name_or_keyword : List ℕ → Bool
is_name_or_keyword [] = false
is_name_or_keyword (b ∷ bytes) = not (is_ascii_digit b) && list_all is_word_byte (b ∷ bytes)

-- a word that begins with a digit
abbrev pub is_number_or_bad : List ℕ → Bool
is_number_or_bad [] = false
is_number_or_bad (b ∷ bytes) = is_ascii_digit b && list_all is_word_byte (b ∷ bytes)

-- decimal digits, or `0x` and hexadecimal digits, and the value that they write
abbrev pub WritesValue : List ℕ → ℕ → Type 0
WritesValue digits value =
    (IsNumeral 10 digits × (value ≡ digits_value 10 digits)) ⊎
    ((hexadecimal : List ℕ) × (digits ≡ codes "0x" ++ hexadecimal) × IsNumeral 16 hexadecimal
    × (value ≡ digits_value 16 hexadecimal))

-- a number is digits and perhaps a suffix; its value is below 2 ^ 32
pub record IsNumber (bytes : List ℕ) (value : ℕ) (suffix : Option Suffix) : Type 0 where
  pub digits : List ℕ
  pub parts : bytes ≡ digits ++ suffix_text suffix
  pub written : WritesValue digits value
  pub small : value < 2 ^ 32

-- each piece of a text, with the bytes that spell it
pub data Spells : Piece → List ℕ → Type 0 where
  blank : (b : ℕ) → is_blank b ≡ true → Spells Space (b ∷ [])
  comment : (bytes : List ℕ) → list_any is_line_feed bytes ≡ false → Spells Space (codes "//" ++ bytes)
  keyword : (word : Keyword) → Spells (Token (KeywordToken word)) (keyword_text word)
  name : (bytes : List ℕ) → is_name_or_keyword bytes ≡ true → ((word : Keyword) → bytes ≢ keyword_text word)
      → Spells (Token NameToken) bytes
  number : (bytes : List ℕ) (value : ℕ) (suffix : Option Suffix) → is_number_or_bad bytes ≡ true
      → IsNumber bytes value suffix → Spells (Token (NumberToken value suffix)) bytes
  bad_number : (bytes : List ℕ) → is_number_or_bad bytes ≡ true
      → ((value : ℕ) (suffix : Option Suffix) → IsNumber bytes value suffix → ⊥) → Spells BadNumber bytes
  sign : (mark : Sign) → Spells (Token (SignToken mark)) (sign_text mark)
