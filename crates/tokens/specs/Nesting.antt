-- How deeply each token of a text is nested.
use Rattle.std.specs.Prelude.{ℕ, ◌+◌, ◌-◌, ◌≤◌, Bool, true, false, List, [], ◌∷◌, ◌++◌, length, take, slice_index}
use Rattle.std.specs.Prelude.{if◌then◌else◌}
use Rattle.tokens.specs.Limits.{nesting_limit}
use Rattle.tokens.specs.declared.nesting.NestingEffect.{NestingEffect}
use Rattle.tokens.specs.declared.nesting.NestingEffect.TheVariants.{Opens, Closes, Raises, SetsBack, Stays}
use Rattle.tokens.specs.declared.token.TokenKind.{TokenKind}
use Rattle.tokens.specs.declared.token.TokenKind.TheVariants as token
use Rattle.tokens.specs.declared.token.Keyword.TheVariants.{Else, From, To, Return}
use Rattle.tokens.specs.declared.token.Sign.TheVariants.{OpenRound, CloseRound, OpenCurly, CloseCurly, OpenSquare}
use Rattle.tokens.specs.declared.token.Sign.TheVariants.{CloseSquare, Comma, Semicolon, Assign}
use Rattle.tokens.specs.Lexeme.{Lexeme}

-- brackets open and close, operator signs and `else` raise, and what ends a part or begins `return` sets back
abbrev pub effect_of : TokenKind → NestingEffect
effect_of (token.Sign OpenRound) = Opens
effect_of (token.Sign OpenCurly) = Opens
effect_of (token.Sign OpenSquare) = Opens
effect_of (token.Sign CloseRound) = Closes
effect_of (token.Sign CloseCurly) = Closes
effect_of (token.Sign CloseSquare) = Closes
effect_of (token.Sign Comma) = SetsBack
effect_of (token.Sign Semicolon) = SetsBack
effect_of (token.Sign Assign) = SetsBack
effect_of (token.Sign _) = Raises
effect_of (token.Keyword Else) = Raises
effect_of (token.Keyword From) = SetsBack
effect_of (token.Keyword To) = SetsBack
effect_of (token.Keyword Return) = SetsBack
effect_of _ = Stays

-- the count after some tokens, the counts just after each open bracket, the innermost last, and whether a `}` came
-- last
pub record Nest : Type 0 where
  pub count : ℕ
  pub bases : List ℕ
  pub after_block : Bool

-- before the first token
abbrev pub outside : Nest
outside = record { count = 0; bases = []; after_block = false }

-- the count just after the innermost open bracket, 0 outside all
abbrev pub base_of : List ℕ → ℕ
base_of bases = slice_index bases (length bases - 1)

abbrev pub is_close_curly : TokenKind → Bool
is_close_curly (token.Sign CloseCurly) = true
is_close_curly _ = false

abbrev pub is_else : TokenKind → Bool
is_else (token.Keyword Else) = true
is_else _ = false

-- the count that a token finds: after `}` each token but `else` begins a statement, which sets the count back
abbrev pub count_before : TokenKind → Nest → ℕ
count_before kind nest = if nest.after_block then (if is_else kind then nest.count else base_of nest.bases)
    else nest.count

-- the count of a token, from the count that it finds
abbrev pub changed_count : NestingEffect → ℕ → List ℕ → ℕ
changed_count Opens count bases = count + 1
changed_count Closes count bases = base_of bases - 1
changed_count Raises count bases = count + 1
changed_count SetsBack count bases = base_of bases
changed_count Stays count bases = count

abbrev pub changed_bases : NestingEffect → ℕ → List ℕ → List ℕ
changed_bases Opens count bases = bases ++ (count + 1) ∷ []
changed_bases Closes count bases = take (length bases - 1) bases
changed_bases Raises count bases = bases
changed_bases SetsBack count bases = bases
changed_bases Stays count bases = bases

-- after one more token of this kind
abbrev pub after : TokenKind → Nest → Nest
after kind nest = record {
  count = changed_count (effect_of kind) (count_before kind nest) nest.bases;
  bases = changed_bases (effect_of kind) (count_before kind nest) nest.bases;
  after_block = is_close_curly kind;
}

-- after further tokens
abbrev pub after_all : List Lexeme → Nest → Nest
after_all [] nest = nest
after_all (t ∷ tokens) nest = after_all tokens (after t.kind nest)

-- no token's count is above the limit
abbrev pub AreWithinFrom : Nest → List Lexeme → Type 0
AreWithinFrom nest [] = Unit {0}
AreWithinFrom nest (t ∷ tokens) = ((after t.kind nest).count ≤ nesting_limit)
    × AreWithinFrom (after t.kind nest) tokens

abbrev pub AreWithin : List Lexeme → Type 0
AreWithin tokens = AreWithinFrom outside tokens
