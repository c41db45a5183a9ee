-- How a source is answered: by its tree, or by the first refusal, reading from the left.
use Rattle.std.specs.Prelude.{◌≡◌, ℕ, ◌<◌, ◌≤◌, List, [], ◌∷◌, ◌++◌, length, Some, ◌⊎◌}
use Rattle.syntax.specs.Below.{IsWantOfMemory, Nesting, origin, Place, Plain, ProgramTree, Refusal, Rule, TextTooLong}
use Rattle.syntax.specs.Below.{UnexpectedToken}
use Rattle.syntax.specs.Grammar.{IsProgram, IsBeginning}
use Rattle.tokens.specs.Lexeme.{Lexeme}
use Rattle.tokens.specs.Nesting.{outside, after, after_all, AreWithin}
use Rattle.tokens.specs.Limits.{source_limit}
use Rattle.tokens.specs.Limits.{nesting_limit}
use Rattle.tokens.specs.Tokens.{TokensEnding, ends_at, stops, Lexes}

pub data ParseAnswer : Type 0 where
  accepted : (tree : ProgramTree) → ParseAnswer
  refused : (rule : Rule) (place : Place) → ParseAnswer

-- the answer to a list of tokens that ends so
pub data IsParseAnswer : List Lexeme → TokensEnding → ParseAnswer → Type 0 where
  -- the tokens are a program and none is nested too deeply
  a_program : (tokens : List Lexeme) (end : Place) (tree : ProgramTree) → IsProgram tokens tree → AreWithin tokens
      → IsParseAnswer tokens (ends_at end) (accepted tree)
  -- no program begins with the tokens up to this one
  unexpected : (front rest : List Lexeme) (t : Lexeme) (ending : TokensEnding) → IsBeginning front
      → ¬ IsBeginning (front ++ t ∷ []) → AreWithin front
      → IsParseAnswer (front ++ t ∷ rest) ending (refused UnexpectedToken t.place)
  -- a program begins so, but the source ends here
  unexpected_end : (tokens : List Lexeme) (end : Place) → IsBeginning tokens
      → ((tree : ProgramTree) → ¬ IsProgram tokens tree) → AreWithin tokens
      → IsParseAnswer tokens (ends_at end) (refused UnexpectedToken end)
  -- a program begins with the tokens up to this one, which is nested too deeply
  too_deep : (front rest : List Lexeme) (t : Lexeme) (ending : TokensEnding) → IsBeginning (front ++ t ∷ [])
      → AreWithin front → nesting_limit < (after t.kind (after_all front outside)).count
      → IsParseAnswer (front ++ t ∷ rest) ending (refused Nesting t.place)
  -- a program begins so, and a bad character or number stands next
  bad_token : (tokens : List Lexeme) (rule : Rule) (place : Place) → IsBeginning tokens → AreWithin tokens
      → IsParseAnswer tokens (stops rule place) (refused rule place)

-- the answer to a source
pub data Reads : List ℕ → ParseAnswer → Type 0 where
  too_long : {source : List ℕ} → source_limit < length source → Reads source (refused TextTooLong origin)
  by_tokens : {source : List ℕ} {tokens : List Lexeme} {ending : TokensEnding} {answer : ParseAnswer}
      → length source ≤ source_limit
      → Lexes source tokens ending → IsParseAnswer tokens ending answer → Reads source answer

-- a list of tokens has one answer at most
abbrev pub OneAnswerForTokens : Type 0
OneAnswerForTokens = (tokens : List Lexeme) (ending : TokensEnding) (one two : ParseAnswer)
    → IsParseAnswer tokens ending one
    → IsParseAnswer tokens ending two → one ≡ two

-- a source has one answer at most, so one tree at most, and it is not both accepted and refused
abbrev pub OneAnswer : Type 0
OneAnswer = (source : List ℕ) (one two : ParseAnswer) → Reads source one → Reads source two → one ≡ two

-- tokens are one program at most
abbrev pub OneProgram : Type 0
OneProgram = (tokens : List Lexeme) (one two : ProgramTree) → IsProgram tokens one → IsProgram tokens two → one ≡ two

-- the refusal says out of memory, and has no place, or it has a place and is an answer; rule and place say it all
abbrev pub IsRefusedAs : (ParseAnswer → Type 0) → Refusal → Type 0
IsRefusedAs P refusal = IsWantOfMemory refusal.rule refusal.place
    ⊎ ((place : Place) × (refusal.place ≡ Some place) × P (refused refusal.rule place) × (refusal.why ≡ Plain))
