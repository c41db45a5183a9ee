-- A text has one answer.
use Rattle.std.proofs.Common.{◌≡◌, ℕ, ◌<◌, ◌≤◌, Some, inl, inr, List, length, sym, subst, refl, arith, Bool, true}
use Rattle.std.proofs.Common.{false}
use Rattle.std.specs.Prelude.{nat_lt}
use Rattle.syntax.specs.Below.{IsWantOfMemory, origin, Plain, Refusal, TextTooLong}
use Rattle.tokens.specs.Lexeme.{Lexeme}
use Rattle.syntax.specs.Reading.{refused, IsParseAnswer, Reads, too_long, by_tokens, OneAnswer, IsRefusedAs}
use Rattle.tokens.specs.Limits.{source_limit}
use Rattle.tokens.specs.Tokens.{TokensEnding, Lexes}
use Rattle.syntax.proofs.MachineAnswers.{one_answer_for_tokens, lt-true, lt-false}
use Rattle.tokens.proofs.TokenLaws.{one_list}

-- a text has one answer
pub one_answer : OneAnswer
one_answer text _ _ (too_long long) (too_long long') = refl
one_answer text _ _ (too_long long) (by_tokens short lexes h) = absurd (omega arith)
one_answer text _ _ (by_tokens short lexes h) (too_long long) = absurd (omega arith)
one_answer text one two (by_tokens {ending = ending} short lexes h)
    (by_tokens {tokens = ts} {ending = ending'} short' lexes' h') =
    let same = one_list text _ ts _ ending' lexes lexes' in
    one_answer_for_tokens ts ending' one two
    (subst (λ e. IsParseAnswer ts e one) same.1 (subst (λ ts. IsParseAnswer ts ending one) same.0 h)) h'

-- what refuses the tokens of a text refuses the text
pub text-refused : (text : List ℕ) (tokens : List Lexeme) (ending : TokensEnding) (r : Refusal)
    → length text ≤ source_limit
    → Lexes text tokens ending → IsRefusedAs (IsParseAnswer tokens ending) r → IsRefusedAs (Reads text) r
text-refused text tokens ending r short lexes (inl memory) = inl memory
text-refused text tokens ending r short lexes (inr w) =
    inr (w.0, w.1, by_tokens short lexes w.2, w.3)

pub not-long : (n : ℕ) → (source_limit < n → ⊥) → n ≤ source_limit
not-long n h = go (nat_lt source_limit n) refl
  where
    go : (b : Bool) → nat_lt source_limit n ≡ b → n ≤ source_limit
    go true e = absurd (h (lt-true source_limit n e))
    go false e = lt-false source_limit n e

-- what the lexer refuses
pub lexer-refused : (text : List ℕ) (r : Refusal)
    → (source_limit < length text → (r.rule ≡ TextTooLong) × (r.place ≡ Some origin) × (r.why ≡ Plain))
    → (length text ≤ source_limit → IsWantOfMemory r.rule r.place) → IsRefusedAs (Reads text) r
lexer-refused text r long memory = go (nat_lt source_limit (length text)) refl
  where
    go : (b : Bool) → nat_lt source_limit (length text) ≡ b → IsRefusedAs (Reads text) r
    go true e = let w = long (lt-true source_limit (length text) e) in
        inr (
          origin,
          w.1,
          subst (λ rule. Reads text (refused rule origin)) (sym w.0)
              (too_long (lt-true source_limit (length text) e)),
          w.2,
        )
    go false e = inl (memory (lt-false source_limit (length text) e))
