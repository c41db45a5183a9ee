-- Each text has a list of tokens, and an answer.
use Rattle.std.proofs.Common.{◌≡◌, ℕ, zero, suc, ◌≤◌, inl, inr, ⊎_elim, ◌⊎◌, Bool, true, false, List, [], ◌∷◌, length}
use Rattle.std.proofs.Common.{take, drop, refl, arith, nat_eq}
use Rattle.std.proofs.lemmas.Bool.{cases_lt}
use Rattle.std.specs.Prelude.{codes}
use Rattle.std.specs.List.{position_or_len, starts_with}
use Rattle.hepurita.specs.Below.{ParseAnswer, at_bad_number, at_end, at_unknown_character, BeginsWith}
use Rattle.tokens.specs.declared.lexer.piece.Piece.TheVariants.{BadNumber}
use Rattle.hepurita.specs.Below.{BeginsWithNone, by_tokens, ends_at, is_blank, is_line_feed, is_word_byte}
use Rattle.tokens.specs.Tokens.{TokensEnding}
use Rattle.hepurita.specs.Below.{Lexeme, Lexes, LexesFrom, origin, past_space, past_token, Piece, Place, place_after}
use Rattle.hepurita.specs.Below.{Reads, refused, Sign as SignToken, sign_text, Space, TextTooLong, Token}
use Rattle.tokens.specs.Tokens.{stops}
use Rattle.hepurita.specs.Below.{too_long, UnknownCharacter}
use Rattle.language.specs.declared.rule.Rule.TheVariants.{BadNumber as BadNumberRule}
use Rattle.tokens.specs.Limits.{source_limit}
use Rattle.tokens.specs.Nesting.{outside}
use Rattle.tokens.specs.private.Splitting.{is_no_word_byte}
use Rattle.syntax.specs.private.Machine.{program, verdict}
use Rattle.hepurita.proofs.grammar_laws_lemmas.Below.{answers, OnlySigns, blank_piece, comment_piece, signs}
use Rattle.hepurita.proofs.grammar_laws_lemmas.Below.{word_piece, word_some, run_at, none_from_all, rest_shorter}
use Rattle.hepurita.proofs.grammar_laws_lemmas.Words.{word_spelled}

-- the piece that a text begins with, if there is one
abbrev Front : List ℕ → Type 0
Front text = ((piece : Piece) × (spelling : List ℕ) × (rest : List ℕ) × BeginsWith text piece spelling rest)
    ⊎ BeginsWithNone text

module _ (b : ℕ) (tail : List ℕ) where
  abbrev text : List ℕ
  text = b ∷ tail

  by_sign : OnlySigns text b → Front text
  by_sign only =
      ⊎_elim
      (λ h. let n = length (sign_text h.0) in inl (Token (SignToken h.0), take n text, drop n text, h.1))
      (λ none. inr none)
      (signs text b only)

  by_comment : is_blank b ≡ false → is_word_byte b ≡ false → (c : Bool) → starts_with nat_eq text (codes "//") ≡ c
      → Front text
  by_comment no_blank no_word true e =
      let n = position_or_len is_line_feed text in
      inl (
        Space,
        take n text,
        drop n text,
        comment_piece text (take n text) (drop n text) e (run_at is_line_feed text),
      )
  by_comment no_blank no_word false e =
      by_sign (record { first = refl; no_blank = no_blank; no_word = no_word; no_comment = e })

  by_word : is_blank b ≡ false → (w : Bool) → is_word_byte b ≡ w → Front text
  by_word no_blank true e =
      let n = position_or_len is_no_word_byte text in
      let split = run_at is_no_word_byte text in
      let some = word_some text (take n text) (drop n text) b refl e split in
      let spelled = word_spelled (take n text) some (none_from_all (take n text) split.before) in
      inl (
        spelled.0,
        take n text,
        drop n text,
        word_piece text (take n text) (drop n text) spelled.0 split some spelled.1,
      )
  by_word no_blank false e = by_comment no_blank e (starts_with nat_eq text (codes "//")) refl

  by_blank : (w : Bool) → is_blank b ≡ w → Front text
  by_blank true e =
      inl (Space, take 1 text, drop 1 text, blank_piece text (take 1 text) (drop 1 text) b refl e refl refl)
  by_blank false e = by_word e (is_word_byte b) refl

-- the tokens of what stands from a place on
abbrev Lexing : Place → List ℕ → Type 0
Lexing place text = (tokens : List Lexeme) × (end : TokensEnding) × LexesFrom place text tokens end

-- after a piece, with the tokens of shorter texts
stepped : (n : ℕ) → ((place : Place) (text : List ℕ) → length text ≤ n → Lexing place text)
    → (place : Place) (text : List ℕ) → length text ≤ suc n
    → (piece : Piece) (spelling rest : List ℕ) → BeginsWith text piece spelling rest → Lexing place text
stepped n shorter place text less Space spelling rest begins =
    let parts = rest_shorter text Space spelling rest begins in
    let h = shorter (place_after place spelling) rest (omega (arith, less, parts.0, parts.1)) in
    (h.0, h.1, past_space begins h.2)
stepped n shorter place text less (Token kind) spelling rest begins =
    let parts = rest_shorter text (Token kind) spelling rest begins in
    let h = shorter (place_after place spelling) rest (omega (arith, less, parts.0, parts.1)) in (
      record { kind = kind; place = place; text = spelling } ∷ h.0,
      h.1,
      past_token begins h.2,
    )
stepped n shorter place text less BadNumber spelling rest begins =
    ([], stops BadNumberRule place, at_bad_number begins)

within : (n : ℕ) (place : Place) (text : List ℕ) → length text ≤ n → Lexing place text
within n place [] less = ([], ends_at place, at_end)
within zero place (b ∷ tail) less = absurd (omega (arith, less))
within (suc n) place (b ∷ tail) less =
    ⊎_elim
    (λ h. stepped n (within n) place (b ∷ tail) less h.0 h.1 h.2 h.3)
    (λ none. ([], stops UnknownCharacter place, at_unknown_character none))
    (by_blank b tail (is_blank b) refl)

pub tokens_of : (text : List ℕ) → (tokens : List Lexeme) × (end : TokensEnding) × Lexes text tokens end
tokens_of text = within (length text) origin text (omega arith)

pub answer_to : (text : List ℕ) → (answer : ParseAnswer) × Reads text answer
answer_to text =
    ⊎_elim
    (λ long. (refused TextTooLong origin, too_long long))
    (λ short.
    let h = tokens_of text in
    (verdict program outside h.0 h.1, by_tokens short h.2 (answers h.0 h.1)))
    (cases_lt source_limit (length text))
