-- Each word of a source is a keyword, a name, a number or a bad one.
use Rattle.std.proofs.Common.{◌≡◌, ◌≢◌, ℕ, ◌^◌, ◌<◌, ◌⊎◌, inl, inr, ⊎_elim, Bool, true, false, List, [], ◌∷◌}
use Rattle.std.proofs.Common.{◌++◌, length, take, drop, get_or, Option, Some, None, refl, sym, ap, ◌∙◌, subst, arith}
use Rattle.std.specs.Prelude.{codes}
use Rattle.std.specs.Bool.{Decides}
use Rattle.std.specs.Char.{digit_value, is_ascii_digit}
use Rattle.std.specs.List.{find, list_all}
use Rattle.std.specs.Str.{bytes_eq}
use Rattle.std.specs.Str.Parse.{AllDigits, IsNumeral, digits_value}
use Rattle.std.proofs.lemmas.Bool.{cases_lt}
use Rattle.std.proofs.lemmas.List.{take-append-drop}
use Rattle.std.proofs.lemmas.Slice.Eq.{bytes_eq-Decides}
use Rattle.hepurita.specs.Below.{bad_number, is_word_byte, IsNumber, keyword, Keyword as KeywordToken}
use Rattle.tokens.specs.declared.lexer.piece.Piece.TheVariants.{BadNumber}
use Rattle.hepurita.specs.Below.{keyword_text, Name as NameToken, Number as NumberToken, Piece, suffix_text}
use Rattle.tokens.specs.Spelling.{Spells}
use Rattle.hepurita.specs.Below.{Token, WritesValue}
use Rattle.tokens.specs.declared.token.Suffix.{Suffix}
use Rattle.tokens.specs.Spelling.{name, number}
use Rattle.tokens.specs.private.Splitting.{SplitsAtFirst, is_suffix_letter}
use Rattle.hepurita.proofs.grammar_laws_lemmas.Below.{name_word, number_cut, number_word, suffixes, suffix_found}
use Rattle.hepurita.proofs.grammar_laws_lemmas.Below.{keywords, keyword_found, find_passes, value_unique, run_at}

-- what a test decides, holds or does not
by_test : {P : Type 0} (b : Bool) → Decides b P → P ⊎ (P → ⊥)
by_test true decides = inl (decides.0 refl)
by_test false decides = inr (λ p. absurd (let e = decides.1 p in cc))

same_bytes : (xs ys : List ℕ) → (xs ≡ ys) ⊎ (xs ≡ ys → ⊥)
same_bytes xs ys = by_test (bytes_eq xs ys) (bytes_eq-Decides xs ys)

-- a word is one of the spellings, or none
spelled_or_not : {A : Type 0} (spelling : A → List ℕ) (all : List A)
    → ((x : A) → find (λ y. bytes_eq (spelling x) (spelling y)) all ≡ Some x) → (word : List ℕ)
    → ((x : A) × (word ≡ spelling x)) ⊎ ((x : A) → word ≢ spelling x)
spelled_or_not {A} spelling all known word = by (find (λ y. bytes_eq word (spelling y)) all) refl
  where
    none : (x : A) → find (λ y. bytes_eq word (spelling y)) all ≡ None → word ≡ spelling x → ⊥
    none x e is =
        let found : None ≡ Some x = sym e ∙ ap (λ w. find (λ y. bytes_eq w (spelling y)) all) is ∙ known x in
        cc

    by : (o : Option A) → find (λ y. bytes_eq word (spelling y)) all ≡ o
        → ((x : A) × (word ≡ spelling x)) ⊎ ((x : A) → word ≢ spelling x)
    by (Some x) e =
        let same = find_passes (λ y. bytes_eq word (spelling y)) all x e in
        inl (x, (bytes_eq-Decides word (spelling x)).0 same)
    by None e = inr (λ x is. none x e is)

-- Numbers.

all_digits : (radix : ℕ) (digits : List ℕ) → AllDigits radix digits ⊎ (AllDigits radix digits → ⊥)
all_digits radix [] = inl tt
all_digits radix (c ∷ digits) =
    ⊎_elim
    (λ small. ⊎_elim (λ all. inl (small, all)) (λ no. inr (λ h. no h.1)) (all_digits radix digits))
    (λ large. inr (λ h. let small = h.0 in omega (arith, large, small)))
    (cases_lt (digit_value c) radix)

numeral : (radix : ℕ) (digits : List ℕ) → IsNumeral radix digits ⊎ (IsNumeral radix digits → ⊥)
numeral radix [] = inr (λ h. let some = h.0 in omega (arith, some))
numeral radix (c ∷ digits) =
    ⊎_elim (λ all. inl (omega arith, all)) (λ no. inr (λ h. no h.1)) (all_digits radix (c ∷ digits))

written : (digits : List ℕ) → ((value : ℕ) × WritesValue digits value) ⊎ ((value : ℕ) → WritesValue digits value → ⊥)
written digits = ⊎_elim (λ h. inl (digits_value 10 digits, inl (h, refl))) hexadecimal (numeral 10 digits)
  where
    hexadecimal : (IsNumeral 10 digits → ⊥) → ((value : ℕ) × WritesValue digits value)
        ⊎ ((value : ℕ) → WritesValue digits value → ⊥)
    hexadecimal other =
        ⊎_elim
        (λ is.
        let parts : digits ≡ codes "0x" ++ drop 2 digits = sym (take-append-drop 2 digits)
        ∙ ap (λ l. l ++ drop 2 digits) is in
        ⊎_elim
        (λ h. inl (digits_value 16 (drop 2 digits), inr (drop 2 digits, parts, h, refl)))
        (λ none.
        inr (λ value w. ⊎_elim (λ d. other d.0) (λ h. none (subst (IsNumeral 16) (sym (ap (drop 2) h.1)) h.2))
        w))
        (numeral 16 (drop 2 digits)))
        (λ unlike. inr (λ value w. ⊎_elim (λ d. other d.0) (λ h. unlike (ap (take 2) h.1)) w))
        (same_bytes (take 2 digits) (codes "0x"))

abbrev Read : List ℕ → Type 0
Read word = ((value : ℕ) × (suffix : Option Suffix) × IsNumber word value suffix)
    ⊎ ((value : ℕ) (suffix : Option Suffix) → IsNumber word value suffix → ⊥)

module _ (word digits tail : List ℕ) (split : SplitsAtFirst is_suffix_letter word digits tail) where
  same_digits : (value : ℕ) (suffix : Option Suffix) → IsNumber word value suffix → WritesValue digits value
  same_digits value suffix n =
      subst (λ l. WritesValue l value) (number_cut word digits tail split value suffix n).0 n.written

  with_value : (suffix : Option Suffix) → suffix_text suffix ≡ tail → (value : ℕ) → WritesValue digits value
      → Read word
  with_value suffix is value writes =
      ⊎_elim
      (λ small. inl (
        value,
        suffix,
        record {
          digits = digits;
          parts = split.parts ∙ ap (λ l. digits ++ l) (sym is);
          written = writes;
          small = small;
        },
      ))
      (λ large. inr (λ v s n.
      let same : v ≡ value = value_unique digits v value (same_digits v s n) writes in
      let small : v < 2 ^ 32 = n.small in
      omega (arith, same, small, large)))
      (cases_lt value (2 ^ 32))

  read_parts : Read word
  read_parts =
      ⊎_elim
      (λ h. ⊎_elim (λ w. with_value h.0 (sym h.1) w.0 w.1) (λ no. inr (λ v s n. no v (same_digits v s n)))
      (written digits))
      (λ no. inr (λ v s n. no s (sym (number_cut word digits tail split v s n).1)))
      (spelled_or_not suffix_text suffixes suffix_found tail)

read : (word : List ℕ) → Read word
read word = read_parts word _ _ (run_at is_suffix_letter word)

-- Words.

pub word_spelled : (word : List ℕ) → 0 < length word → list_all is_word_byte word ≡ true
    → (piece : Piece) × Spells piece word
word_spelled word some all = by (is_ascii_digit (get_or word 0 0)) refl
  where
    by : (b : Bool) → is_ascii_digit (get_or word 0 0) ≡ b → (piece : Piece) × Spells piece word
    by true e =
        ⊎_elim
        (λ h. (Token (NumberToken h.0 h.1), number word h.0 h.1 (number_word word some e all) h.2))
        (λ no. (BadNumber, bad_number word (number_word word some e all) no))
        (read word)
    by false e =
        ⊎_elim
        (λ h. (Token (KeywordToken h.0), subst (Spells (Token (KeywordToken h.0))) (sym h.1) (keyword h.0)))
        (λ none. (Token NameToken, name word (name_word word some e all) none))
        (spelled_or_not keyword_text keywords keyword_found word)
