-- A number is cut in one way only into its digits and its suffix.
use Rattle.std.proofs.Common.{◌≡◌, ℕ, ◌<◌, ◌≤◌, Bool, true, false, List, [], ◌∷◌, length, get_or, Option, Some, None}
use Rattle.std.proofs.Common.{inl, inr, refl, sym, ap, ◌∙◌, subst, arith, eqb-true, ⊎_elim}
use Rattle.std.proofs.lemmas.Bool.{cases_Bool}
use Rattle.std.specs.Prelude.{not, ◌&&◌}
use Rattle.std.specs.Char.{digit_value, is_ascii_digit}
use Rattle.std.specs.List.{find, list_any, list_all}
use Rattle.std.specs.Str.{bytes_eq}
use Rattle.std.specs.Str.Parse.{AllDigits, digits_value}
use Rattle.tokens.specs.declared.token.Suffix.{Suffix}
use Rattle.tokens.specs.declared.token.Suffix.TheVariants.{U8, U16, U32}
use Rattle.tokens.specs.Spelling.{IsNumber, WritesValue, is_word_byte, is_number_or_bad, is_name_or_keyword}
use Rattle.tokens.specs.Spelling.{suffix_text}
use Rattle.tokens.specs.private.Splitting.{IsEmptyOrBeginsWith, SplitsAtFirst, is_suffix_letter}
use Rattle.tokens.proofs.TokenRuns.{run_unique}

digit_is_no_u : (radix c : ℕ) → radix ≤ 16 → digit_value c < radix → is_suffix_letter c ≡ false
digit_is_no_u radix c small digit = elim (cases_Bool (is_suffix_letter c)) [
  | inl is ↦ absurd (let value : digit_value c ≡ 30 = ap digit_value (eqb-true c 117 is) in omega arith)
  | inr is ↦ is
]

digits_no_u : (radix : ℕ) (digits : List ℕ) → radix ≤ 16 → AllDigits radix digits
    → list_any is_suffix_letter digits ≡ false
digits_no_u radix [] small all = refl
digits_no_u radix (c ∷ digits) small all =
    rw (digit_is_no_u radix c small all.0) (digits_no_u radix digits small all.1)

written_no_u : (digits : List ℕ) (value : ℕ) → WritesValue digits value → list_any is_suffix_letter digits ≡ false
written_no_u digits value written =
    ⊎_elim
    (λ decimal. digits_no_u 10 digits (omega arith) decimal.0.1)
    (λ h. ap (list_any is_suffix_letter) h.1 ∙ digits_no_u 16 h.0 (omega arith) h.2.1)
    written

suffix_begins : (suffix : Option Suffix) → IsEmptyOrBeginsWith is_suffix_letter (suffix_text suffix)
suffix_begins None = tt
suffix_begins (Some U8) = refl
suffix_begins (Some _) = refl

-- the digits end before the first `u`
pub number_cut : (word digits tail : List ℕ) → SplitsAtFirst is_suffix_letter word digits tail
    → (value : ℕ) (suffix : Option Suffix) (n : IsNumber word value suffix)
    → (n.digits ≡ digits) × (suffix_text suffix ≡ tail)
number_cut word digits tail split value suffix n =
    run_unique is_suffix_letter n.digits digits (suffix_text suffix) tail (written_no_u n.digits value n.written)
    split.before (suffix_begins suffix) split.next (sym n.parts ∙ split.parts)

and_is_true : (a b : Bool) → a ≡ true → b ≡ true → (a && b) ≡ true
and_is_true a b e f = (λ i. e i && f i)

-- a word is of one sort or the other by its first byte
pub number_word : (word : List ℕ) → 0 < length word → is_ascii_digit (get_or word 0 0) ≡ true
    → list_all is_word_byte word ≡ true → is_number_or_bad word ≡ true
number_word [] some digit all = absurd (omega arith)
number_word (b ∷ word) some digit all = and_is_true (is_ascii_digit b) (list_all is_word_byte (b ∷ word)) digit all

pub name_word : (word : List ℕ) → 0 < length word → is_ascii_digit (get_or word 0 0) ≡ false
    → list_all is_word_byte word ≡ true → is_name_or_keyword word ≡ true
name_word [] some digit all = absurd (omega arith)
name_word (b ∷ word) some digit all =
    and_is_true (not (is_ascii_digit b)) (list_all is_word_byte (b ∷ word)) (ap not digit) all

abbrev pub suffixes : List (Option Suffix)
suffixes = None ∷ Some U8 ∷ Some U16 ∷ Some U32 ∷ []

abbrev suffix_named : List ℕ → Option (Option Suffix)
suffix_named text = find (λ suffix. bytes_eq text (suffix_text suffix)) suffixes

pub suffix_found : (suffix : Option Suffix) → suffix_named (suffix_text suffix) ≡ Some suffix
suffix_found (Some U8) = refl
suffix_found _ = refl

pub suffix_unique : (a b : Option Suffix) → suffix_text a ≡ suffix_text b → a ≡ b
suffix_unique a b e =
    let same : Some a ≡ Some b = sym (suffix_found a) ∙ ap suffix_named e ∙ suffix_found b in
    cc

-- decimal digits are no hexadecimal number
no_x : (digits hexadecimal : List ℕ) → AllDigits 10 digits → digits ≡ 48 ∷ 120 ∷ hexadecimal → ⊥
no_x digits hexadecimal all e =
    let both = subst (AllDigits 10) e all in
    let bad : 33 < 10 = both.1.0 in
    omega arith

pub value_unique : (digits : List ℕ) (v w : ℕ) → WritesValue digits v → WritesValue digits w → v ≡ w
value_unique digits v w a b =
    ⊎_elim
    (λ d. ⊎_elim (λ f. d.1 ∙ sym f.1) (λ h. absurd (no_x digits h.0 d.0.1 h.1)) b)
    (λ g. ⊎_elim (λ f. absurd (no_x digits g.0 f.0.1 g.1))
    (λ h. let twice : 48 ∷ 120 ∷ g.0 ≡ 48 ∷ 120 ∷ h.0 = sym g.1 ∙ h.1 in let same : g.0 ≡ h.0 = cc in
    g.3 ∙ ap (digits_value 16) same ∙ sym h.3) b)
    a

-- a number has one value and one suffix
pub number_unique : (word : List ℕ) (v w : ℕ) (r s : Option Suffix) → IsNumber word v r → IsNumber word w s
    → (v ≡ w) × (r ≡ s)
number_unique word v w r s n m =
    let cut = run_unique is_suffix_letter n.digits m.digits (suffix_text r) (suffix_text s)
    (written_no_u n.digits v n.written) (written_no_u m.digits w m.written) (suffix_begins r) (suffix_begins s)
    (sym n.parts ∙ m.parts) in
    (value_unique n.digits v w n.written (rw cut.0 m.written), suffix_unique r s cut.1)
