-- What a spelling looks like from its first byte on, and which spellings of a text are the longest.
use Rattle.std.proofs.Common.{◌≡◌, ℕ, ◌≤◌, Bool, true, false, List, [], ◌∷◌, ◌++◌, length, refl, sym, ap, ◌∙◌, arith}
use Rattle.std.specs.Prelude.{nat_eq, not, codes}
use Rattle.std.specs.List.{list_all, list_any, starts_with}
use Rattle.tokens.specs.declared.token.Keyword.{Keyword}
use Rattle.tokens.specs.declared.token.Keyword.TheVariants.{Export}
use Rattle.tokens.specs.declared.token.Sign.{Sign}
use Rattle.tokens.specs.declared.token.Sign.TheVariants.{RotateLeft, Slash}
use Rattle.tokens.specs.declared.lexer.piece.Piece.{Piece}
use Rattle.tokens.specs.Spelling.{Spells, blank, comment, keyword, name, number, bad_number, sign, keyword_text}
use Rattle.tokens.specs.Spelling.{sign_text, is_blank, is_line_feed, is_word_byte, is_name_or_keyword, is_number_or_bad}
use Rattle.tokens.specs.private.Splitting.{is_no_word_byte, IsEmptyOrBeginsWith}
use Rattle.tokens.proofs.TokenBytes.{blank_is_no_word_byte}
use Rattle.tokens.proofs.TokenRuns.{or_false, and_true, run_longest}

pub data Shape : List ℕ → Type 0 where
  a_blank : (b : ℕ) → is_blank b ≡ true → Shape (b ∷ [])
  a_comment : (bytes : List ℕ) → list_any is_line_feed bytes ≡ false → Shape (47 ∷ 47 ∷ bytes)
  a_word : (b : ℕ) (bytes : List ℕ) → list_all is_word_byte (b ∷ bytes) ≡ true → Shape (b ∷ bytes)
  a_sign : (mark : Sign) → Shape (sign_text mark)

pub keyword_is_word : (word : Keyword) → is_name_or_keyword (keyword_text word) ≡ true
keyword_is_word word = elim word as (λ w. is_name_or_keyword (keyword_text w) ≡ true) [ Export ↦ refl | _ ↦ refl ]

name_shape : (bytes : List ℕ) → is_name_or_keyword bytes ≡ true → Shape bytes
name_shape [] e = cc
name_shape (b ∷ bytes) e = a_word b bytes (and_true _ _ e).1

number_shape : (bytes : List ℕ) → is_number_or_bad bytes ≡ true → Shape bytes
number_shape [] e = cc
number_shape (b ∷ bytes) e = a_word b bytes (and_true _ _ e).1

pub shape_of : {piece : Piece} {bytes : List ℕ} → Spells piece bytes → Shape bytes
shape_of (blank b e) = a_blank b e
shape_of (comment bytes e) = a_comment bytes e
shape_of (keyword word) = name_shape (keyword_text word) (keyword_is_word word)
shape_of (name bytes e f) = name_shape bytes e
shape_of (number bytes value suffix e f) = number_shape bytes e
shape_of (bad_number bytes e f) = number_shape bytes e
shape_of (sign mark) = a_sign mark

-- there is a first byte, and it passes
abbrev first_passes : (ℕ → Bool) → List ℕ → Bool
first_passes p [] = false
first_passes p (b ∷ bytes) = p b

sign_is_no_word : (mark : Sign) (others : List ℕ) → first_passes is_word_byte (sign_text mark ++ others) ≡ false
sign_is_no_word mark others =
    elim mark as (λ m. first_passes is_word_byte (sign_text m ++ others) ≡ false) [ RotateLeft ↦ refl | _ ↦ refl ]

sign_is_no_blank : (mark : Sign) (others : List ℕ) → first_passes is_blank (sign_text mark ++ others) ≡ false
sign_is_no_blank mark others =
    elim mark as (λ m. first_passes is_blank (sign_text m ++ others) ≡ false) [ RotateLeft ↦ refl | _ ↦ refl ]

-- the one sign that begins with `/` is that byte
slash_is_short : (mark : Sign) (others : List ℕ) → first_passes (λ b. nat_eq b 47) (sign_text mark ++ others) ≡ true
    → length (sign_text mark) ≤ 1
slash_is_short mark others = elim mark as (λ m. first_passes (λ b. nat_eq b 47) (sign_text m ++ others) ≡ true
    → length (sign_text m) ≤ 1) [ Slash ↦ λ e. omega arith | _ ↦ λ e. absurd (let bad : false ≡ true = e in cc) ]

clash : (b : Bool) → b ≡ true → b ≡ false → ⊥
clash b e f = let bad : true ≡ false = sym e ∙ f in cc

-- no spelling that a text begins with is longer than its first byte, if that is a blank
pub blank_longest : {front : List ℕ} → Shape front → (b : ℕ) (rest others : List ℕ) → is_blank b ≡ true
    → b ∷ rest ≡ front ++ others → length front ≤ 1
blank_longest (a_blank c f) b rest others e parts = omega arith
blank_longest (a_comment bytes f) b rest others e parts =
    absurd (clash (is_blank b) e (let same : b ≡ 47 = cc in ap is_blank same))
blank_longest (a_word c bytes f) b rest others e parts =
    let same : b ≡ c = cc in
    absurd (clash (is_word_byte c) (and_true _ _ f).0 (blank_is_no_word_byte c (sym (ap is_blank same) ∙ e)))
blank_longest (a_sign mark) b rest others e parts =
    absurd (clash (is_blank b) e (ap (first_passes is_blank) parts ∙ sign_is_no_blank mark others))

-- nor than a comment's line
pub comment_longest : {front : List ℕ} → Shape front → (line rest others : List ℕ)
    → IsEmptyOrBeginsWith is_line_feed rest → 47 ∷ 47 ∷ line ++ rest ≡ front ++ others
    → length front ≤ length (47 ∷ 47 ∷ line)
comment_longest (a_blank c f) line rest others stops parts = omega arith
comment_longest (a_comment bytes f) line rest others stops parts =
    let tails : line ++ rest ≡ bytes ++ others = cc in
    let shorter : length bytes ≤ length line = run_longest is_line_feed bytes others line rest f stops tails in
    omega arith
comment_longest (a_word c bytes f) line rest others stops parts =
    absurd (clash (is_word_byte c) (and_true _ _ f).0 (let same : c ≡ 47 = cc in ap is_word_byte same))
comment_longest (a_sign mark) line rest others stops parts =
    let short : length (sign_text mark) ≤ 1 =
    slash_is_short mark others (sym (ap (first_passes (λ b. nat_eq b 47)) parts)) in
    omega arith

all_from_none : (bytes : List ℕ) → list_all is_word_byte bytes ≡ true → list_any is_no_word_byte bytes ≡ false
all_from_none [] e = refl
all_from_none (b ∷ bytes) e =
    let both = and_true (is_word_byte b) _ e in
    rw both.0 (all_from_none bytes both.1)

pub none_from_all : (bytes : List ℕ) → list_any is_no_word_byte bytes ≡ false → list_all is_word_byte bytes ≡ true
none_from_all [] e = refl
none_from_all (b ∷ bytes) e =
    let both = or_false (is_no_word_byte b) _ e in
    rw (from_not (is_word_byte b) both.0) (none_from_all bytes both.1)
  where
    from_not : (v : Bool) → not v ≡ false → v ≡ true
    from_not true e = refl
    from_not false e = absurd (cc)

-- nor than a word that ends where no word byte stands
pub word_longest : {front : List ℕ} → Shape front → (b : ℕ) (word rest others : List ℕ)
    → list_any is_no_word_byte (b ∷ word) ≡ false → IsEmptyOrBeginsWith is_no_word_byte rest
    → b ∷ word ++ rest ≡ front ++ others → length front ≤ length (b ∷ word)
word_longest (a_blank c f) b word rest others none stops parts = omega arith
word_longest (a_comment bytes f) b word rest others none stops parts =
    absurd (clash (is_word_byte b) (and_true _ _ (none_from_all (b ∷ word) none)).0 (let same : b ≡ 47 = cc in
    ap is_word_byte same))
word_longest (a_word c bytes f) b word rest others none stops parts =
    run_longest is_no_word_byte (c ∷ bytes) others (b ∷ word) rest (all_from_none (c ∷ bytes) f) stops parts
word_longest (a_sign mark) b word rest others none stops parts =
    absurd (clash (is_word_byte b) (and_true _ _ (none_from_all (b ∷ word) none)).0
    (ap (first_passes is_word_byte) parts ∙ sign_is_no_word mark others))

-- what begins with no blank, no word and no comment begins with signs alone
pub sign_alone : {front : List ℕ} → Shape front → (b : ℕ) (rest others : List ℕ) → is_blank b ≡ false
    → is_word_byte b ≡ false → starts_with nat_eq (b ∷ rest) (codes "//") ≡ false → b ∷ rest ≡ front ++ others
    → (mark : Sign) × (front ≡ sign_text mark)
sign_alone (a_blank c f) b rest others no_blank no_word no_comment parts =
    absurd (clash (is_blank c) f (let same : c ≡ b = cc in ap is_blank same ∙ no_blank))
sign_alone (a_comment bytes f) b rest others no_blank no_word no_comment parts =
    let begun : starts_with nat_eq (47 ∷ 47 ∷ bytes ++ others) (codes "//") ≡ true = refl in
    absurd (clash _ (ap (λ l. starts_with nat_eq l (codes "//")) parts ∙ begun) no_comment)
sign_alone (a_word c bytes f) b rest others no_blank no_word no_comment parts =
    absurd (clash (is_word_byte c) (and_true _ _ f).0 (let same : c ≡ b = cc in ap is_word_byte same ∙ no_word))
sign_alone (a_sign mark) b rest others no_blank no_word no_comment parts = (mark, refl)
