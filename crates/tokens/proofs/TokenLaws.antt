-- A text spells one list of tokens.
use Rattle.std.proofs.Common.{◌≡◌, ℕ, ◌<◌, ◌≤◌, Bool, true, false, cond, List, [], ◌∷◌, ◌++◌, length, take, drop}
use Rattle.std.proofs.Common.{Option, Some, refl, sym, ap, ◌∙◌, subst, arith}
use Rattle.std.specs.Prelude.{nat_eq, codes, not}
use Rattle.std.specs.Char.{is_ascii_digit}
use Rattle.std.specs.List.{find, starts_with}
use Rattle.std.specs.Str.{bytes_eq}
use Rattle.std.proofs.lemmas.List.{take_at, drop_at}
use Rattle.tokens.specs.Below.{Place}
use Rattle.tokens.specs.declared.token.Keyword.{Keyword}
use Rattle.tokens.specs.declared.token.Keyword.TheVariants.{Export, Void, Public, Secret, Mut, Bool as BoolWord}
use Rattle.tokens.specs.declared.token.Keyword.TheVariants.{Uint8, Uint16, Uint32, True, False, If, Else, For, From}
use Rattle.tokens.specs.declared.token.Keyword.TheVariants.{To, Return, Select}
use Rattle.tokens.specs.declared.token.Sign.{Sign}
use Rattle.tokens.specs.declared.token.Sign.TheVariants.{RotateLeft}
use Rattle.tokens.specs.declared.token.TokenKind.TheVariants.{Keyword as KeywordToken, Number as NumberToken}
use Rattle.tokens.specs.declared.token.TokenKind.TheVariants.{Sign as SignToken}
use Rattle.tokens.specs.declared.lexer.piece.Piece.{Piece}
use Rattle.tokens.specs.declared.lexer.piece.Piece.TheVariants.{Token}
use Rattle.tokens.specs.declared.lexer.sign.TheConstants.{SIGNS}
use Rattle.tokens.specs.Lexeme.{Lexeme}
use Rattle.tokens.specs.Spelling.{Spells, blank, comment, keyword, name, number, bad_number, sign, keyword_text}
use Rattle.tokens.specs.Spelling.{sign_text, is_blank, is_word_byte, is_name_or_keyword, is_number_or_bad, IsNumber}
use Rattle.tokens.specs.Tokens.{BeginsWith, BeginsWithNone, TokensEnding, LexesFrom, at_end, past_space, past_token}
use Rattle.tokens.specs.Tokens.{at_bad_number, at_unknown_character, place_after, OneList}
use Rattle.tokens.proofs.TokenBytes.{blank_is_no_word_byte}
use Rattle.tokens.proofs.TokenRuns.{and_true}
use Rattle.tokens.proofs.TokenNumbers.{number_unique}
use Rattle.tokens.proofs.TokenSigns.{begins}

abbrev pub keywords : List Keyword
keywords = Export ∷ Void ∷ Public ∷ Secret ∷ Mut ∷ BoolWord ∷ Uint8 ∷ Uint16 ∷ Uint32 ∷ True ∷ False ∷ If ∷ Else ∷ For
    ∷ From ∷ To ∷ Return ∷ Select ∷ []

abbrev keyword_named : List ℕ → Option Keyword
keyword_named text = find (λ word. bytes_eq text (keyword_text word)) keywords

pub keyword_found : (word : Keyword) → keyword_named (keyword_text word) ≡ Some word
keyword_found word = elim word as (λ w. keyword_named (keyword_text w) ≡ Some w) [ Export ↦ refl | _ ↦ refl ]

pub keyword_unique : (v w : Keyword) → keyword_text v ≡ keyword_text w → v ≡ w
keyword_unique v w e =
    let same : Some v ≡ Some w = sym (keyword_found v) ∙ ap keyword_named e ∙ keyword_found w in
    cc

sign_found : (mark : Sign) → find (begins (sign_text mark)) SIGNS ≡ Some mark
sign_found mark = elim mark as (λ m. find (begins (sign_text m)) SIGNS ≡ Some m) [ RotateLeft ↦ refl | _ ↦ refl ]

pub sign_unique : (m n : Sign) → sign_text m ≡ sign_text n → m ≡ n
sign_unique m n e =
    let same : Some m ≡ Some n = sym (sign_found m) ∙ ap (λ l. find (begins l) SIGNS) e ∙ sign_found n in
    cc

-- the sort of a spelling, by its first bytes: 0 space, 1 a number or a bad one, 2 a name or a keyword, 3 a sign
abbrev sort : List ℕ → ℕ
sort [] = 4
sort (b ∷ bytes) = cond (is_word_byte b) (cond (is_ascii_digit b) 1 2)
    (cond (is_blank b) 0 (cond (starts_with nat_eq (b ∷ bytes) (codes "//")) 0 3))

abbrev sort_by_rule : {piece : Piece} {bytes : List ℕ} → Spells piece bytes → ℕ
sort_by_rule (blank b e) = 0
sort_by_rule (comment bytes e) = 0
sort_by_rule (keyword word) = 2
sort_by_rule (name bytes e f) = 2
sort_by_rule (number bytes value suffix e f) = 1
sort_by_rule (bad_number bytes e f) = 1
sort_by_rule (sign mark) = 3

name_sort : (bytes : List ℕ) → is_name_or_keyword bytes ≡ true → sort bytes ≡ 2
name_sort [] e = absurd (cc)
name_sort (b ∷ bytes) e =
    let both = and_true _ _ e in
    rw ((and_true (is_word_byte b) _ both.1).0, from_not (is_ascii_digit b) both.0)
  where
    from_not : (v : Bool) → not v ≡ true → v ≡ false
    from_not true h = absurd (cc)
    from_not false h = refl

number_sort : (bytes : List ℕ) → is_number_or_bad bytes ≡ true → sort bytes ≡ 1
number_sort [] e = absurd (cc)
number_sort (b ∷ bytes) e =
    let both = and_true (is_ascii_digit b) _ e in
    rw ((and_true (is_word_byte b) _ both.1).0, both.0)

blank_sort : (b : ℕ) → is_blank b ≡ true → sort (b ∷ []) ≡ 0
blank_sort b e = rw (blank_is_no_word_byte b e, e)

keyword_sort : (word : Keyword) → sort (keyword_text word) ≡ 2
keyword_sort word = elim word as (λ w. sort (keyword_text w) ≡ 2) [ Export ↦ refl | _ ↦ refl ]

sign_sort : (mark : Sign) → sort (sign_text mark) ≡ 3
sign_sort mark = elim mark as (λ m. sort (sign_text m) ≡ 3) [ RotateLeft ↦ refl | _ ↦ refl ]

sort_is : {piece : Piece} {bytes : List ℕ} (h : Spells piece bytes) → sort bytes ≡ sort_by_rule h
sort_is (blank b e) = blank_sort b e
sort_is (comment bytes e) = refl
sort_is (keyword word) = keyword_sort word
sort_is (name bytes e f) = name_sort bytes e
sort_is (number bytes value suffix e f) = number_sort bytes e
sort_is (bad_number bytes e f) = number_sort bytes e
sort_is (sign mark) = sign_sort mark

-- the same bytes are of one sort
same_sort : {p q : Piece} {s t : List ℕ} (h : Spells p s) (g : Spells q t) → s ≡ t → sort_by_rule h ≡ sort_by_rule g
same_sort h g e = sym (sort_is h) ∙ ap sort e ∙ sort_is g

-- the same bytes spell one piece
one_piece : {p q : Piece} {s t : List ℕ} → Spells p s → Spells q t → s ≡ t → p ≡ q
one_piece (blank b e) (blank c f) same = refl
one_piece (blank b e) (comment bytes f) same = refl
one_piece (comment bytes e) (blank c f) same = refl
one_piece (comment bytes e) (comment others f) same = refl
one_piece (keyword v) (keyword w) same = ap (λ k. Token (KeywordToken k)) (keyword_unique v w same)
one_piece (keyword v) (name bytes e f) same = absurd (f v (sym same))
one_piece (name bytes e f) (keyword v) same = absurd (f v same)
one_piece (name bytes e f) (name others g h) same = refl
one_piece (number bytes v r e n) (number others w s f m) same =
    let both = number_unique bytes v w r s n (subst (λ l. IsNumber l w s) (sym same) m) in
    (λ i. Token (NumberToken (both.0 i) (both.1 i)))
one_piece (number bytes v r e n) (bad_number others f m) same = absurd (m v r (subst (λ l. IsNumber l v r) same n))
one_piece (bad_number others f m) (number bytes v r e n) same =
    absurd (m v r (subst (λ l. IsNumber l v r) (sym same) n))
one_piece (bad_number bytes e n) (bad_number others f m) same = refl
one_piece (sign m) (sign n) same = ap (λ k. Token (SignToken k)) (sign_unique m n same)
one_piece h g same = absurd (let bad : sort_by_rule h ≡ sort_by_rule g = same_sort h g same in omega arith)

-- a text begins with one piece
pub begins_unique : (text : List ℕ) (p q : Piece) (s r t u : List ℕ) → BeginsWith text p s r → BeginsWith text q t u
    → (p ≡ q) × (s ≡ t) × (r ≡ u)
begins_unique text p q s r t u a b =
    let short : length s ≤ length t = b.longest p s r a.spelled a.parts in
    let long : length t ≤ length s = a.longest q t u b.spelled b.parts in
    let equal : length t ≡ length s = omega arith in
    let both : s ++ r ≡ t ++ u = sym a.parts ∙ b.parts in
    let front : s ≡ t = sym (take_at s r (length s) refl) ∙ ap (take (length s)) both
    ∙ take_at t u (length s) equal in
    let rest : r ≡ u = sym (drop_at s r (length s) refl) ∙ ap (drop (length s)) both ∙ drop_at t u (length s) equal in
    (one_piece a.spelled b.spelled front, front, rest)

-- no spelling is empty
pub spelled_some : {piece : Piece} {bytes : List ℕ} → Spells piece bytes → 0 < length bytes
spelled_some {piece} {bytes} h = some bytes (sort_is h) (small h)
  where
    small : {p : Piece} {b : List ℕ} (g : Spells p b) → sort_by_rule g < 4
    small (blank b e) = omega arith
    small _ = omega arith

    some : {n : ℕ} (b : List ℕ) → sort b ≡ n → n < 4 → 0 < length b
    some [] e lt = absurd (omega arith)
    some (x ∷ b) e lt = omega arith

nothing_begins : {p : Piece} {s r : List ℕ} → BeginsWith [] p s r → ⊥
nothing_begins {p} {s} {r} a = none s (spelled_some a.spelled) a.parts
  where
    none : (l : List ℕ) → 0 < length l → [] ≡ l ++ r → ⊥
    none [] some e = absurd (omega arith)
    none (x ∷ l) some e = absurd (cc)

clash : {A : Type 0} {text s r t u : List ℕ} {p q : Piece} → BeginsWith text p s r → BeginsWith text q t u
    → (p ≡ q → ⊥) → A
clash a b unlike = absurd (unlike (begins_unique _ _ _ _ _ _ _ a b).0)

none_begins : {A : Type 0} {text s r : List ℕ} {p : Piece} → BeginsWith text p s r → BeginsWithNone text → A
none_begins a none = absurd (none _ _ _ a.spelled a.parts)

pub lexes_unique : {place : Place} {text : List ℕ} {xs ys : List Lexeme} {e f : TokensEnding}
    → LexesFrom place text xs e
    → LexesFrom place text ys f → (xs ≡ ys) × (e ≡ f)
lexes_unique at_end at_end = (refl, refl)
lexes_unique at_end (past_space a h) = absurd (nothing_begins a)
lexes_unique at_end (past_token a h) = absurd (nothing_begins a)
lexes_unique at_end (at_bad_number a) = absurd (nothing_begins a)
lexes_unique (past_space a h) at_end = absurd (nothing_begins a)
lexes_unique (past_space {place} {rest = r} a h) (past_space {spelling = t} {tokens = ys} {end = f} b g) =
    let same = begins_unique _ _ _ _ _ _ _ a b in
    lexes_unique h (subst (λ l. LexesFrom (place_after place l) r ys f) (sym same.1)
    (subst (λ l. LexesFrom (place_after place t) l ys f) (sym same.2) g))
lexes_unique (past_space a h) (past_token b g) = clash a b (λ e. cc)
lexes_unique (past_space a h) (at_bad_number b) = clash a b (λ e. cc)
lexes_unique (past_space a h) (at_unknown_character none) = none_begins a none
lexes_unique (past_token a h) at_end = absurd (nothing_begins a)
lexes_unique (past_token a h) (past_space b g) = clash a b (λ e. cc)
lexes_unique (past_token {place} {rest = r} {kind = k} a h)
    (past_token {spelling = t} {kind = l} {tokens = ys} {end = f} b g) =
    let same = begins_unique _ _ _ _ _ _ _ a b in
    let kinds : k ≡ l = let pieces : Token k ≡ Token l = same.0 in cc in
    let both =
    lexes_unique h (subst (λ z. LexesFrom (place_after place z) r ys f) (sym same.1)
    (subst (λ z. LexesFrom (place_after place t) z ys f) (sym same.2) g)) in
    ((λ i. record { kind = kinds i; place = place; text = same.1 i } ∷ both.0 i), both.1)
lexes_unique (past_token a h) (at_bad_number b) = clash a b (λ e. cc)
lexes_unique (past_token a h) (at_unknown_character none) = none_begins a none
lexes_unique (at_bad_number a) at_end = absurd (nothing_begins a)
lexes_unique (at_bad_number a) (past_space b g) = clash a b (λ e. cc)
lexes_unique (at_bad_number a) (past_token b g) = clash a b (λ e. cc)
lexes_unique (at_bad_number a) (at_bad_number b) = (refl, refl)
lexes_unique (at_bad_number a) (at_unknown_character none) = none_begins a none
lexes_unique (at_unknown_character none) (past_space b g) = none_begins b none
lexes_unique (at_unknown_character none) (past_token b g) = none_begins b none
lexes_unique (at_unknown_character none) (at_bad_number b) = none_begins b none
lexes_unique (at_unknown_character none) (at_unknown_character none') = (refl, refl)

pub one_list : OneList
one_list text xs ys e f h g = lexes_unique h g
