-- What a text begins with, case by case on its first bytes.
use Rattle.std.proofs.Common.{◌≡◌, ℕ, suc, ◌<◌, ◌≤◌, true, false, List, [], ◌∷◌, ◌++◌, length, take, drop, Option}
use Rattle.std.proofs.Common.{Some, None, refl, sym, ap, ◌∙◌, subst, arith, get_or, IsUtf8, ◌-◌, ◌+◌, lit<, ◌⊎◌, inl}
use Rattle.std.proofs.Common.{inr}
use Rattle.std.specs.Prelude.{nat_eq, codes, not}
use Rattle.std.specs.List.{find, slice_get, starts_with, list_any}
use Rattle.std.specs.Option.{option_copied}
use Rattle.std.specs.Str.{IsCharBoundary}
use denote.Ref.{Bor}
use Rattle.std.proofs.lemmas.Str.{IsCharBoundary-after_ascii}
use Rattle.std.proofs.lemmas.Slice.Eq.{starts_is}
use Rattle.std.proofs.lemmas.List.{take_at}
use Rattle.std.proofs.lemmas.List.Prefix.{front_fits, front_reads}
use Rattle.std.proofs.lemmas.Bool.Decides.{Decides-eqb}
use Rattle.tokens.specs.declared.token.Sign.{Sign}
use Rattle.tokens.specs.declared.token.Sign.TheVariants.{RotateLeft}
use Rattle.tokens.specs.declared.token.TokenKind.TheVariants.{Sign as SignToken}
use Rattle.tokens.specs.declared.lexer.piece.Piece.{Piece}
use Rattle.tokens.specs.declared.lexer.piece.Piece.TheVariants.{Space, Token}
use Rattle.tokens.specs.declared.lexer.sign.TheConstants.{SIGNS}
use Rattle.tokens.specs.Spelling.{Spells, blank, comment, sign, sign_text, is_blank, is_line_feed, is_word_byte}
use Rattle.tokens.specs.private.Splitting.{is_no_word_byte, SplitsAtFirst}
use Rattle.tokens.specs.Tokens.{BeginsWith, BeginsWithNone}
use Rattle.tokens.proofs.TokenBytes.{blank_ascii}
use Rattle.tokens.proofs.TokenRuns.{or_false}
use Rattle.tokens.proofs.TokenShapes.{shape_of, blank_longest, comment_longest, word_longest, sign_alone}
use Rattle.tokens.proofs.TokenSigns.{begins, no_sign, sign_longest, sign_parts}

-- a text with a first byte
first_byte : (text : List ℕ) (b : ℕ) → slice_get text 0 ≡ Some b → text ≡ b ∷ drop 1 text
first_byte [] b e = absurd (cc)
first_byte (x ∷ text) b e = let same : x ≡ b = cc in ap (λ y. y ∷ text) same

-- the same, from what `first` says of the text's bytes
pub head_of : (text bytes : List ℕ) (r : Option (Bor ℕ)) (b : Bor ℕ) → option_copied r ≡ slice_get bytes 0
    → bytes ≡ text → r ≡ Some b → slice_get text 0 ≡ Some b.now
head_of text bytes r b gives same is = sym (ap (λ l. slice_get l 0) same) ∙ sym gives ∙ ap option_copied is

pub blank_boundary : (text : List ℕ) (b : ℕ) → IsUtf8 text → slice_get text 0 ≡ Some b → is_blank b ≡ true
    → IsCharBoundary text 1
blank_boundary text b utf8 first is =
    let parts = first_byte text b first in
    let small = blank_ascii b is in
    let head : get_or text 0 0 ≡ b = ap (λ l. get_or l 0 0) parts in
    let some : length text ≡ suc (length (drop 1 text)) = ap length parts in
    IsCharBoundary-after_ascii text 0 utf8 (omega arith) (omega arith)

pub blank_piece : (text front rest : List ℕ) (b : ℕ) → slice_get text 0 ≡ Some b → is_blank b ≡ true
    → front ≡ take 1 text → rest ≡ drop 1 text → BeginsWith text Space front rest
blank_piece text front rest b first is front_is rest_is =
    let parts = first_byte text b first in
    let one : front ≡ b ∷ [] = front_is ∙ ap (take 1) parts in
    subst (λ l. BeginsWith text Space l rest) (sym one)
    (record {
      parts = parts ∙ ap (λ l. b ∷ l) (sym rest_is);
      spelled = blank b is;
      longest = λ other more others spelled e. blank_longest (shape_of spelled) b (drop 1 text) others is
          (sym parts ∙ e);
    })

pub word_piece : (text word rest : List ℕ) (piece : Piece) → SplitsAtFirst is_no_word_byte text word rest
    → 0 < length word → Spells piece word → BeginsWith text piece word rest
word_piece text [] rest piece split some spelled = absurd (omega arith)
word_piece text (b ∷ word) rest piece split some spelled = record {
  parts = split.parts;
  spelled = spelled;
  longest = λ other more others spells e. word_longest (shape_of spells) b word rest others split.before split.next
      (sym split.parts ∙ e);
}

-- the first byte is in the word
pub word_some : (text word rest : List ℕ) (b : ℕ) → slice_get text 0 ≡ Some b → is_word_byte b ≡ true
    → SplitsAtFirst is_no_word_byte text word rest → 0 < length word
word_some text [] [] b first is split =
    absurd (let none : None ≡ Some b = sym (ap (λ l. slice_get l 0) split.parts) ∙ first in cc)
word_some text [] (c ∷ rest) b first is split =
    let same : Some c ≡ Some b = sym (ap (λ l. slice_get l 0) split.parts) ∙ first in
    let c_is : c ≡ b = cc in
    absurd (let bad : false ≡ true = sym (ap is_no_word_byte c_is ∙ ap (λ v. not v) is) ∙ split.next in cc)
word_some text (c ∷ word) rest b first is split = omega arith

comment_parts : (tail front rest : List ℕ) → SplitsAtFirst is_line_feed (47 ∷ 47 ∷ tail) front rest
    → (line : List ℕ) × (front ≡ 47 ∷ 47 ∷ line) × (list_any is_line_feed line ≡ false)
comment_parts tail [] [] split = absurd (let e = split.parts in cc)
comment_parts tail [] (c ∷ rest) split =
    absurd (let e = split.parts in let same : c ≡ 47 = cc in
    let bad : true ≡ false = sym split.next ∙ ap is_line_feed same in cc)
comment_parts tail (x ∷ []) [] split = absurd (let e = split.parts in cc)
comment_parts tail (x ∷ []) (c ∷ rest) split =
    absurd (let e = split.parts in let same : c ≡ 47 = cc in
    let bad : true ≡ false = sym split.next ∙ ap is_line_feed same in cc)
comment_parts tail (x ∷ y ∷ line) rest split =
    let e = split.parts in
    let first : x ≡ 47 = cc in
    let second : y ≡ 47 = cc in
    (line, (λ i. first i ∷ second i ∷ line), (or_false _ _ (or_false _ _ split.before).1).1)

pub comment_piece : (text front rest : List ℕ) → starts_with nat_eq text (codes "//") ≡ true
    → SplitsAtFirst is_line_feed text front rest → BeginsWith text Space front rest
comment_piece text front rest begun split =
    let tail = drop 2 text in
    let text_is : text ≡ 47 ∷ 47 ∷ tail = (starts_is Decides-eqb text (codes "//") _ refl).0 begun in
    let cut = comment_parts tail front rest (subst (λ l. SplitsAtFirst is_line_feed l front rest) text_is split) in
    record {
      parts = split.parts;
      spelled = subst (Spells Space) (sym cut.1) (comment cut.0 cut.2);
      longest = λ other more others spelled e.
          subst (λ l. length more ≤ length l) (sym cut.1)
          (comment_longest (shape_of spelled) cut.0 rest others split.next (sym (ap (λ l. l ++ rest) cut.1)
          ∙ sym split.parts ∙ e));
    }

-- where a text begins with no blank, word or comment
pub record OnlySigns (text : List ℕ) (b : ℕ) : Type 0 where
  pub first : slice_get text 0 ≡ Some b
  pub no_blank : is_blank b ≡ false
  pub no_word : is_word_byte b ≡ false
  pub no_comment : starts_with nat_eq text (codes "//") ≡ false

only_sign : (text : List ℕ) (b : ℕ) → OnlySigns text b → {piece : Piece} (front others : List ℕ) → Spells piece front
    → text ≡ front ++ others → (mark : Sign) × (front ≡ sign_text mark)
only_sign text b only front others spelled e =
    let parts = first_byte text b only.first in
    sign_alone (shape_of spelled) b (drop 1 text) others only.no_blank only.no_word
    (sym (ap (λ l. starts_with nat_eq l (codes "//")) parts) ∙ only.no_comment) (sym parts ∙ e)

pub no_piece : (text : List ℕ) (b : ℕ) → OnlySigns text b → find (begins text) SIGNS ≡ None → BeginsWithNone text
no_piece text b only none = λ piece front others spelled e.
    let is = only_sign text b only front others spelled e in
    no_sign text others is.0 none (e ∙ ap (λ l. l ++ others) is.1)

sign_ascii : (mark : Sign) → (0 < length (sign_text mark))
    × (get_or (sign_text mark) (length (sign_text mark) - 1) 0 < 128)
sign_ascii mark = elim mark as (λ m. (0 < length (sign_text m))
    × (get_or (sign_text m) (length (sign_text m) - 1) 0 < 128)) [
      | RotateLeft ↦ (lit< tt, lit< tt)
      | _ ↦
          (lit< tt, lit< tt)
    ]

pub sign_boundary : (text : List ℕ) (found : Sign) → IsUtf8 text → find (begins text) SIGNS ≡ Some found
    → IsCharBoundary text (length (sign_text found))
sign_boundary text found utf8 e =
    let parts = sign_parts text found e in
    let ascii = sign_ascii found in
    let n = length (sign_text found) in
    let fits : n ≤ length text = front_fits text (sign_text found) _ parts in
    let read : get_or text (n - 1) 0 ≡ get_or (sign_text found) (n - 1) 0 =
    front_reads 0 text (sign_text found) _ parts (n - 1) (omega arith) in
    let next : n - 1 + 1 ≡ n = omega arith in
    subst (IsCharBoundary text) next (IsCharBoundary-after_ascii text (n - 1) utf8 (omega arith) (omega arith))

pub sign_piece : (text front rest : List ℕ) (b : ℕ) (found : Sign) → OnlySigns text b
    → find (begins text) SIGNS ≡ Some found → front ≡ take (length (sign_text found)) text
    → rest ≡ drop (length (sign_text found)) text → BeginsWith text (Token (SignToken found)) front rest
sign_piece text front rest b found only e front_is rest_is =
    let parts = sign_parts text found e in
    let is : front ≡ sign_text found = front_is ∙ ap (take (length (sign_text found))) parts
    ∙ take_at (sign_text found) _ _ refl in
    subst (λ l. BeginsWith text (Token (SignToken found)) l rest) (sym is)
    (record {
      parts = parts ∙ ap (λ l. sign_text found ++ l) (sym rest_is);
      spelled = sign found;
      longest = λ other more others spelled h.
          let mark = only_sign text b only more others spelled h in
          subst (λ l. length l ≤ length (sign_text found)) (sym mark.1)
          (sign_longest text others found mark.0 e (h ∙ ap (λ l. l ++ others) mark.1));
    })

-- such a text begins with a sign, or with no piece
pub signs : (text : List ℕ) (b : ℕ) → OnlySigns text b
    → ((mark : Sign) × BeginsWith text (Token (SignToken mark)) (take (length (sign_text mark)) text)
    (drop (length (sign_text mark)) text)) ⊎ BeginsWithNone text
signs text b only = by (find (begins text) SIGNS) refl
  where
    by : (o : Option Sign) → find (begins text) SIGNS ≡ o
        → ((mark : Sign) × BeginsWith text (Token (SignToken mark)) (take (length (sign_text mark)) text)
        (drop (length (sign_text mark)) text)) ⊎ BeginsWithNone text
    by (Some mark) e =
        inl (
          mark,
          sign_piece text (take (length (sign_text mark)) text) (drop (length (sign_text mark)) text) b mark
              only e refl refl,
        )
    by None e = inr (no_piece text b only e)
