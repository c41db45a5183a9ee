-- In which of the joined sources a byte of their text stands, and on which line of it.
use Rattle.std.proofs.Common.{◌≡◌, ℕ, ◌+◌, ◌-◌, ◌<◌, ◌≤◌, true, false, nat_le, cond, List, [], ◌∷◌, ◌++◌, length}
use Rattle.std.proofs.Common.{take, get_or, inl, inr, refl, sym, ap, ◌∙◌, suc, arith}
use Rattle.std.specs.List.{count_by}
use Rattle.std.proofs.lemmas.Bool.{cases_Bool, cases_lt, false≢true, false_from_ne_true, le-leb, leb-true}
use Rattle.std.proofs.lemmas.List.{get_or_append_left, get_or-append-add, get_or_past, take-append-le}
use Rattle.std.proofs.lemmas.List.Sums.{sum_by-append, sum_by-cons, sum_by-take-le}
use Rattle.commands.specs.Below.{placed}
use Rattle.commands.specs.Sources.{is_line_feed, joined, LibraryText, line_at, lines_in, numbered, source_at}

take_past : (xs ys : List ℕ) (n : ℕ) → take (length xs + n) (xs ++ ys) ≡ xs ++ take n ys
take_past [] ys n = let none : 0 + n ≡ n = omega arith in ap (λ m. take m ys) none
take_past (x ∷ xs) ys n =
    let more : length (x ∷ xs) + n ≡ suc (length xs + n) = omega arith in
    ap (λ m. take m (x ∷ (xs ++ ys))) more ∙ ap (λ (t : List ℕ). x ∷ t) (take_past xs ys n)

-- how many line feeds stand before a byte behind a library
feeds_past : (xs ys : List ℕ) (n : ℕ)
    → count_by is_line_feed (take (length xs + suc n) (xs ++ 10 ∷ ys))
    ≡ count_by is_line_feed xs + (1 + count_by is_line_feed (take n ys))
feeds_past xs ys n =
    ap (count_by is_line_feed) (take_past xs (10 ∷ ys) (suc n))
    ∙ sum_by-append (λ b. cond (is_line_feed b) 1 0) xs (10 ∷ take n ys)
    ∙ ap (λ m. count_by is_line_feed xs + m) (sum_by-cons (λ b. cond (is_line_feed b) 1 0) 10 (take n ys))

line_here : (xs ys : List ℕ) (offset : ℕ) → offset ≤ length xs → line_at (xs ++ 10 ∷ ys) offset ≡ line_at xs offset
line_here xs ys offset low = ap (λ t. count_by is_line_feed t + 1) (take-append-le offset xs (10 ∷ ys) low)

line_past : (xs ys : List ℕ) (offset : ℕ) → length xs < offset
    → line_at (xs ++ 10 ∷ ys) offset ≡ lines_in xs + line_at ys (offset - (length xs + 1))
line_past xs ys offset high =
    let n : ℕ = offset - (length xs + 1) in
    let is : offset ≡ length xs + suc n = omega arith in
    let feeds = feeds_past xs ys n in
    ap (λ m. line_at (xs ++ 10 ∷ ys) m) is ∙ omega (arith, feeds)

high_from : (offset most : ℕ) → nat_le offset most ≡ false → most < offset
high_from offset most past = elim (cases_lt most offset) [
  | inl high ↦ high
  | inr low ↦ absurd (false≢true (sym past ∙ le-leb offset most low))
]

-- the line of a byte of the joined text is placed where the byte stands
pub line_placed : (libraries : List LibraryText) (text : List ℕ) (offset : ℕ)
    → placed (numbered libraries) (line_at (joined libraries text) offset)
    ≡ (
      (source_at libraries text offset).path,
      line_at (source_at libraries text offset).text (source_at libraries text offset).offset,
    )
line_placed [] text offset = refl
line_placed (x ∷ xs) text offset = elim (cases_Bool (nat_le offset (length x.1))) [
  | inl here ↦
      let few = sum_by-take-le (λ b. cond (is_line_feed b) 1 0) x.1 offset in
      let fits : nat_le (line_at x.1 offset) (lines_in x.1) ≡ true = le-leb _ _ (omega (arith, few)) in
      rw here (ap (placed (numbered (x ∷ xs))) (line_here x.1 (joined xs text) offset (leb-true _ _ here)) ∙ rw fits refl)
  | inr past ↦
      let n : ℕ = offset - (length x.1 + 1) in
      let line : ℕ = line_at (joined xs text) n in
      let exceeds : nat_le (lines_in x.1 + line) (lines_in x.1) ≡ false =
      false_from_ne_true _ (λ h. absurd (omega (arith, leb-true _ _ h))) in
      let left : (lines_in x.1 + line) - lines_in x.1 ≡ line = omega arith in
      rw past (ap (placed (numbered (x ∷ xs)))
      (line_past x.1 (joined xs text) offset (high_from offset (length x.1) past))
      ∙ rw exceeds (ap (placed (numbered xs)) left ∙ line_placed xs text n))
]

byte_here : (xs ys : List ℕ) (offset : ℕ) → offset ≤ length xs → get_or (xs ++ 10 ∷ ys) offset 10 ≡ get_or xs offset 10
byte_here xs ys offset low = elim (cases_lt offset (length xs)) [
  | inl inside ↦ get_or_append_left xs (10 ∷ ys) 10 offset inside
  | inr end ↦
      let is : offset ≡ length xs + 0 = omega arith in
      ap (λ m. get_or (xs ++ 10 ∷ ys) m 10) is ∙ get_or-append-add xs (10 ∷ ys) 0 10
      ∙ sym (get_or_past xs offset 10 end)
]

-- and the byte is that byte, where the line feed behind a library is counted to it; past the end of all there is none
pub byte_placed : (libraries : List LibraryText) (text : List ℕ) (offset : ℕ)
    → get_or (joined libraries text) offset 10
    ≡ get_or (source_at libraries text offset).text (source_at libraries text offset).offset 10
byte_placed [] text offset = refl
byte_placed (x ∷ xs) text offset = elim (cases_Bool (nat_le offset (length x.1))) [
  | inl here ↦ rw here (byte_here x.1 (joined xs text) offset (leb-true _ _ here))
  | inr past ↦
      let n : ℕ = offset - (length x.1 + 1) in
      let high : length x.1 < offset = high_from offset (length x.1) past in
      let is : offset ≡ length x.1 + suc n = omega arith in
      rw past (ap (λ m. get_or (x.1 ++ 10 ∷ joined xs text) m 10) is
      ∙ get_or-append-add x.1 (10 ∷ joined xs text) (suc n) 10 ∙ byte_placed xs text n)
]
