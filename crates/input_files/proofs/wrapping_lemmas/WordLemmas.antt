-- Words in code: four bytes each, one after another.
use Rattle.std.proofs.Common.{◌≡◌, ℕ, ◌+◌, ◌*◌, ◌%◌, ◌^◌, ◌<◌, List, [], ◌∷◌, ◌++◌, length, get_or, drop, refl, sym, ap}
use Rattle.std.proofs.Common.{ap₂, subst, ◌∙◌, append_assoc, length-append, arith, inl, inr}
use Rattle.std.specs.List.{AllByRecursion, flat_map}
use Rattle.std.proofs.lemmas.Bool.{cases_lt}
use Rattle.std.proofs.lemmas.List.{append-nil, flat_map_more, get_or_append_left, get_or-append-add, get_or_past}
use Rattle.std.proofs.lemmas.List.{nil_from_length}
use Rattle.std.proofs.lemmas.Nat.{le_bytes_4}
use Rattle.byteorder.specs.Endian.{little_bytes, little_number}
use Rattle.byteorder.specs.Numbers.{little_number-reads_back}

-- the bytes of words in a row
abbrev pub bytes_of : List ℕ → List ℕ
bytes_of words = flat_map (λ word. little_bytes 4 word) words

abbrev pub AreSmall : List ℕ → Type 0
AreSmall words = AllByRecursion (λ word. word < 2 ^ 32) words

abbrev pub IsBytes : List ℕ → Type 0
IsBytes bytes = (i : ℕ) → get_or bytes i 0 < 256

pub length-bytes_of : (words : List ℕ) → length (bytes_of words) ≡ 4 * length words
length-bytes_of [] = refl
length-bytes_of (word ∷ words) = omega (arith, length-bytes_of words)

-- what stands between bytes is bytes
between : (front x back : List ℕ) → IsBytes (front ++ (x ++ back)) → IsBytes x
between front x back h i =
    elim (cases_lt i (length x)) [
      | inl lt ↦ subst (λ n. n < 256) (get_or-append-add front (x ++ back) i 0 ∙ get_or_append_left x back 0 i lt)
          (h (length front + i))
      | inr le ↦ rw (get_or_past x i 0 le) (omega arith)
    ]

-- four bytes more are a word more
pub one_more : (code words x rest : List ℕ) (word : ℕ) → IsBytes code → code ≡ bytes_of words ++ (x ++ rest)
    → length x ≡ 4 → word ≡ little_number 4 x
    → code ≡ bytes_of (words ++ word ∷ []) ++ rest
one_more code words x rest word fits is long reads =
    let here = between (bytes_of words) x rest (subst IsBytes is fits) in
    let same : little_bytes 4 word ≡ x = ap (little_bytes 4) reads
    ∙ le_bytes_4 x (little_number 4 x) long here (omega arith) in
    is
    ∙ (ap (λ (t : List ℕ). bytes_of words ++ (t ++ rest)) (sym same)
    ∙ (sym (append_assoc (bytes_of words) (little_bytes 4 word) rest)
    ∙ ap (λ (t : List ℕ). t ++ rest) (flat_map_more (λ n. little_bytes 4 n) [] words word)))

-- and fewer than four are none, in code of whole words
pub all_taken : (code words rest : List ℕ) → code ≡ bytes_of words ++ rest → length rest < 4 → length code % 4 ≡ 0
    → bytes_of words ≡ code
all_taken code words rest is few whole =
    let size = ap length is ∙ length-append (bytes_of words) rest in
    let none = nil_from_length rest (omega (arith, length-bytes_of words)) in
    sym (is ∙ ap (λ (t : List ℕ). bytes_of words ++ t) none ∙ append-nil (bytes_of words))

-- code is of one list of words
pub same_words : (one other : List ℕ) → AreSmall one → AreSmall other → bytes_of one ≡ bytes_of other → one ≡ other
same_words [] [] small small' is = refl
same_words [] (y ∷ ys) small small' is = absurd (omega (arith, ap length is, length-bytes_of (y ∷ ys)))
same_words (x ∷ xs) [] small small' is = absurd (omega (arith, ap length is, length-bytes_of (x ∷ xs)))
same_words (x ∷ xs) (y ∷ ys) small small' is =
    let head : x ≡ y = sym (little_number-reads_back 4 x (bytes_of xs) small.0)
    ∙ (ap (little_number 4) is ∙ little_number-reads_back 4 y (bytes_of ys) small'.0) in
    ap₂ (λ (z : ℕ) (zs : List ℕ). z ∷ zs) head (same_words xs ys small.1 small'.1 (ap (drop 4) is))
