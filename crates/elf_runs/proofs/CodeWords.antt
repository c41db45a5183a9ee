-- The words of bytes, one after another.
use Rattle.std.proofs.Common.{◌≡◌, ◌<◌, ◌≤◌, ◌+◌, ◌*◌, ◌/◌, ◌^◌, ◌++◌, ◌∙◌, [], ◌∷◌, ℕ, List, ap, append_assoc}
use Rattle.std.proofs.Common.{arith, drop, get_or, length, refl, w32}
use Rattle.std.specs.Int.{from_le_bytes}
use Rattle.std.proofs.lemmas.List.{append-nil, drop_more, length-drop}
use Rattle.elf_runs.specs.Code.{to_multiple, words_of}

pub next : (bytes : List ℕ) (i j : ℕ) → j ≡ i + 1 → i < length bytes → drop i bytes ≡ get_or bytes i 0 ∷ drop j bytes
next bytes i j is lt = rw is (drop_more bytes i 0 lt)

four : (bytes : List ℕ) (at : ℕ) → at + 4 ≤ length bytes
    → drop at bytes
    ≡ get_or bytes at 0 ∷ get_or bytes (at + 1) 0 ∷ get_or bytes (at + 2) 0 ∷ get_or bytes (at + 3) 0
    ∷ drop (at + 4) bytes
four bytes at fits =
    let a = next bytes at (at + 1) (omega arith) (omega arith) in
    let b = next bytes (at + 1) (at + 2) (omega arith) (omega arith) in
    let c = next bytes (at + 2) (at + 3) (omega arith) (omega arith) in
    let d = next bytes (at + 3) (at + 4) (omega arith) (omega arith) in
    a ∙ ap (λ rest. get_or bytes at 0 ∷ rest) (b ∙ ap (λ rest. get_or bytes (at + 1) 0 ∷ rest)
    (c ∙ ap (λ rest. get_or bytes (at + 2) 0 ∷ rest) d))

-- one word more
pub word_more : (bytes words : List ℕ) (k word : ℕ) → k < length bytes / 4
    → word
    ≡ from_le_bytes w32
    (get_or bytes (4 * k) 0 ∷ get_or bytes (4 * k + 1) 0 ∷ get_or bytes (4 * k + 2) 0 ∷ get_or bytes (4 * k + 3) 0 ∷ [])
    → words_of bytes ≡ words ++ words_of (drop (4 * k) bytes)
    → words_of bytes ≡ (words ++ word ∷ []) ++ words_of (drop (4 * (k + 1)) bytes)
word_more bytes words k word lt is before =
    let next : 4 * k + 4 ≡ 4 * (k + 1) = omega arith in
    before
    ∙ rw (four bytes (4 * k) (omega arith), next, is, append_assoc) refl

short : (bytes : List ℕ) → length bytes < 4 → words_of bytes ≡ []
short [] h = refl
short (a ∷ []) h = refl
short (a ∷ b ∷ []) h = refl
short (a ∷ b ∷ c ∷ []) h = refl
short (a ∷ b ∷ c ∷ d ∷ bytes) h = absurd (omega (arith, h))

-- no word is left
pub words_done : (bytes words : List ℕ) (k : ℕ) → length bytes / 4 ≤ k
    → words_of bytes ≡ words ++ words_of (drop (4 * k) bytes) → words ≡ words_of bytes
words_done bytes words k le before =
    let left = length-drop (4 * k) bytes in
    let none = short (drop (4 * k) bytes) (omega (arith, left, le)) in
    rw (before, none, append-nil) refl

words_fit : (bytes : List ℕ) → 4 * length (words_of bytes) ≤ length bytes
words_fit [] = omega arith
words_fit (a ∷ []) = omega arith
words_fit (a ∷ b ∷ []) = omega arith
words_fit (a ∷ b ∷ c ∷ []) = omega arith
words_fit (a ∷ b ∷ c ∷ d ∷ bytes) = omega (arith, words_fit bytes)

-- the words of a segment end where it does, or before
pub code_within : (address size : ℕ) (bytes words : List ℕ) → address + size ≤ 2 ^ 32 → length bytes ≤ size
    → words ≡ words_of (drop (to_multiple 4 address) bytes) → address + to_multiple 4 address + 4 * length words ≤ 2 ^ 32
code_within address size bytes words fits few are =
    let fit = words_fit (drop (to_multiple 4 address) bytes) in
    let left = length-drop (to_multiple 4 address) bytes in
    let count = ap length are in
    omega (arith, fits, few, left, fit, count)
