-- The halfwords of bytes, one after another.
use Rattle.std.proofs.Common.{◌≡◌, ◌<◌, ◌≤◌, ◌+◌, ◌*◌, ◌/◌, ◌%◌, ◌^◌, ◌++◌, ◌∙◌, [], ◌∷◌, ℕ, List, ap}
use Rattle.std.proofs.Common.{append_assoc, arith, drop, get_or, length, refl, w16}
use Rattle.std.specs.Int.{from_le_bytes}
use Rattle.std.proofs.lemmas.List.{append-nil, length-drop}
use Rattle.elf_runs.specs.Code.{halfwords_of, to_multiple}
use Rattle.elf_runs.proofs.CodeWords.{next}

two : (bytes : List ℕ) (at : ℕ) → at + 2 ≤ length bytes
    → drop at bytes ≡ get_or bytes at 0 ∷ get_or bytes (at + 1) 0 ∷ drop (at + 2) bytes
two bytes at fits =
    let a = next bytes at (at + 1) (omega arith) (omega arith) in
    let b = next bytes (at + 1) (at + 2) (omega arith) (omega arith) in
    a ∙ ap (λ rest. get_or bytes at 0 ∷ rest) b

-- one halfword more
pub halfword_more : (bytes halfwords : List ℕ) (k halfword : ℕ) → k < length bytes / 2
    → halfword ≡ from_le_bytes w16 (get_or bytes (2 * k) 0 ∷ get_or bytes (2 * k + 1) 0 ∷ [])
    → halfwords_of bytes ≡ halfwords ++ halfwords_of (drop (2 * k) bytes)
    → halfwords_of bytes ≡ (halfwords ++ halfword ∷ []) ++ halfwords_of (drop (2 * (k + 1)) bytes)
halfword_more bytes halfwords k halfword lt is before =
    let next : 2 * k + 2 ≡ 2 * (k + 1) = omega arith in
    before
    ∙ rw (two bytes (2 * k) (omega arith), next, is, append_assoc) refl

short : (bytes : List ℕ) → length bytes < 2 → halfwords_of bytes ≡ []
short [] h = refl
short (a ∷ []) h = refl
short (a ∷ b ∷ bytes) h = absurd (omega (arith, h))

-- no halfword is left
pub halfwords_done : (bytes halfwords : List ℕ) (k : ℕ) → length bytes / 2 ≤ k
    → halfwords_of bytes ≡ halfwords ++ halfwords_of (drop (2 * k) bytes) → halfwords ≡ halfwords_of bytes
halfwords_done bytes halfwords k le before =
    let left = length-drop (2 * k) bytes in
    let none = short (drop (2 * k) bytes) (omega (arith, left, le)) in
    rw (before, none, append-nil) refl

halfwords_fit : (bytes : List ℕ) → 2 * length (halfwords_of bytes) ≤ length bytes
halfwords_fit [] = omega arith
halfwords_fit (a ∷ []) = omega arith
halfwords_fit (a ∷ b ∷ bytes) = omega (arith, halfwords_fit bytes)

-- the halfwords of a segment end where it does, or before
pub halfwords_within : (address size : ℕ) (bytes halfwords : List ℕ) → address + size ≤ 2 ^ 32 → length bytes ≤ size
    → halfwords ≡ halfwords_of (drop (to_multiple 2 address) bytes)
    → address + to_multiple 2 address + 2 * length halfwords ≤ 2 ^ 32
halfwords_within address size bytes halfwords fits few are =
    let fit = halfwords_fit (drop (to_multiple 2 address) bytes) in
    let left = length-drop (to_multiple 2 address) bytes in
    let count = ap length are in
    omega (arith, fits, few, left, fit, count)

pub is_even : (address : ℕ) → (address + to_multiple 2 address) % 2 ≡ 0
is_even address = omega arith
