-- Registers that were stored into words, one after another.
use Rattle.std.specs.Prelude.{take}
use Rattle.std.proofs.Common.{◌≡◌, ℕ, zero, suc, ◌+◌, ◌*◌, ◌%◌, ◌^◌, ◌<◌, ◌≤◌, List, [], ◌∷◌, length, map, Some}
use Rattle.std.proofs.Common.{ap, inl}
use Rattle.std.proofs.Common.{◌∙◌, arith}
use Rattle.linked_calls.proofs.Below.{ByteMap, number_at, number_at-with_number, number_at_same}
use Rattle.linked_calls.proofs.Below.{with_number, with_numbers}
use Rattle.linked_calls.proofs.Between.{AreSaved}
use Rattle.linked_calls.proofs.Bytes.{numbers_outside}

word_whole : (v : ℕ) → v < 2 ^ 32 → v % 256 ^ 4 ≡ v
word_whole v below = omega arith

-- words that are stored stand there
pub stored_are_saved : (bytes : ByteMap) (regs : ℕ → ℕ) (a : ℕ) (rs : List ℕ) → ((r : ℕ) → regs r < 2 ^ 32)
    → AreSaved (with_numbers bytes 4 a (map regs rs)) regs a rs
stored_are_saved bytes regs a [] words = tt
stored_are_saved bytes regs a (r ∷ rs) words =
    let one = with_number bytes 4 a (regs r) in (
      number_at_same one (with_numbers one 4 (a + 4) (map regs rs)) 4 a
          (λ x low high. numbers_outside one 4 (a + 4) (map regs rs) x (inl high))
          ∙ number_at-with_number bytes 4 a (regs r) ∙ ap Some (word_whole (regs r) (words r)),
      stored_are_saved one regs (a + 4) rs words,
    )

-- and stay there as long as nothing else is stored
pub saved_same : (old new : ByteMap) (regs : ℕ → ℕ) (a : ℕ) (rs : List ℕ)
    → ((x : ℕ) → a ≤ x → x < a + 4 * length rs → new x ≡ old x) → AreSaved old regs a rs → AreSaved new regs a rs
saved_same old new regs a [] same saved = tt
saved_same old new regs a (r ∷ rs) same saved = (
  number_at_same old new 4 a (λ x low high. same x low (omega arith)) ∙ saved.0,
  saved_same old new regs (a + 4) rs (λ x low high. same x (omega arith) (omega arith)) saved.1,
)

-- so many registers, from one on
abbrev pub registers_from : ℕ → ℕ → List ℕ
registers_from r zero = []
registers_from r (suc n) = r ∷ registers_from (r + 1) n

-- one of the first of them
pub saved_taken : (bytes : ByteMap) (regs : ℕ → ℕ) (a r n m i : ℕ) → i < n → i < m
    → AreSaved bytes regs a (take n (registers_from r m)) → number_at bytes 4 (a + 4 * i) ≡ Some (regs (r + i))
saved_taken bytes regs a r zero m i few fewer saved = absurd (omega arith)
saved_taken bytes regs a r (suc n) zero i few fewer saved = absurd (omega arith)
saved_taken bytes regs a r (suc n) (suc m) zero few fewer saved =
    let e : a + 4 * 0 ≡ a = omega arith in
    let f : r ≡ r + 0 = omega arith in
    ap (λ x. number_at bytes 4 x) e ∙ saved.0 ∙ ap (λ q. Some (regs q)) f
saved_taken bytes regs a r (suc n) (suc m) (suc i) few fewer saved =
    let e : a + 4 * suc i ≡ a + 4 + 4 * i = omega arith in
    let f : r + 1 + i ≡ r + suc i = omega arith in
    ap (λ x. number_at bytes 4 x) e
    ∙ saved_taken bytes regs (a + 4) (r + 1) n m i (omega arith) (omega arith) saved.1
    ∙ ap (λ q. Some (regs q)) f
