-- Numbers in one stretch of bytes.
use Rattle.std.specs.Prelude.{is_some}
use Rattle.std.proofs.Common.{◌≡◌, ℕ, zero, suc, ◌+◌, ◌-◌, ◌<◌, ◌≤◌, List, length, get_or, Option, Some, None, true}
use Rattle.std.proofs.Common.{refl, ◌∙◌, inl, inr, arith}
use Rattle.std.proofs.lemmas.Bool.{cases_lt, le-leb, lt-leb}
use Rattle.std.proofs.lemmas.Option.{slice_get-get_or, slice_get_past}
use Rattle.rv_machine.specs.Bytes.{joined, number_at, bytes_from}
use Rattle.rv_machine.specs.Sizes.{byte_count}
use Rattle.rv_machine.specs.declared.memory.Size.{Size}
use Rattle.rv_machine.specs.declared.memory.Size.TheVariants.{Byte}

-- a load or a store takes a byte at least
pub some_bytes : (n : Size) → 0 < byte_count n
some_bytes Byte = omega arith
some_bytes _ = omega arith

joined-none : (o : Option ℕ) → joined o None ≡ None
joined-none (Some b) = refl
joined-none None = refl

some-joined : (low : ℕ) (o : Option ℕ) → is_some (joined (Some low) o) ≡ is_some o
some-joined low (Some high) = refl
some-joined low None = refl

module _ (base : ℕ) (items : List ℕ) where
  below : (a : ℕ) → a < base → bytes_from base items a ≡ None
  below a h = rw (lt-leb base a h)

  pub above : (a : ℕ) → base + length items ≤ a → bytes_from base items a ≡ None
  above a h = rw (le-leb base a (omega arith)) (slice_get_past items (a - base) (omega arith))

  pub byte_within : (a k : ℕ) → a ≡ base + k → k < length items → bytes_from base items a ≡ Some (get_or items k 0)
  byte_within a k e h =
      let at : a - base ≡ k = omega arith in
      rw (le-leb base a (omega arith), at) (slice_get-get_or items k 0 h)

  -- where a byte lies outside, there is no number
  pub number_outside : (n a : ℕ) → 0 < n → (base ≤ a × (a + n ≤ base + length items) → ⊥)
      → number_at (bytes_from base items) n a ≡ None
  unfolding number_at
  number_outside zero a some out = absurd (omega arith)
  number_outside (suc n) a some out = elim (cases_lt a base) [
    | inl low ↦ rw (below a low)
    | inr from ↦ elim (cases_lt a (base + length items)) [
      | inl high ↦
          let more : 0 < n = elim (cases_lt 0 n) [ inl h ↦ h | inr h ↦ absurd (out (from, omega arith)) ] in
          rw (number_outside n (a + 1) more (λ within. out (from, omega (arith, within.1)))) (joined-none _)
      | inr high ↦ rw (above a high)
    ]
  ]

  -- where all lie inside, there is one
  pub number_within : (n a : ℕ) → base ≤ a → a + n ≤ base + length items
      → is_some (number_at (bytes_from base items) n a) ≡ true
  unfolding number_at
  number_within zero a low high = refl
  number_within (suc n) a low high =
      rw (byte_within a (a - base) (omega arith) (omega arith))
      (some-joined _ _ ∙ number_within n (a + 1) (omega arith) (omega arith))
