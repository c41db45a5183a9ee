-- Bytes that are put at the beginning of a stretch of zeros, one after another.
use Rattle.std.proofs.Common.{◌≡◌, ℕ, zero, suc, ◌+◌, ◌-◌, ◌<◌, List, [], ◌∷◌, take, get_or}
use Rattle.std.proofs.Common.{Some, refl, ap, inl, inr, arith, eq-eqb, ne_eqb}
use Rattle.std.proofs.Math.Path.{fun_ext}
use Rattle.std.proofs.lemmas.Bool.{cases_eq, cases_lt, le-leb, lt-leb, lt-ltb}
use Rattle.rv_machine.specs.Bytes.{with_number}
use Rattle.rv_machine.specs.Flat.{loaded_bytes}

-- one more byte of a list changes no other
other_byte : (bytes : List ℕ) (k i : ℕ) → (i ≡ k → ⊥)
    → get_or (take (suc k) bytes) i 0 ≡ get_or (take k bytes) i 0
other_byte [] zero i ne = refl
other_byte [] (suc k) i ne = refl
other_byte (b ∷ bytes) zero zero ne = absurd (ne refl)
other_byte (b ∷ bytes) zero (suc i) ne = refl
other_byte (b ∷ bytes) (suc k) zero ne = refl
other_byte (b ∷ bytes) (suc k) (suc i) ne = other_byte bytes k i (λ e. ne (ap suc e))

this_byte : (bytes : List ℕ) (k : ℕ) → get_or (take (suc k) bytes) k 0 ≡ get_or bytes k 0
this_byte [] zero = refl
this_byte [] (suc k) = refl
this_byte (b ∷ bytes) zero = refl
this_byte (b ∷ bytes) (suc k) = this_byte bytes k

module _ (address size : ℕ) where
  pub loaded_inside : (bytes : List ℕ) (k : ℕ) → k < size
      → loaded_bytes address size bytes (address + k) ≡ Some (get_or bytes k 0)
  loaded_inside bytes k within =
      let from : address + k - address ≡ k = omega arith in
      rw (le-leb address (address + k) (omega arith), lt-ltb (address + k) (address + size) (omega arith), from)

  loaded_other : (bytes : List ℕ) (k x : ℕ) → (x ≡ address + k → ⊥)
      → loaded_bytes address size (take (suc k) bytes) x ≡ loaded_bytes address size (take k bytes) x
  loaded_other bytes k x ne = elim (cases_lt x address) [
    | inl low ↦ rw (lt-leb address x low)
    | inr from ↦
        rw (other_byte bytes k (x - address) (λ e. ne (omega arith)))
  ]

  pub put_next : (bytes : List ℕ) (k v : ℕ) → k < size → v < 256 → v ≡ get_or bytes k 0
      → with_number (loaded_bytes address size (take k bytes)) 1 (address + k) v
      ≡ loaded_bytes address size (take (suc k) bytes)
  unfolding with_number
  put_next bytes k v within small is = fun_ext (λ x. elim (cases_eq x (address + k)) [
    | inl e ↦
        rw (eq-eqb x (address + k) e, e, loaded_inside (take (suc k) bytes) k within, this_byte bytes k)
        (ap Some (omega (arith, small, is)))
    | inr ne ↦ rw (ne_eqb x (address + k) ne, loaded_other bytes k x ne)
  ])
