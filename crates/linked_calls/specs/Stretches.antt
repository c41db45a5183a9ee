-- Stretches of bytes: data, zeros, and accesses that lie in them.
use Rattle.std.specs.Prelude.{◌≡◌, ◌⊎◌, ℕ, ◌+◌, ◌^◌, ◌<◌, ◌≤◌, true, Some, is_some}
use Rattle.linked_calls.specs.Below.{ByteMap, Size}
use Rattle.rv_machine.specs.Sizes.{byte_count}

-- data is bytes, as in every real machine: a byte map could hold greater numbers
abbrev pub AreBytes : ByteMap → Type 0
AreBytes bytes = (x byte : ℕ) → bytes x ≡ Some byte → byte < 2 ^ 8

-- all bytes of a stretch are data
abbrev pub AreData : ℕ → ℕ → ByteMap → Type 0
AreData low high bytes = (x : ℕ) → low ≤ x → x < high → is_some (bytes x) ≡ true

-- zeros from one address to another, and else what was there
pub record AreZeroed (low high : ℕ) (old new : ByteMap) : Type 0 where
  pub inside : (x : ℕ) → low ≤ x → x < high → new x ≡ Some 0
  pub outside : (x : ℕ) → (x < low) ⊎ (high ≤ x) → new x ≡ old x

-- an access lies from one address to another
abbrev pub LiesIn : ℕ → ℕ → ℕ → Size → Type 0
LiesIn low high a size = (low ≤ a) × (a + byte_count size ≤ high)
