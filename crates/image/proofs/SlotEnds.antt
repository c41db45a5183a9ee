-- Where slots end.
use Rattle.std.proofs.Common.{◌≡◌, ℕ, suc, ◌-◌, ◌≤◌, List, [], ◌∷◌, length, get_or, refl, arith}
use Rattle.image.specs.Below.{Slot, slot_end, slots_end}

-- slots end where the last of them does
pub slots_end_at_last : (low : ℕ) (d : Slot) (slots : List Slot) → 1 ≤ length slots
    → slot_end (get_or slots (length slots - 1) d) ≡ slots_end low slots
slots_end_at_last low d [] h = absurd (omega arith)
slots_end_at_last low d (slot ∷ []) h = refl
slots_end_at_last low d (slot ∷ next ∷ slots) h =
    let k : length (slot ∷ next ∷ slots) - 1 ≡ suc (length (next ∷ slots) - 1) = omega arith in
    rw k (slots_end_at_last (slot_end slot) d (next ∷ slots) (omega arith))
