-- A rotation's two pieces have no bit in common, and no bit is lost before the cut.
use Rattle.std.proofs.Common.{◌≡◌, ℕ, ◌+◌, ◌-◌, ◌*◌, ◌/◌, ◌%◌, ◌^◌, ◌<◌, ◌≤◌, bit_or, ap, subst, ◌∙◌, arith}
use Rattle.std.proofs.lemmas.Nat.{or_shifted, shr_below, shl_whole}

pub pieces_add : (w j n : ℕ) → j < w → w ≤ 32 → n < 2 ^ w
    → bit_or ((n * 2 ^ j) % 2 ^ 64) (n / 2 ^ (w - j)) ≡ n * 2 ^ j + n / 2 ^ (w - j)
pieces_add w j n within narrow fits =
    let whole : w ≡ j + (w - j) = omega arith in
    ap (λ x. bit_or x (n / 2 ^ (w - j))) (shl_whole n w j 64 fits (omega arith))
    ∙ or_shifted n j (n / 2 ^ (w - j)) (shr_below n j (w - j) (subst (λ x. n < 2 ^ x) whole fits))
