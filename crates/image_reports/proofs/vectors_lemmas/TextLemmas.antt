-- Numbers that are shown as bytes.
use Rattle.std.proofs.Common.{◌≡◌, ℕ, ◌%◌, ◌<◌, true, nat_lt, List, [], ◌∷◌, map, refl, ap₂, arith}
use Rattle.std.proofs.lemmas.Bool.{and_parts}
use Rattle.std.proofs.lemmas.Bool.Decides.{nat_tests}
use Rattle.image_reports.specs.vectors.Texts.{are_bytes}

-- bytes are what they are modulo 256
pub bytes_same : (numbers : List ℕ) → are_bytes numbers ≡ true → map (λ number. number % 256) numbers ≡ numbers
bytes_same [] small = refl
bytes_same (number ∷ numbers) small =
    let both = and_parts (nat_lt number 256) (are_bytes numbers) small in
    let below : number < 256 = grind (arith, nat_tests, both.0) in
    ap₂ (λ n l. n ∷ l) (omega (arith, below)) (bytes_same numbers both.1)
