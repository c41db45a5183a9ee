-- The words of a body.
use Rattle.std.proofs.Common.{◌≡◌, ℕ, suc, ◌-◌, List, [], ◌∷◌, length, take, refl, ap, ◌∙◌, arith}
use Rattle.functions.specs.Below.{body_words}

-- they are all but one
pub all_but_one : (words : List ℕ) → take (length words - 1) words ≡ body_words words
all_but_one [] = refl
all_but_one (word ∷ []) = refl
all_but_one (word ∷ next ∷ words) =
    let count : length (word ∷ next ∷ words) - 1 ≡ suc (length (next ∷ words) - 1) = omega arith in
    ap (λ (n : ℕ). take n (word ∷ next ∷ words)) count
    ∙ ap (λ (rest : List ℕ). word ∷ rest) (all_but_one (next ∷ words))
