-- What is known of variables where a body begins.
use Rattle.std.proofs.lemmas.List.{replicate_more}
use Rattle.std.proofs.Common.{◌≡◌, ℕ, ◌+◌, ◌-◌, ◌≤◌, List, [], ◌∷◌, ◌++◌, replicate, ap, ◌∙◌, append_assoc, arith}

-- one more of the same
pub one_more : {X : Type 0} (xs front : List X) (x : X) (a n : ℕ) → a ≤ n → xs ≡ front ++ replicate (n - a) x
    → xs ++ x ∷ [] ≡ front ++ replicate (n + 1 - a) x
one_more xs front x a n few is =
    let more : n - a + 1 ≡ n + 1 - a = omega (arith, few) in
    ap (λ ys. ys ++ x ∷ []) is ∙ (append_assoc front (replicate (n - a) x) (x ∷ [])
    ∙ ap (λ ys. front ++ ys) (replicate_more (n - a) x ∙ ap (λ m. replicate m x) more))
