-- What is written of things one after another.
use Rattle.std.proofs.Common.{◌≡◌, ℕ, ◌+◌, ◌<◌, List, ◌∷◌, ◌++◌, append_assoc, drop, get_or, length}
use Rattle.std.proofs.lemmas.List.{drop_more}

-- what is written so far and what is left are the whole, with one thing more and without it
module _ {X : Type 0} (one : ℕ → X → List ℕ) (all : ℕ → List X → List ℕ)
    (splits : (n : ℕ) (x : X) (xs : List X) → all n (x ∷ xs) ≡ one n x ++ all (n + 1) xs) where
  pub one_more : (xs : List X) (i : ℕ) (d : X) (written more whole : List ℕ) → i < length xs
      → more ≡ written ++ one i (get_or xs i d) → written ++ all i (drop i xs) ≡ whole
      → more ++ all (i + 1) (drop (i + 1) xs) ≡ whole
  one_more xs i d written more whole within is before =
      rw (is, append_assoc, ← splits i (get_or xs i d) (drop (i + 1) xs), ← drop_more xs i d within) before
