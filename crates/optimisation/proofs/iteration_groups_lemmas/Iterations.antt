-- Iterations in two parts, one after the other.
use Rattle.std.proofs.Common.{◌≡◌, ℕ, zero, suc, ◌+◌, ◌++◌, refl, sym, ap, ◌∙◌, append_assoc, arith}
use Rattle.optimisation.specs.Below.{iterations, Path, path_of_iterations}

module _ {S : Type 0} (f : ℕ → S → S) (p : ℕ → S → Path) where
  -- so many in all, of which these are first, and the others begin at another number
  pub record AreParts (n c m i j : ℕ) (s : S) : Type 0 where
    pub end : iterations n i f s ≡ iterations m j f (iterations c i f s)
    pub path : path_of_iterations n i f p s
        ≡ path_of_iterations c i f p s ++ path_of_iterations m j f p (iterations c i f s)

  pub in_parts : (n c m i j : ℕ) → n ≡ c + m → j ≡ i + c → (s : S) → AreParts n c m i j s
  in_parts n zero m i j sum next s =
      let all : n ≡ m = omega (arith, sum) in
      let same : j ≡ i = omega (arith, next) in
      rw (all, same) (record { end = refl; path = refl })
  in_parts zero (suc c) m i j sum next s = absurd (omega (arith, sum))
  in_parts (suc n) (suc c) m i j sum next s =
      let rest = in_parts n c m (i + 1) j (omega (arith, sum)) (omega (arith, next)) (f i s) in
      let front = path_of_iterations c (i + 1) f p (f i s) in
      let back = path_of_iterations m j f p (iterations c (i + 1) f (f i s)) in
      record { end = rest.end; path = ap (λ path. p i s ++ path) rest.path ∙ sym (append_assoc (p i s) front back) }
