-- Lists of which nothing has a weight.
use Rattle.std.proofs.Common.{◌≡◌, ℕ, zero, suc, List, [], ◌∷◌, ◌++◌, Contains, subst, arith}

pub data AreLight {A : Type 0} (w : A → ℕ) : List A → Type 0 where
  none : AreLight w []
  more : {x : A} {xs : List A} → w x ≡ 0 → AreLight w xs → AreLight w (x ∷ xs)

pub both : {A : Type 0} {w : A → ℕ} {a b : List A} → AreLight w a → AreLight w b → AreLight w (a ++ b)
both none k = k
both (more is h) k = more is (both h k)

pub light_of : {A : Type 0} {w : A → ℕ} {xs : List A} {x : A} → AreLight w xs → Contains xs x → w x ≡ 0
light_of none (k, inside, is) = absurd (omega (arith, inside))
light_of {w} (more light h) (zero, inside, is) = subst (λ y. w y ≡ 0) is light
light_of (more light h) (suc k, inside, is) = light_of h (k, omega (arith, inside), is)
