-- What was set stays set, and of a program's variables only the parameters are known at first.
use Rattle.std.proofs.Common.{◌≡◌, ℕ, zero, suc, ◌<◌, ◌++◌, true, false, [], ◌∷◌, replicate}
use Rattle.std.proofs.Common.{refl, arith, true≢false}
use Rattle.variable_room.specs.Below.{array, first, nothing, set, StraightBlock, StraightTree}
use Rattle.variable_room.specs.set_first.Order.{Known, is_known, with_known, known_after, known_behind}

-- all that one list has is known by another
abbrev pub Grows : Known → Known → Type 0
Grows one other = (x : ℕ) → is_known one x ≡ true → is_known other x ≡ true

pub grows_with : (known : Known) (y : ℕ) → Grows known (with_known known y)
grows_with [] y x is = is
grows_with (b ∷ known) zero zero is = refl
grows_with (b ∷ known) zero (suc x) is = is
grows_with (b ∷ known) (suc y) zero is = is
grows_with (b ∷ known) (suc y) (suc x) is = grows_with known y x is

-- what is known beside one that was set was known before
pub known_beside : (known : Known) (y x : ℕ) → (x ≡ y → ⊥) → is_known (with_known known y) x ≡ true
    → is_known known x ≡ true
known_beside [] y x apart is = is
known_beside (b ∷ known) zero zero apart is = absurd (apart refl)
known_beside (b ∷ known) zero (suc x) apart is = is
known_beside (b ∷ known) (suc y) zero apart is = is
known_beside (b ∷ known) (suc y) (suc x) apart is = known_beside known y x (λ e. apart (omega arith)) is

pub grows_after : (known : Known) (statement : StraightTree) → Grows known (known_after known statement)
grows_after known (set within x value) = grows_with known x
grows_after known (array x size values) = grows_with known x
grows_after known statement = λ x is. is

pub grows_behind : (known : Known) (body : StraightBlock) → Grows known (known_behind known body)
grows_behind known nothing = λ x is. is
grows_behind known (first statement rest) =
    λ x is. grows_behind (known_after known statement) rest x (grows_after known statement x is)

none_known : (n x : ℕ) → is_known (replicate n false) x ≡ true → ⊥
none_known zero x is = true≢false (cc)
none_known (suc n) zero is = true≢false (cc)
none_known (suc n) (suc x) is = none_known n x is

pub first_known : (n m x : ℕ) → is_known (replicate n true ++ replicate m false) x ≡ true → x < n
first_known zero m x is = absurd (none_known m x is)
first_known (suc n) m zero is = omega arith
first_known (suc n) m (suc x) is = omega (arith, first_known n m x is)

pub are_known : (n m x : ℕ) → x < n → is_known (replicate n true ++ replicate m false) x ≡ true
are_known zero m x less = absurd (omega (arith, less))
are_known (suc n) m zero less = refl
are_known (suc n) m (suc x) less = are_known n m x (omega (arith, less))
