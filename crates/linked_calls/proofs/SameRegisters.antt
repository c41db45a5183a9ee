-- Registers that hold what others hold: by a list, one after another.
use Rattle.std.specs.Prelude.{not}
use Rattle.std.proofs.Common.{◌≡◌, ◌≢◌, ℕ, ◌==◌, Bool, true, ◌&&◌, List, [], ◌∷◌, ◌++◌, map, All, refl, ap₂, ◌∙◌, arith}
use Rattle.std.proofs.Common.{ne_eqb}
use Rattle.std.proofs.lemmas.Bool.Decides.{nat_tests}
use Rattle.std.proofs.lemmas.List.Elements.{All-cons, All-head, All-nil, All-tail}
use Rattle.linked_calls.proofs.Below.{both_left, both_right}

-- two functions agree on each of a list
abbrev pub AreSame : (ℕ → ℕ) → (ℕ → ℕ) → List ℕ → Type 0
AreSame f g [] = Unit {0}
AreSame f g (r ∷ rs) = (f r ≡ g r) × AreSame f g rs

-- a number is none of a list
abbrev pub IsNone : List ℕ → ℕ → Type 0
IsNone [] q = Unit {0}
IsNone (k ∷ ks) q = (q ≢ k) × IsNone ks q

abbrev pub is_none : List ℕ → ℕ → Bool
is_none [] q = true
is_none (k ∷ ks) q = not (q == k) && is_none ks q

-- no number of one list is in another
abbrev pub are_none : List ℕ → List ℕ → Bool
are_none ks [] = true
are_none ks (r ∷ rs) = is_none ks r && are_none ks rs

differs : (q k : ℕ) → not (q == k) ≡ true → q ≢ k
differs q k h = grind (arith, nat_tests)

pub none_of : (ks : List ℕ) (q : ℕ) → is_none ks q ≡ true → IsNone ks q
none_of [] q h = tt
none_of (k ∷ ks) q h =
    (differs q k (both_left (not (q == k)) (is_none ks q) h), none_of ks q (both_right (not (q == k)) (is_none ks q) h))

-- none of two lists is none of each

pub first_none : (ks js : List ℕ) (q : ℕ) → IsNone (ks ++ js) q → IsNone ks q
first_none [] js q none = tt
first_none (k ∷ ks) js q none = (none.0, first_none ks js q none.1)

pub then_none : (ks js : List ℕ) (q : ℕ) → IsNone (ks ++ js) q → IsNone js q
then_none [] js q none = none
then_none (k ∷ ks) js q none = then_none ks js q none.1

pub all_differ : (ks : List ℕ) (q : ℕ) → IsNone ks q → All (λ k. q ≢ k) ks
all_differ [] q none = All-nil (λ k. q ≢ k)
all_differ (k ∷ ks) q none = All-cons (λ x. q ≢ x) k ks none.0 (all_differ ks q none.1)

pub is_none_of : (ks : List ℕ) (q : ℕ) → All (λ k. q ≢ k) ks → is_none ks q ≡ true
is_none_of [] q all = refl
is_none_of (k ∷ ks) q all =
    rw (ne_eqb q k (All-head (λ x. q ≢ x) k ks all), is_none_of ks q (All-tail (λ x. q ≢ x) k ks all)) refl

-- functions that agree beside some numbers agree on a list without them
pub same_beside : (ks : List ℕ) (f g : ℕ → ℕ) → ((q : ℕ) → IsNone ks q → f q ≡ g q) → (rs : List ℕ)
    → are_none ks rs ≡ true → AreSame f g rs
same_beside ks f g same [] h = tt
same_beside ks f g same (r ∷ rs) h = (
  same r (none_of ks r (both_left (is_none ks r) (are_none ks rs) h)),
  same_beside ks f g same rs (both_right (is_none ks r) (are_none ks rs) h),
)

pub same_then : (f g h : ℕ → ℕ) (rs : List ℕ) → AreSame f g rs → AreSame g h rs → AreSame f h rs
same_then f g h [] one other = tt
same_then f g h (r ∷ rs) one other = (one.0 ∙ other.0, same_then f g h rs one.1 other.1)

-- so what agrees with one agrees with another that differs from it beside the list
pub still_same : (ks : List ℕ) (f g h : ℕ → ℕ) → ((q : ℕ) → IsNone ks q → f q ≡ g q) → (rs : List ℕ)
    → are_none ks rs ≡ true → AreSame g h rs → AreSame f h rs
still_same ks f g h beside rs ok same = same_then f g h rs (same_beside ks f g beside rs ok) same

-- as they do where their values on it are the same
pub heads : (x y : ℕ) (xs ys : List ℕ) → x ∷ xs ≡ y ∷ ys → x ≡ y
heads x y xs ys e = cc

pub tails : (x y : ℕ) (xs ys : List ℕ) → x ∷ xs ≡ y ∷ ys → xs ≡ ys
tails x y xs ys e = cc

pub same_values : (f g : ℕ → ℕ) (rs : List ℕ) → map f rs ≡ map g rs → AreSame f g rs
same_values f g [] is = tt
same_values f g (r ∷ rs) is = (
  heads (f r) (g r) (map f rs) (map g rs) is,
  same_values f g rs (tails (f r) (g r) (map f rs) (map g rs) is),
)

pub values_same : (f g : ℕ → ℕ) (rs : List ℕ) → AreSame f g rs → map f rs ≡ map g rs
values_same f g [] same = refl
values_same f g (r ∷ rs) same = ap₂ (λ x (xs : List ℕ). x ∷ xs) same.0 (values_same f g rs same.1)

pub all_same : (f g : ℕ → ℕ) (rs : List ℕ) → AreSame f g rs → All (λ r. f r ≡ g r) rs
all_same f g [] same = All-nil (λ r. f r ≡ g r)
all_same f g (r ∷ rs) same = All-cons (λ r. f r ≡ g r) r rs same.0 (all_same f g rs same.1)
