-- Where an element stands in two lists after one another, or in a mapped list.
use Rattle.std.proofs.Common.{◌≡◌, List, [], ◌∷◌, ◌++◌, length, map, All, ◌⊎◌, inl, inr, refl, sym, ap, ap₂, arith}
use Rattle.std.proofs.Common.{length-append}
use Rattle.std.proofs.lemmas.List.Elements.{All-head, All-tail}

module _ {A : Type 0} where
  pub same_head : (x y : A) (xs ys : List A) → x ∷ xs ≡ y ∷ ys → x ≡ y
  same_head x y xs ys e = cc

  pub same_tail : (x y : A) (xs ys : List A) → x ∷ xs ≡ y ∷ ys → xs ≡ ys
  same_tail x y xs ys e = cc

  pub not_empty : (front rest : List A) (x : A) → [] ≡ front ++ x ∷ rest → ⊥
  not_empty front rest x e = omega (arith, ap length e, length-append front (x ∷ rest))

  pub only : (front rest : List A) (x y : A) → x ∷ [] ≡ front ++ y ∷ rest → (front ≡ []) × (x ≡ y)
  only [] rest x y e = (refl, same_head x y [] rest e)
  only (z ∷ front) rest x y e = absurd (not_empty front rest y (same_tail x z [] (front ++ y ∷ rest) e))

  -- an element of two lists after one another stands in the first, or in the second
  pub split : (front xs ys rest : List A) (x : A) → xs ++ ys ≡ front ++ x ∷ rest
      → ((r : List A) × (xs ≡ front ++ x ∷ r)) ⊎ ((f : List A) × (front ≡ xs ++ f) × (ys ≡ f ++ x ∷ rest))
  split front [] ys rest x e = inr (front, refl, e)
  split [] (y ∷ xs) ys rest x e = inl (xs, ap (λ z. z ∷ xs) (same_head y x (xs ++ ys) rest e))
  split (f ∷ front) (y ∷ xs) ys rest x e =
      let same = same_head y f (xs ++ ys) (front ++ x ∷ rest) e in
      elim (split front xs ys rest x (same_tail y f (xs ++ ys) (front ++ x ∷ rest) e)) [
        | inl h ↦ inl (h.0, ap₂ (λ z l. z ∷ l) same h.1)
        | inr h ↦ inr (h.0, ap₂ (λ z l. z ∷ l) (sym same) h.1, h.2)
      ]

  pub at_middle : (P : A → Type 0) (front : List A) (x : A) (rest : List A) → All P (front ++ x ∷ rest) → P x
  at_middle P [] x rest h = All-head P x rest h
  at_middle P (y ∷ front) x rest h = at_middle P front x rest (All-tail P y (front ++ x ∷ rest) h)

-- an element of a mapped list is that of an element
pub record Mapped {A B : Type 0} (f : A → B) (xs : List A) (front : List B) (y : B) : Type 0 where
  pub first : List A
  pub one : A
  pub others : List A
  pub whole : xs ≡ first ++ one ∷ others
  pub front_is : front ≡ map f first
  pub is : y ≡ f one

pub mapped : {A B : Type 0} (f : A → B) (xs : List A) (front rest : List B) (y : B) → map f xs ≡ front ++ y ∷ rest
    → Mapped f xs front y
mapped f [] front rest y e = absurd (not_empty front rest y e)
mapped f (x ∷ xs) [] rest y e = record {
  first = [];
  one = x;
  others = xs;
  whole = refl;
  front_is = refl;
  is = sym (same_head (f x) y (map f xs) rest e);
}
mapped f (x ∷ xs) (z ∷ front) rest y e =
    let m = mapped f xs front rest y (same_tail (f x) z (map f xs) (front ++ y ∷ rest) e) in
    record {
      first = x ∷ m.first;
      one = m.one;
      others = m.others;
      whole = ap (λ l. x ∷ l) m.whole;
      front_is = ap₂ (λ w l. w ∷ l) (sym (same_head (f x) z (map f xs) (front ++ y ∷ rest) e)) m.front_is;
      is = m.is;
    }
