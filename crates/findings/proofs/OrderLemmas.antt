-- Violations in their order: the order is one that sorts go by, and the one that is named stands first.
use Rattle.std.proofs.Common.{◌≡◌, ◌<◌, ◌≤◌, ◌⊎◌, inl, inr, ℕ, true, false, ◌==◌, ◌&&◌, ◌||◌, Bool, not}
use Rattle.std.proofs.Common.{nat_lt, List, [], ◌∷◌, length, Option, None, Some, fold, Contains, refl, ap}
use Rattle.std.proofs.Common.{sym, ◌∙◌, subst, arith, slice_get, get_or, true≢false}
use Rattle.std.specs.Cmp.{IsStrictWeakOrder}
use Rattle.std.specs.List.{filter}
use Rattle.std.specs.List.Sorted.{ties}
use Rattle.std.proofs.lemmas.Bool.{cases_Bool}
use Rattle.std.proofs.lemmas.Bool.Decides.{nat_tests}
use Rattle.std.proofs.lemmas.List.Elements.{All-head, All-contains}
use Rattle.std.proofs.lemmas.List.Sorted.{Contains-permutation, IsPermutation-sym, length_permutation, sorted_far}
use Rattle.language.specs.declared.typing.Violation.{Violation}
use Rattle.language.specs.Rules.{rank_of}
use Rattle.language.specs.FirstViolation.{IsNoLaterThan, IsFirst}
use Rattle.language.specs.Sooner.{comes_before, sooner}
use Rattle.language.proofs.SoonerLemmas.{found_first, found_none, kept_first}
use Rattle.findings.specs.Order.{AreInOrder}

-- by numbers
abbrev before : ℕ → ℕ → ℕ → ℕ → Bool
before a k b l = nat_lt a b || ((a == b) && nat_lt k l)

asymmetric : (a k b l : ℕ) → before a k b l ≡ true → before b l a k ≡ false
asymmetric a k b l h = grind (arith, nat_tests)

chained : (a k b l c m : ℕ) → before a k b l ≡ false → before b l c m ≡ false → before a k c m ≡ false
chained a k b l c m h i = grind (arith, nat_tests)

not_later : (a k b l : ℕ) → (a < b) ⊎ ((a ≡ b) × (k ≤ l)) → before b l a k ≡ false
not_later a k b l h = grind (arith, nat_tests)

not_itself : (a k : ℕ) → before a k a k ≡ false
not_itself a k = grind (arith, nat_tests)

pub is_order : IsStrictWeakOrder comes_before
is_order = record {
  one_way = λ x y h. asymmetric x.place.offset (rank_of x.rule) y.place.offset (rank_of y.rule) h;
  chain = λ x y z h i. chained x.place.offset (rank_of x.rule) y.place.offset (rank_of y.rule) z.place.offset
      (rank_of z.rule) h i;
}

never_later : (u v : Violation) → IsNoLaterThan u v → comes_before v u ≡ false
never_later u v h = not_later u.place.offset (rank_of u.rule) v.place.offset (rank_of v.rule) h

-- u is not after v, which is before w
before_too : (u v w : Violation) → comes_before v u ≡ false → comes_before v w ≡ true → comes_before u w ≡ true
before_too u v w h i = elim (cases_Bool (comes_before u w)) [
  | inl is ↦ is
  | inr other ↦ absurd (true≢false (sym i ∙ is_order.chain v u w h other))
]

-- the ones of its rule at its place, and the first of them leads
abbrev ties_with : Violation → Violation → Bool
ties_with = ties comes_before

behind_no_tie : (u w : Violation) → comes_before u w ≡ true → ties_with u w ≡ false
behind_no_tie u w h = rw h refl

ties_itself : (u : Violation) → ties_with u u ≡ true
ties_itself u = rw (not_itself u.place.offset (rank_of u.rule)) refl

no_tie_behind : (u w : Violation) → comes_before w u ≡ false → ties_with u w ≡ false → comes_before u w ≡ true
no_tie_behind u w h t = elim (cases_Bool (comes_before u w)) [
  | inl is ↦ is
  | inr other ↦ absurd (true≢false (sym (by (comes_before u w) (comes_before w u) other h) ∙ t))
]
  where
    by : (a b : Bool) → a ≡ false → b ≡ false → (not a && not b) ≡ true
    by a b h i = rw (h, i) refl

least_of : (u w : Violation) (vs : List Violation) → IsFirst (w ∷ vs) u → comes_before w u ≡ false
least_of u w vs first = never_later u w (All-head (IsNoLaterThan u) w vs first.least)

-- one that is skipped in front
skipped : (p : Violation → Bool) (w : Violation) (vs : List Violation) → p w ≡ false → filter p (w ∷ vs) ≡ filter p vs
skipped p w vs h = rw h refl

passed : (p : Violation → Bool) (w : Violation) (vs : List Violation) → p w ≡ true
    → filter p (w ∷ vs) ≡ w ∷ filter p vs
passed p w vs h = rw h refl

leads : (w : Violation) (vs : List Violation) (u : Violation) → fold sooner (Some w) vs ≡ Some u
    → (rest : List Violation) × (filter (ties_with u) (w ∷ vs) ≡ u ∷ rest)
leads w [] u h =
    let same : w ≡ u = cc in
    subst (λ (v : Violation). (rest : List Violation) × (filter (ties_with v) (w ∷ []) ≡ v ∷ rest)) same
    ([], passed (ties_with w) w [] (ties_itself w))
leads w (v ∷ vs) u h = elim (cases_Bool (comes_before v w)) [
  | inl sooner_one ↦
      let kept : fold sooner (Some v) vs ≡ Some u = rw sooner_one at h in
      let after = before_too u v w (least_of u v vs (kept_first v vs u kept)) sooner_one in
      let one = leads v vs u kept in
      (one.0, skipped (ties_with u) w (v ∷ vs) (behind_no_tie u w after) ∙ one.1)
  | inr later_one ↦
      let kept : fold sooner (Some w) vs ≡ Some u = rw later_one at h in
      let least = least_of u w vs (kept_first w vs u kept) in
      let one = leads w vs u kept in
      elim (cases_Bool (ties_with u w)) [
        | inl tie ↦
            let same : w ≡ u = head_is (sym (passed (ties_with u) w vs tie) ∙ one.1) in (
              filter (ties_with u) (v ∷ vs),
              passed (ties_with u) w (v ∷ vs) tie ∙ ap (λ (x : Violation). x ∷ filter (ties_with u) (v ∷ vs)) same,
            )
        | inr none ↦
            let past = no_tie_behind u w least none in
            let far = behind_no_tie u v (after_too u w v past later_one) in (
              one.0,
              skipped (ties_with u) w (v ∷ vs) none ∙ skipped (ties_with u) v vs far
                  ∙ sym (skipped (ties_with u) w vs none) ∙ one.1,
            )
      ]
]
  where
    head_is : {x y : Violation} {xs ys : List Violation} → x ∷ xs ≡ y ∷ ys → x ≡ y
    head_is h = cc

    -- u is before w, which is not after v
    after_too : (u w v : Violation) → comes_before u w ≡ true → comes_before v w ≡ false → comes_before u v ≡ true
    after_too u w v h i = elim (cases_Bool (comes_before u v)) [
      | inl is ↦ is
      | inr other ↦ absurd (true≢false (sym h ∙ is_order.chain u v w other i))
    ]

first_leads : (vs : List Violation) (u : Violation) → fold sooner None vs ≡ Some u
    → (rest : List Violation) × (filter (ties_with u) vs ≡ u ∷ rest)
first_leads [] u h = cc
first_leads (v ∷ vs) u h = leads v vs u h

-- the one that is named stands first
pub named_first : (all ordered : List Violation) → AreInOrder all ordered
    → slice_get ordered 0 ≡ fold sooner None all
named_first all [] order = sym (by (fold sooner None all) refl)
  where
    by : (found : Option Violation) → fold sooner None all ≡ found → fold sooner None all ≡ None
    by None is = is
    by (Some u) is = absurd (nothing (found_first all u is).there (length_permutation all [] order.same))
      where
        nothing : Contains all u → 0 ≡ length all → ⊥
        nothing there long = omega (arith, long, there.1)
named_first all (h ∷ rest) order = by (fold sooner None all) refl
  where
    by : (found : Option Violation) → fold sooner None all ≡ found → Some h ≡ fold sooner None all
    by None is = absurd (omega (arith, found_none all is, length_permutation all (h ∷ rest) order.same))
    by (Some u) is =
        let first = found_first all u is in
        let inside = Contains-permutation (h ∷ rest) all h (IsPermutation-sym all (h ∷ rest) order.same)
        (0, omega arith, refl) in
        let there = Contains-permutation all (h ∷ rest) u order.same first.there in
        let low : comes_before h u ≡ false =
        never_later u h (All-contains (IsNoLaterThan u) all h first.least inside) in
        let far : comes_before (get_or (h ∷ rest) there.0 u) h ≡ false =
        sorted_far comes_before is_order (h ∷ rest) order.ascend 0 there.0 u (omega arith) there.1 in
        let high : comes_before u h ≡ false = rw there.2 at far in
        let tie : ties_with u h ≡ true = rw (low, high) refl in
        let one = first_leads all u is in
        let heads : h ∷ filter (ties_with u) rest ≡ u ∷ one.0 =
        sym (passed (ties_with u) h rest tie) ∙ order.stable u ∙ one.1 in
        let same : h ≡ u = cc in
        ap Some same ∙ sym is
