-- The first violation kept as they come is the first of all.
use Rattle.std.proofs.Common.{◌≡◌, ◌≢◌, ◌<◌, ◌≤◌, ◌⊎◌, inl, inr, ℕ, suc, zero, true, false, ◌==◌, ◌&&◌, ◌||◌}
use Rattle.std.proofs.Common.{nat_lt, List, [], ◌∷◌, ◌++◌, length, Option, None, Some, fold, Contains, refl, ap}
use Rattle.std.proofs.Common.{sym, ◌∙◌, subst, arith}
use Rattle.std.proofs.lemmas.Bool.{cases_Bool}
use Rattle.std.proofs.lemmas.Bool.Decides.{nat_tests}
use Rattle.std.proofs.lemmas.List.Sums.{fold-append}
use Rattle.std.proofs.lemmas.List.Elements.{All-cons, All-nil, All-head, All-tail, Contains-append_right}
use Rattle.language.specs.declared.typing.Violation.{Violation}
use Rattle.language.specs.Rules.{rank_of}
use Rattle.language.specs.FirstViolation.{IsNoLaterThan, IsFirst}
use Rattle.language.specs.Sooner.{comes_before, sooner}

earlier : (a b c d : ℕ) → (nat_lt a b || ((a == b) && nat_lt c d)) ≡ true → (a < b) ⊎ ((a ≡ b) × (c ≤ d))
earlier a b c d h = grind (arith, nat_tests)

not_earlier : (a b c d : ℕ) → (nat_lt a b || ((a == b) && nat_lt c d)) ≡ false → (b < a) ⊎ ((b ≡ a) × (d ≤ c))
not_earlier a b c d h = grind (arith, nat_tests)

through : (a b c k l m : ℕ) → (a < b) ⊎ ((a ≡ b) × (k ≤ l)) → (b < c) ⊎ ((b ≡ c) × (l ≤ m))
    → (a < c) ⊎ ((a ≡ c) × (k ≤ m))
through a b c k l m p q = grind arith

later : (u v w : Violation) → IsNoLaterThan u v → IsNoLaterThan v w → IsNoLaterThan u w
later u v w p q = through u.place.offset v.place.offset w.place.offset (rank_of u.rule) (rank_of v.rule)
    (rank_of w.rule) p q

itself : (v : Violation) → IsNoLaterThan v v
itself v = inr (refl, omega arith)

-- one more violation in front, that is not named before
behind : (w v u : Violation) (vs : List Violation) → IsFirst (v ∷ vs) u → IsNoLaterThan v w → IsFirst (w ∷ v ∷ vs) u
behind w v u vs first h = record {
  there = Contains-append_right (w ∷ []) (v ∷ vs) u first.there;
  least = All-cons (IsNoLaterThan u) w (v ∷ vs) (later u v w (All-head (IsNoLaterThan u) v vs first.least) h)
      first.least;
}

-- and one more behind the one kept so far
after : (w v u : Violation) (vs : List Violation) → IsFirst (w ∷ vs) u → IsNoLaterThan w v → IsFirst (w ∷ v ∷ vs) u
after w v u vs first h = record {
  there = put w v u vs first.there;
  least = All-cons (IsNoLaterThan u) w (v ∷ vs) (All-head (IsNoLaterThan u) w vs first.least)
      (All-cons (IsNoLaterThan u) v vs (later u w v (All-head (IsNoLaterThan u) w vs first.least) h)
      (All-tail (IsNoLaterThan u) w vs first.least));
}
  where
    -- an element of the longer list
    put : (w v u : Violation) (vs : List Violation) → Contains (w ∷ vs) u → Contains (w ∷ v ∷ vs) u
    put w v u vs (zero, below, is) = (0, omega arith, is)
    put w v u vs (suc k, below, is) = (suc (suc k), omega arith, is)

-- what is kept over a list is its first
pub kept_first : (w : Violation) (vs : List Violation) (u : Violation) → fold sooner (Some w) vs ≡ Some u
    → IsFirst (w ∷ vs) u
kept_first w [] u h =
    let same : w ≡ u = cc in
    subst (IsFirst (w ∷ [])) same (record {
      there = (0, omega arith, refl);
      least = All-cons (IsNoLaterThan w) w [] (itself w) (All-nil (IsNoLaterThan w));
    })
kept_first w (v ∷ vs) u h = elim (cases_Bool (comes_before v w)) [
  | inl sooner_one ↦ behind w v u vs (kept_first v vs u (rw sooner_one at h))
      (earlier v.place.offset w.place.offset (rank_of v.rule) (rank_of w.rule) sooner_one)
  | inr later_one ↦ after w v u vs (kept_first w vs u (rw later_one at h))
      (not_earlier v.place.offset w.place.offset (rank_of v.rule) (rank_of w.rule) later_one)
]

-- the first violation that was found is the first
pub found_first : (vs : List Violation) (u : Violation) → fold sooner None vs ≡ Some u → IsFirst vs u
found_first [] u h = cc
found_first (v ∷ vs) u h = kept_first v vs u h

-- one that was kept stays or gives way to another
kept_some : (w : Violation) (vs : List Violation) → fold sooner (Some w) vs ≢ None
kept_some w [] h = cc
kept_some w (v ∷ vs) h = elim (cases_Bool (comes_before v w)) [
  | inl sooner_one ↦ kept_some v vs (rw sooner_one at h)
  | inr later_one ↦ kept_some w vs (rw later_one at h)
]

-- where none was found there is none
pub found_none : (vs : List Violation) → fold sooner None vs ≡ None → length vs ≡ 0
found_none [] h = refl
found_none (v ∷ vs) h = absurd (kept_some v vs h)

-- what is kept over two lists, one after the other
pub kept_over : (a b : Option Violation) (us vs : List Violation) → a ≡ fold sooner None us → b ≡ fold sooner a vs
    → b ≡ fold sooner None (us ++ vs)
kept_over a b us vs h k = k ∙ ap (λ (seen : Option Violation). fold sooner seen vs) h
    ∙ sym (fold-append sooner None us vs)

-- violations have a first, where there is one
pub first_of : (all : List Violation) → (length all ≡ 0) ⊎ ((v : Violation) × IsFirst all v)
first_of all = by (fold sooner None all) refl
  where
    by : (found : Option Violation) → fold sooner None all ≡ found
        → (length all ≡ 0) ⊎ ((v : Violation) × IsFirst all v)
    by None is = inl (found_none all is)
    by (Some v) is = inr (v, found_first all v is)
