-- Two states that hold the same in those variables in scope that are looked at.
use Rattle.std.proofs.Common.{◌≡◌, ℕ, ◌==◌, List, Some, inl, inr, sym, ap, ◌∙◌, subst}
use Rattle.std.proofs.lemmas.Bool.{cases_Bool, eqb-true}
use Rattle.std.proofs.lemmas.Option.{same_Some}
use Rattle.branch_removal.specs.Below.{FlatVariable, Public, Types, Values, with_type, with_value}

-- which variables are looked at
abbrev pub Sees : Type 1
Sees = FlatVariable → Type 0

abbrev pub everything : Sees
everything d = Unit {0}

abbrev pub what_is_public : Sees
what_is_public d = d.word.label ≡ Public

abbrev pub Agree : Sees → Types → Values → Values → Type 0
Agree sees types m n = (y : ℕ) (d : FlatVariable) → types.at y ≡ Some d → sees d → m y ≡ n y

module _ (sees : Sees) (types : Types) (m n : Values) (x : ℕ) (v w : List ℕ) (new : FlatVariable) (equal : sees new
    → v ≡ w) (agree : Agree sees types m n) where
  -- the same is put into a variable that is in scope
  pub set_in_both : types.at x ≡ Some new → Agree sees types (with_value m x v) (with_value n x w)
  set_in_both there y d known seen = elim (cases_Bool (y == x)) [
    | inl same ↦ rw same
        (equal (subst sees (same_Some d new (sym known ∙ (ap types.at (eqb-true y x same) ∙ there))) seen))
    | inr other ↦ rw other (agree y d known seen)
  ]

  -- the same is the first value of a variable
  pub declared_in_both : Agree sees (with_type types x new) (with_value m x v) (with_value n x w)
  declared_in_both y d known seen = elim (cases_Bool (y == x)) [
    | inl same ↦ rw same (equal (subst sees (sym (same_Some new d (rw same at known))) seen))
    | inr other ↦ rw other (agree y d (rw other at known) seen)
  ]
