-- Two runs of well-typed straight code that sets only what is secret under a control value: what is public is the
-- same in both throughout, and so is what is seen of the path.
use Rattle.std.proofs.Common.{◌≡◌, ℕ, zero, suc, ◌+◌, ◌-◌, ◌==◌, cond, List, [], ◌∷◌, ◌++◌, Option, None, Some}
use Rattle.std.proofs.Common.{inl, inr, slice_set, slice_get, refl, sym, ap, ap₂, ◌∙◌}
use Rattle.std.proofs.lemmas.Bool.{cases_Bool}
use Rattle.branch_removal.specs.Below.{AllSuit, array_as, Boolean, bounded, decided, FlatVariable, TermHasType, indexed}
use Rattle.branch_removal.specs.Below.{labelled, Path, path_in, path_of_iterations, Profile, Public, Secret, seen}
use Rattle.branch_removal.specs.Below.{TermTree, iterations, Types, types_of, WordType}
use Rattle.branch_removal.specs.Straight.{StraightTree, set, array, put, take, branch}
use Rattle.branch_removal.specs.Straight.{repeats, StraightBlock, nothing, first}
use Rattle.branch_removal.specs.StraightMeaning.{StraightState, holds, with_variable, value_at, counted, after}
use Rattle.branch_removal.specs.StraightMeaning.{after_all, path_at, path_along}
use Rattle.branch_removal.specs.StraightTyping.{IsTyped, AreTyped, IsElementSet, types_but, IsSecretWithin, IsHidden}
use Rattle.branch_removal.specs.StraightTyping.{AreHidden}
use Rattle.branch_removal.proofs.Scopes.{but_among, suit_among}
use Rattle.branch_removal.proofs.Agreement.{Agree, what_is_public, set_in_both}
use Rattle.branch_removal.proofs.SeenLemmas.{both_seen}
use Rattle.branch_removal.proofs.Unchanged.{hidden, set_quietly}
use Rattle.branch_removal.proofs.Values.{public_value, public_suited, public_all, one_seen, all_seen}

fill_suits : (profile : Profile) (declared : List FlatVariable) (x : ℕ) (word : WordType) (values : List TermTree)
    → AllSuit (types_but profile declared x) word values → AllSuit (types_of profile declared) word values
fill_suits profile declared x word values suits =
    suit_among (types_but profile declared x) (types_of profile declared) (but_among profile declared x) word
    values suits

module _ (profile : Profile) (declared : List FlatVariable) (controls : ℕ) where
  abbrev all : Types
  all = types_of profile declared

  -- what is public is the same in both
  abbrev pub InStep : StraightState → StraightState → Type 0
  InStep s t = Agree what_is_public all s.variables t.variables

  -- so it is where two runs have come to, and the same is seen of their paths
  pub record Alike (s t : StraightState) (p q : Path) : Type 0 where
    pub state : InStep s t
    pub shown : seen profile p ≡ seen profile q

  -- one part and another behind it
  both_alike : {s t u v : StraightState} (a b c d : Path) → Alike s t a c → Alike u v b d
      → Alike u v (a ++ b) (c ++ d)
  both_alike a b c d one other =
      record { state = other.state; shown = both_seen profile a b c d one.shown other.shown }

  -- iterations of which each keeps both in step
  iterations_alike : (iteration : ℕ → StraightState → StraightState) (along : ℕ → StraightState → Path)
      → ((i : ℕ) (s t : StraightState) → InStep s t → Alike (iteration i s) (iteration i t) (along i s) (along i t))
      → (n i : ℕ) (s t : StraightState) → InStep s t
      → Alike (iterations n i iteration s) (iterations n i iteration t) (path_of_iterations n i iteration along s)
      (path_of_iterations n i iteration along t)
  iterations_alike iteration along each zero i s t agree = record { state = agree; shown = refl }
  iterations_alike iteration along each (suc n) i s t agree =
      let one = each i s t agree in
      both_alike (along i s) _ (along i t) _ one
      (iterations_alike iteration along each n (i + 1) (iteration i s) (iteration i t) one.state)

  module _ (s t : StraightState) (agree : InStep s t) where
    value : {e : TermTree} {word : WordType} → TermHasType all e word → word.label ≡ Public
        → value_at s e ≡ value_at t e
    value has public = public_value all s.variables t.variables agree has public

    term_alike : {e : TermTree} {word : WordType} → TermHasType all e word
        → Alike s t (path_in s.variables e) (path_in t.variables e)
    term_alike has = record { state = agree; shown = one_seen all s.variables t.variables agree has }

    set_both : (x : ℕ) (v w : List ℕ) (new : FlatVariable) → slice_get declared x ≡ Some new
        → (what_is_public new → v ≡ w) → InStep (with_variable s x v) (with_variable t x w)
    set_both x v w new known equal = set_in_both what_is_public all s.variables t.variables x v w new equal agree known

    -- what is secret is set in one of them, or in both, or in none
    set_within : (within : Option ℕ) (x : ℕ) (v w : List ℕ) (new : FlatVariable) → slice_get declared x ≡ Some new
        → IsSecretWithin declared within x → (what_is_public new → v ≡ w)
        → InStep (cond (holds s within) (with_variable s x v) s) (cond (holds t within) (with_variable t x w) t)
    set_within None x v w new known secret equal = set_both x v w new known equal
    set_within (Some c) x v w new known secret equal = λ y d there public.
        set_quietly what_is_public all Secret (Some c) 0 s x v new known (λ _. secret new known)
        (hidden refl (λ e p. p)) y d there public
        ∙ (agree y d there public
        ∙ sym (set_quietly what_is_public all Secret (Some c) 0 t x w new known (λ _. secret new known)
        (hidden refl (λ e p. p)) y d there public))

    -- an element of a public array
    put_equal : (x size : ℕ) (index value : TermTree) (is : IsElementSet profile declared x size index value)
        → what_is_public (array_as is.word is.mutable size)
        → slice_set (s.variables x) (value_at s index) (value_at s value)
        ≡ slice_set (t.variables x) (value_at t index) (value_at t value)
    put_equal x size index value is public =
        ap (λ numbers. slice_set numbers (value_at s index) (value_at s value)) (agree x _ is.known public)
        ∙ ap₂ (λ i v. slice_set (t.variables x) i v)
        (public_value all s.variables t.variables agree is.index_type refl)
        (public_suited all s.variables t.variables agree is.word value is.suits public)

    -- of two arms both take the same
    branch_alike : (condition : TermTree) (accepted otherwise : StraightBlock)
        → TermHasType all condition (labelled Boolean Public)
        → Alike (after_all s accepted) (after_all t accepted) (path_along s accepted) (path_along t accepted)
        → Alike (after_all s otherwise) (after_all t otherwise) (path_along s otherwise) (path_along t otherwise)
        → Alike (after s (branch condition accepted otherwise)) (after t (branch condition accepted otherwise))
        (path_at s (branch condition accepted otherwise)) (path_at t (branch condition accepted otherwise))
    branch_alike condition accepted otherwise has one other =
        let v = value_at t condition in
        let arm = λ (u w : StraightState) (p q : Path) (alike : Alike u w p q).
        both_alike {u = u} {v = w} (path_in s.variables condition) (decided v ∷ p) (path_in t.variables condition)
        (decided v ∷ q)
        (term_alike has) (record { state = alike.state; shown = ap (λ (p : Path). decided v ∷ p) alike.shown }) in
        elim (cases_Bool (v == 0)) [
          | inl unmet ↦ rw (value has refl, unmet) (arm _ _ _ _ other)
          | inr met ↦ rw (value has refl, met) (arm _ _ _ _ one)
        ]

  mutual
    pub in_step : (statement : StraightTree) → IsTyped profile declared controls statement
        → IsHidden declared statement → (s t : StraightState) → InStep s t
        → Alike (after s statement) (after t statement) (path_at s statement) (path_at t statement)
    in_step (set within x value) is apart s t agree = record {
      state = set_within s t agree within x _ _ _ is.1.known apart (λ public. ap (λ (v : ℕ). v ∷ [])
          (public_suited all s.variables t.variables agree is.1.word value is.1.suits public));
      shown = (term_alike s t agree is.1.suits.has_type).shown;
    }
    in_step (array x size []) is apart s t agree =
        record { state = set_both s t agree x _ _ _ is.known (λ public. refl); shown = refl }
    in_step (array x size (e ∷ es)) is apart s t agree =
        let suits = fill_suits profile declared x is.word (e ∷ es) is.suit in
        record {
          state = set_both s t agree x _ _ _ is.known
              (λ public. public_all all s.variables t.variables agree is.word (e ∷ es) suits public);
          shown = all_seen all s.variables t.variables agree is.word (e ∷ es) suits;
        }
    in_step (put within place x size index value) is apart s t agree = record {
      state = set_within s t agree within x _ _ _ is.1.known apart (put_equal s t agree x size index value is.1);
      shown = both_seen profile
          (path_in s.variables index) (indexed place size (value_at s index) ∷ path_in s.variables value)
          (path_in t.variables index) (indexed place size (value_at t index) ∷ path_in t.variables value)
          (term_alike s t agree is.1.index_type).shown
          (ap₂ (λ (i : ℕ) (p : Path). indexed place size i ∷ p)
          (public_value all s.variables t.variables agree is.1.index_type refl)
          (term_alike s t agree is.1.suits.has_type).shown);
    }
    in_step (take control within condition) is apart s t agree =
        record { state = agree; shown = (term_alike s t agree is.2.1).shown }
    in_step (branch condition accepted otherwise) is apart s t agree =
        branch_alike s t agree condition accepted otherwise is.0 (in_step_all accepted is.1 apart.0 s t agree)
        (in_step_all otherwise is.2 apart.1 s t agree)
    in_step (repeats x low high body) is apart s t agree =
        let iteration : ℕ → StraightState → StraightState = λ i u. after_all (counted x i u) body in
        let along : ℕ → StraightState → Path = λ i u. path_along (counted x i u) body in
        let from = value_at t low in
        let to = value_at t high in
        let run = iterations_alike iteration along
        (λ i u v so_far. in_step_all body is.3 apart (counted x i u) (counted x i v)
        (set_both u v so_far x (i ∷ []) (i ∷ []) _ is.2 (λ public. refl))) (to - from) from s t agree in
        rw (value s t agree is.0 refl, value s t agree is.1 refl)
        (both_alike (path_in s.variables low ++ path_in s.variables high)
        (bounded x from to ∷ path_of_iterations (to - from) from iteration along s)
        (path_in t.variables low ++ path_in t.variables high)
        (bounded x from to ∷ path_of_iterations (to - from) from iteration along t)
        (both_alike (path_in s.variables low) (path_in s.variables high) (path_in t.variables low)
        (path_in t.variables high) (term_alike s t agree is.0) (term_alike s t agree is.1))
        (record { state = run.state; shown = ap (λ (p : Path). bounded x from to ∷ p) run.shown }))

    pub in_step_all : (body : StraightBlock) → AreTyped profile declared controls body → AreHidden declared body
        → (s t : StraightState) → InStep s t
        → Alike (after_all s body) (after_all t body) (path_along s body) (path_along t body)
    in_step_all nothing is apart s t agree = record { state = agree; shown = refl }
    in_step_all (first statement rest) is apart s t agree =
        let one = in_step statement is.0 apart.0 s t agree in
        both_alike (path_at s statement) (path_along (after s statement) rest) (path_at t statement)
        (path_along (after t statement) rest) one
        (in_step_all rest is.1 apart.1 (after s statement) (after t statement) one.state)
