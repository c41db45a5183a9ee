-- Under a true control value, or none, straight code does what the body does.
use Rattle.std.proofs.Common.{◌≡◌, ℕ, ◌+◌, ◌-◌, ◌<◌, true, false, ◌&&◌, ◌==◌, cond, List, [], ◌∷◌, Option, None}
use Rattle.std.proofs.Common.{Some, slice_set, refl, sym, ap, ap₂, ◌∙◌, subst, arith}
use Rattle.std.proofs.lemmas.Bool.{cond-true, cond_both, and_from, and_right, not_from_true, not_from_false}
use Rattle.branch_removal.specs.Below.{AreTyped, array, array_as, assign, branch, counter_type, declare, first}
use Rattle.branch_removal.specs.Below.{FlatBlock, FlatTree, FlatVariable, hold, IsTyped, Label, loop, nothing, Place}
use Rattle.branch_removal.specs.Below.{Public, put, Secret, skip, TermTree, Types, types_after, types_after_all}
use Rattle.branch_removal.specs.Below.{value_in, Values, with_type, with_value, word_as}
use Rattle.inline.specs.FlatMeaning as flat
use Rattle.branch_removal.specs.private.Removal.{take_within, removed, removed_all}
use Rattle.branch_removal.specs.Straight.{StraightBlock}
use Rattle.branch_removal.specs.StraightMeaning.{StraightState, holds, with_variable, with_element, value_at, counted}
use Rattle.branch_removal.specs.StraightMeaning.{after, after_all}
use Rattle.branch_removal.proofs.Agreement.{Sees, Agree, everything, set_in_both, declared_in_both}
use Rattle.branch_removal.proofs.Sequences.{after-chain}
use Rattle.branch_removal.proofs.Runs.{iterations_relate_from, first_control, second_control, controls_stay}
use Rattle.branch_removal.proofs.Runs.{controls_stay_all}
use Rattle.inline.proofs.Face.{types_kept}
use Rattle.branch_removal.proofs.Scopes.{stays_beside}
use Rattle.branch_removal.proofs.Unchanged.{switched_off, unchanged_all}
use Rattle.branch_removal.proofs.Values.{one_value, all_values}

-- the enclosing control value is no statement's own
abbrev pub IsBelow : Option ℕ → ℕ → Type 0
IsBelow None control = Unit {0}
IsBelow (Some c) control = c < control

-- it holds where it held, if the control values below a statement's own are as they were
pub still_holds : (within : Option ℕ) (control : ℕ) (s t : StraightState) → IsBelow within control
    → ((c : ℕ) → c < control → t.controls c ≡ s.controls c) → holds s within ≡ true → holds t within ≡ true
still_holds None control s t below same on = refl
still_holds (Some c) control s t below same on = same c below ∙ on

module _ (declared : List FlatVariable) where
  -- what agrees after an arm agrees on what was in scope before it
  pub narrowed : (sees : Sees) (types : Types) (label : Label) (body : FlatBlock) (m n : Values)
      → AreTyped declared types label body
      → Agree sees (types_after_all types body) m n → Agree sees types m n
  narrowed sees types label body m n typed agree y d known seen =
      agree y d (types_kept declared types label body typed y d known) seen

  same_assigned : (types : Types) (label : Label) (x : ℕ) (value : TermTree)
      → IsTyped declared types label (assign x value)
      → (s : StraightState) (m : Values) → Agree everything types s.variables m
      → Agree everything types (with_variable s x (value_at s value ∷ [])).variables (flat.after m (assign x value))
  same_assigned types label x value typed s m agree =
      set_in_both everything types s.variables m x (value_at s value ∷ []) (value_in m value ∷ []) _
      (λ seen. ap (λ (v : ℕ). v ∷ []) (one_value types s.variables m agree typed.suits.has_type)) agree typed.known

  same_put : (types : Types) (label : Label) (place : Place) (x size : ℕ) (index value : TermTree)
      → IsTyped declared types label (put place x size index value)
      → (s : StraightState) (m : Values) → Agree everything types s.variables m
      → Agree everything types (with_element s x (value_at s index) (value_at s value)).variables
      (flat.after m (put place x size index value))
  same_put types label place x size index value typed s m agree =
      set_in_both everything types s.variables m x
      (slice_set (s.variables x) (value_at s index) (value_at s value))
      (slice_set (m x) (value_in m index) (value_in m value)) _
      (λ seen.
      ap (λ numbers. slice_set numbers (value_at s index) (value_at s value)) (agree x _ typed.known tt)
      ∙ ap₂ (λ i v. slice_set (m x) i v) (one_value types s.variables m agree typed.index_type)
      (one_value types s.variables m agree typed.suits.has_type))
      agree typed.known

  mutual
    pub same : (types : Types) (label : Label) (statement : FlatTree) → IsTyped declared types label statement
        → (within : Option ℕ) (control : ℕ) → IsBelow within control → (s : StraightState) (m : Values)
        → holds s within ≡ true
        → Agree everything types s.variables m
        → Agree everything (types_after types statement) (after_all s (removed within control statement)).variables
        (flat.after m statement)
    same types label (declare x word mutable value) typed within control below s m on agree =
        declared_in_both everything types s.variables m x (value_at s value ∷ []) (value_in m value ∷ [])
        (word_as word mutable)
        (λ seen. ap (λ (v : ℕ). v ∷ []) (one_value types s.variables m agree typed.1.has_type)) agree
    same types label (array x word mutable size []) typed within control below s m on agree =
        declared_in_both everything types s.variables m x _ _ (array_as word mutable size) (λ seen. refl) agree
    same types label (array x word mutable size (e ∷ es)) typed within control below s m on agree =
        declared_in_both everything types s.variables m x _ _ (array_as word mutable size)
        (λ seen. all_values types s.variables m agree word (e ∷ es) typed.1) agree
    same types label (assign x value) typed within control below s m on agree =
        subst (λ (t : StraightState). Agree everything types t.variables (flat.after m (assign x value)))
        (sym (cond-true (holds s within) (with_variable s x (value_at s value ∷ [])) s on))
        (same_assigned types label x value typed s m agree)
    same types label (put place x size index value) typed within control below s m on agree =
        subst (λ (t : StraightState). Agree everything types t.variables
        (flat.after m (put place x size index value)))
        (sym
        (cond-true (holds s within)
        (with_variable s x (slice_set (s.variables x) (value_at s index) (value_at s value))) s on))
        (same_put types label place x size index value typed s m agree)
    same types label (hold x place size index) typed within control below s m on agree =
        declared_in_both everything types s.variables m x (value_at s index ∷ []) (value_in m index ∷ [])
        (word_as counter_type false)
        (λ seen. ap (λ (v : ℕ). v ∷ []) (one_value types s.variables m agree typed.1)) agree
    same types label skip typed within control below s m on agree = agree
    same types label (branch Secret condition accepted otherwise) typed within control below s m on agree =
        let taken : StraightState = after s (take_within within control condition) in
        let code : StraightBlock = removed_all (Some control) (control + 2) accepted in
        let other : StraightBlock = removed_all (Some (control + 1)) (control + 2) otherwise in
        let between : StraightState = after_all taken code in
        let value : value_in s.variables condition ≡ value_in m condition =
        one_value types s.variables m agree typed.0 in
        let other_control : between.controls (control + 1)
        ≡ (holds s within && (value_in s.variables condition == 0)) =
        controls_stay_all (Some control) (control + 2) accepted taken (control + 1) (omega arith)
        ∙ second_control s control _ _ in
        subst (λ (t : StraightState). Agree everything types t.variables
        (flat.after m (branch Secret condition accepted otherwise))) (sym (after-chain taken code other))
        (cond_both (value_in m condition == 0) (flat.after_all m otherwise) (flat.after_all m accepted)
        (Agree everything types (after_all between other).variables)
        (λ zero. narrowed everything types Secret otherwise _ _ typed.2
        (same_all types Secret otherwise typed.2 (Some (control + 1)) (control + 2) (omega arith) between m
        (other_control ∙ and_from (holds s within) _ on (ap (λ v. v == 0) value ∙ zero))
        (λ y d known seen.
        unchanged_all declared everything types Secret accepted typed.1 (Some control) (control + 2) taken
        (switched_off (omega arith) (first_control s control _ _
        ∙ and_right (holds s within) _ (not_from_true _ (ap (λ v. v == 0) value ∙ zero)))) y d known seen
        ∙ agree y d known seen)))
        (λ nonzero. λ y d known seen.
        unchanged_all declared everything types Secret otherwise typed.2 (Some (control + 1)) (control + 2) between
        (switched_off (omega arith) (other_control ∙ and_right (holds s within) _ (ap (λ v. v == 0) value ∙ nonzero)))
        y d known seen
        ∙ narrowed everything types Secret accepted between.variables (flat.after_all m accepted) typed.1
        (same_all types Secret accepted typed.1 (Some control) (control + 2) (omega arith) taken m
        (first_control s control _ _
        ∙ and_from (holds s within) _ on (not_from_false _ (ap (λ v. v == 0) value ∙ nonzero)))
        agree) y d known seen))
    same types label (branch Public condition accepted otherwise) typed within control below s m on agree =
        subst (λ v. Agree everything types
        (after_all s (removed within control (branch Public condition accepted otherwise))).variables
        (cond (v == 0) (flat.after_all m otherwise) (flat.after_all m accepted)))
        (one_value types s.variables m agree typed.0)
        (elim (value_at s condition == 0) as (λ b. Agree everything types
        (cond b (after_all s (removed_all within control otherwise))
        (after_all s (removed_all within control accepted))).variables
        (cond b (flat.after_all m otherwise) (flat.after_all m accepted))) [
          | true ↦ narrowed everything types label otherwise _ _ typed.2
              (same_all types label otherwise typed.2 within control below s m on agree)
          | false ↦ narrowed everything types label accepted _ _ typed.1
              (same_all types label accepted typed.1 within control below s m on agree)
        ])
    same types label (loop x low high body) typed within control below s m on agree =
        let low_value = one_value types s.variables m agree typed.0 in
        let high_value = one_value types s.variables m agree typed.1 in
        let counter : FlatVariable = word_as counter_type false in
        (iterations_relate_from (λ (t : StraightState) (n : Values). (holds t within ≡ true)
        × Agree everything types t.variables n)
        (λ i t. after_all (counted x i t) (removed_all within control body))
        (λ i n. flat.after_all (with_value n x (i ∷ [])) body)
        (λ i t n so_far.
        let on_counted = still_holds within control t (counted x i t) below (λ c under. refl) so_far.0 in (
          still_holds within control (counted x i t) (after_all (counted x i t) (removed_all within control body))
              below (λ c under. controls_stay_all within control body (counted x i t) c under) on_counted,
          λ y d known seen.
              narrowed everything (with_type types x counter) label body _ _ typed.3
              (same_all (with_type types x counter) label body typed.3 within control below (counted x i t)
              (with_value n x (i ∷ [])) on_counted
              (declared_in_both everything types t.variables n x (i ∷ []) (i ∷ []) counter (λ seen. refl) so_far.1))
              y d (stays_beside types x counter typed.2.new y d known) seen,
        ))
        _ _ _ _ (ap₂ (λ a b. a - b) high_value low_value) low_value s m (on, agree)).1

    pub same_all : (types : Types) (label : Label) (body : FlatBlock) → AreTyped declared types label body
        → (within : Option ℕ) (control : ℕ) → IsBelow within control → (s : StraightState) (m : Values)
        → holds s within ≡ true
        → Agree everything types s.variables m
        → Agree everything (types_after_all types body) (after_all s (removed_all within control body)).variables
        (flat.after_all m body)
    same_all types label nothing typed within control below s m on agree = agree
    same_all types label (first statement rest) typed within control below s m on agree =
        rw (sym (after-chain s (removed within control statement) (removed_all within control rest))) at
        (same_all (types_after types statement) label rest typed.1 within control below
        (after_all s (removed within control statement)) (flat.after m statement)
        (still_holds within control s (after_all s (removed within control statement)) below
        (λ c under. controls_stay within control statement s c under) on)
        (same types label statement typed.0 within control below s m on agree))
