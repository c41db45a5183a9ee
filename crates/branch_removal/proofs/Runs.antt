-- Runs of straight code one after the other, iterations of loops, and the control values that statements leave alone.
use Rattle.std.proofs.Common.{◌≡◌, ℕ, zero, suc, ◌+◌, ◌-◌, ◌<◌, ◌==◌, Bool, true, false, cond, List, [], ◌∷◌}
use Rattle.std.proofs.Common.{Option, Some, slice_set, refl, ap, ◌∙◌, subst, arith}
use Rattle.std.proofs.lemmas.Bool.{cond-false, cond-true, cond_both, ne_eqb, eq-eqb}
use Rattle.inline.proofs.Face.{iterations_keep}
use Rattle.branch_removal.specs.Below.{assign, branch, first, FlatBlock, FlatTree, loop, nothing, Public, put, Secret}
use Rattle.branch_removal.specs.Below.{iterations}
use Rattle.branch_removal.specs.private.Removal.{take_within, removed, removed_all}
use Rattle.branch_removal.specs.Straight.{StraightBlock}
use Rattle.branch_removal.specs.StraightMeaning.{StraightState, holds, with_variable, with_controls, value_at, counted}
use Rattle.branch_removal.specs.StraightMeaning.{after, after_all}
use Rattle.branch_removal.proofs.Sequences.{after-chain}

-- Iterations.

-- what each iteration of two loops keeps, both loops keep
pub iterations_relate : {S T : Type 0} (R : S → T → Type 0) (f : ℕ → S → S) (g : ℕ → T → T)
    → ((i : ℕ) (s : S) (t : T) → R s t → R (f i s) (g i t))
    → (n i : ℕ) (s : S) (t : T) → R s t → R (iterations n i f s) (iterations n i g t)
iterations_relate R f g keep zero i s t r = r
iterations_relate R f g keep (suc n) i s t r = iterations_relate R f g keep n (i + 1) (f i s) (g i t) (keep i s t r)

-- also where they make as many iterations, from the same number on
pub iterations_relate_from : {S T : Type 0} (R : S → T → Type 0) (f : ℕ → S → S) (g : ℕ → T → T)
    → ((i : ℕ) (s : S) (t : T) → R s t → R (f i s) (g i t))
    → (n k i j : ℕ) → n ≡ k → i ≡ j → (s : S) (t : T) → R s t → R (iterations n i f s) (iterations k j g t)
iterations_relate_from R f g keep n k i j many from s t r =
    subst (λ l. R (iterations n i f s) (iterations l j g t)) many
    (subst (λ l. R (iterations n i f s) (iterations n l g t)) from (iterations_relate R f g keep n i s t r))

-- Control values.

-- both control values of a condition, and those below them
pub first_control : (s : StraightState) (control : ℕ) (a b : Bool)
    → (with_controls s control a b).controls control ≡ a
first_control s control a b = cond-true (control == control) a _ (eq-eqb control control refl)

pub second_control : (s : StraightState) (control : ℕ) (a b : Bool)
    → (with_controls s control a b).controls (control + 1) ≡ b
second_control s control a b =
    cond-false (control + 1 == control) a _ (ne_eqb (control + 1) control (λ e. omega arith))
    ∙ cond-true (control + 1 == control + 1) b (s.controls (control + 1)) (eq-eqb (control + 1) (control + 1) refl)

pub lower_control : (s : StraightState) (control : ℕ) (a b : Bool) (c : ℕ) → c < control
    → (with_controls s control a b).controls c ≡ s.controls c
lower_control s control a b c below =
    cond-false (c == control) a _ (ne_eqb c control (λ e. omega arith))
    ∙ cond-false (c == control + 1) b (s.controls c) (ne_eqb c (control + 1) (λ e. omega arith))

under_controls : (b : Bool) (s : StraightState) (x : ℕ) (v : List ℕ)
    → (cond b (with_variable s x v) s).controls ≡ s.controls
under_controls true s x v = refl
under_controls false s x v = refl

mutual
  -- a statement takes no control value below its own
  pub controls_stay : (within : Option ℕ) (control : ℕ) (statement : FlatTree) (s : StraightState) (c : ℕ)
      → c < control
      → (after_all s (removed within control statement)).controls c ≡ s.controls c
  controls_stay within control (assign x value) s c below =
      ap (λ (controls : ℕ → Bool). controls c) (under_controls (holds s within) s x (value_at s value ∷ []))
  controls_stay within control (put place x size index value) s c below =
      ap (λ (controls : ℕ → Bool). controls c)
      (under_controls (holds s within) s x (slice_set (s.variables x) (value_at s index) (value_at s value)))
  controls_stay within control (branch Secret condition accepted otherwise) s c below =
      let taken : StraightState = after s (take_within within control condition) in
      let code : StraightBlock = removed_all (Some control) (control + 2) accepted in
      ap (λ (t : StraightState). t.controls c)
      (after-chain taken code (removed_all (Some (control + 1)) (control + 2) otherwise))
      ∙ (controls_stay_all (Some (control + 1)) (control + 2) otherwise (after_all taken code) c (omega arith)
      ∙ (controls_stay_all (Some control) (control + 2) accepted taken c (omega arith)
      ∙ lower_control s control _ _ c below))
  controls_stay within control (branch Public condition accepted otherwise) s c below =
      cond_both (value_at s condition == 0) (after_all s (removed_all within control otherwise))
      (after_all s (removed_all within control accepted)) (λ (t : StraightState). t.controls c ≡ s.controls c)
      (λ zero. controls_stay_all within control otherwise s c below)
      (λ nonzero. controls_stay_all within control accepted s c below)
  controls_stay within control (loop x low high body) s c below =
      iterations_keep (λ (t : StraightState). t.controls c ≡ s.controls c)
      (λ i t. after_all (counted x i t) (removed_all within control body)) (value_at s high)
      (λ i t few same. controls_stay_all within control body (counted x i t) c below ∙ same)
      (value_at s high - value_at s low) (value_at s low) s refl refl
  controls_stay within control other s c below = refl

  pub controls_stay_all : (within : Option ℕ) (control : ℕ) (body : FlatBlock) (s : StraightState) (c : ℕ)
      → c < control
      → (after_all s (removed_all within control body)).controls c ≡ s.controls c
  controls_stay_all within control nothing s c below = refl
  controls_stay_all within control (first statement rest) s c below =
      ap (λ (t : StraightState). t.controls c)
      (after-chain s (removed within control statement) (removed_all within control rest))
      ∙ (controls_stay_all within control rest (after_all s (removed within control statement)) c below
      ∙ controls_stay within control statement s c below)
