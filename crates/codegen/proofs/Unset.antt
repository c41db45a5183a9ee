-- A variable that statements do not set holds behind them what it held before.
use Rattle.std.proofs.Common.{◌≡◌, ℕ, zero, suc, ◌+◌, ◌-◌, ◌==◌, Bool, true, false, cond, if◌then◌else◌, List, [], ◌∷◌}
use Rattle.std.proofs.Common.{refl, sym, ap, ◌∙◌}
use Rattle.std.proofs.lemmas.Bool.{cond_both, eqb-false, ne_eqb, or_parts}
use Rattle.codegen.proofs.Language.{StraightTree, set, array, put, take, branch, repeats, StraightBlock, nothing, first}
use Rattle.codegen.proofs.Language.{StraightState, with_variable, counted, after, after_all, holds, iterations}
use Rattle.codegen.proofs.Language.{value_in, Values}
use Rattle.codegen.specs.private.Loops.{any_sets, sets}
use Rattle.codegen.specs.Below.{with_value}

beside : (m : Values) (x y : ℕ) (l : List ℕ) → (x == y) ≡ false → with_value m x l y ≡ m y
beside m x y l apart = ap (λ b. cond b l (m y)) (ne_eqb y x (λ e. eqb-false x y apart (sym e)))

beside_under : (b : Bool) (s : StraightState) (x y : ℕ) (l : List ℕ) → (x == y) ≡ false
    → (if b then with_variable s x l else s).variables y ≡ s.variables y
beside_under true s x y l apart = beside s.variables x y l apart
beside_under false s x y l apart = refl

iterations_keep : (iteration : ℕ → StraightState → StraightState) (y : ℕ)
    → ((i : ℕ) (s : StraightState) → (iteration i s).variables y ≡ s.variables y)
    → (n i : ℕ) (s : StraightState) → (iterations n i iteration s).variables y ≡ s.variables y
iterations_keep iteration y keep zero i s = refl
iterations_keep iteration y keep (suc n) i s = iterations_keep iteration y keep n (i + 1) (iteration i s) ∙ keep i s

mutual
  left_alone : (statement : StraightTree) (y : ℕ) → sets y statement ≡ false → (s : StraightState)
      → (after s statement).variables y ≡ s.variables y
  left_alone (set within x value) y unset s = beside_under (holds s within) s x y _ unset
  left_alone (array x size values) y unset s = beside s.variables x y _ unset
  left_alone (put within place x size index value) y unset s = beside_under (holds s within) s x y _ unset
  left_alone (take control within condition) y unset s = refl
  left_alone (branch condition accepted otherwise) y unset s =
      cond_both (value_in s.variables condition == 0) (after_all s otherwise) (after_all s accepted)
      (λ (t : StraightState). t.variables y ≡ s.variables y)
      (λ none. all_left_alone otherwise y (or_parts _ _ unset).1 s)
      (λ some. all_left_alone accepted y (or_parts _ _ unset).0 s)
  left_alone (repeats x low high body) y unset s =
      iterations_keep (λ i t. after_all (counted x i t) body) y
      (λ i t. all_left_alone body y (or_parts _ _ unset).1 (counted x i t)
      ∙ beside t.variables x y (i ∷ []) (or_parts _ _ unset).0)
      (value_in s.variables high - value_in s.variables low) (value_in s.variables low) s

  pub all_left_alone : (body : StraightBlock) (y : ℕ) → any_sets y body ≡ false → (s : StraightState)
      → (after_all s body).variables y ≡ s.variables y
  all_left_alone nothing y unset s = refl
  all_left_alone (first statement rest) y unset s =
      all_left_alone rest y (or_parts _ _ unset).1 (after s statement)
      ∙ left_alone statement y (or_parts _ _ unset).0 s
