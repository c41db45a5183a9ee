-- What an arm leaves alone: under a false control value all that is in scope before it, and under a secret condition
-- all that is public, whatever the control value.
use Rattle.std.proofs.Common.{◌≡◌, ℕ, ◌+◌, ◌-◌, ◌<◌, ◌==◌, false, cond, List, [], ◌∷◌, Option, Some}
use Rattle.std.proofs.Common.{slice_set, refl, sym, ap, ◌∙◌, arith}
use Rattle.std.proofs.lemmas.Bool.{cond-false, cond_both, false_from_ne_true, eqb-true, and_left}
use Rattle.std.proofs.lemmas.Option.{same_Some}
use Rattle.branch_removal.specs.Below.{AreTyped, array, assign, branch, counter_type, declare, first, FlatBlock}
use Rattle.branch_removal.specs.Below.{FlatTree, FlatVariable, hold, IsTyped, Label, loop, nothing, Public, put, Secret}
use Rattle.branch_removal.specs.Below.{skip, TermTree, Types, types_after, with_type, word_as}
use Rattle.branch_removal.specs.private.Removal.{take_within, removed, removed_all}
use Rattle.branch_removal.specs.Straight.{StraightBlock}
use Rattle.branch_removal.specs.StraightMeaning.{StraightState, holds, with_variable, value_at, counted, after}
use Rattle.branch_removal.specs.StraightMeaning.{after_all}
use Rattle.branch_removal.proofs.Agreement.{Sees, Agree, what_is_public}
use Rattle.branch_removal.proofs.Sequences.{after-chain}
use Rattle.branch_removal.proofs.Runs.{first_control, second_control, controls_stay}
use Rattle.branch_removal.proofs.Runs.{controls_stay_all}
use Rattle.branch_removal.proofs.Scopes.{apart, stays_beside}
use Rattle.inline.proofs.Face.{iterations_keep, type_kept}
use Rattle.branch_removal.proofs.Values.{secret≢public}

-- why nothing that is looked at changes: the enclosing control value is false, or only what is public is looked at
-- and the condition is secret
pub data Quiet (sees : Sees) (label : Label) : Option ℕ → ℕ → StraightState → Type 0 where
  switched_off : {c control : ℕ} {s : StraightState} → c < control → s.controls c ≡ false
      → Quiet sees label (Some c) control s
  hidden : {within : Option ℕ} {control : ℕ} {s : StraightState} → label ≡ Secret
      → ((d : FlatVariable) → sees d → what_is_public d) → Quiet sees label within control s

-- control values below a statement's own decide
pub quiet_after : (sees : Sees) (label : Label) (within : Option ℕ) (control : ℕ) (s t : StraightState)
    → ((c : ℕ) → c < control → t.controls c ≡ s.controls c) → Quiet sees label within control s
    → Quiet sees label within control t
quiet_after sees label within control s t same (switched_off {c = c} below off) =
    switched_off below (same c below ∙ off)
quiet_after sees label within control s t same (hidden secret public) = hidden secret public

-- of the arms of a branch on a secret
quiet_first : (sees : Sees) (label : Label) (within : Option ℕ) (control : ℕ) (condition : TermTree)
    (s : StraightState)
    → Quiet sees label within control s
    → Quiet sees Secret (Some control) (control + 2) (after s (take_within within control condition))
quiet_first sees label within control condition s (switched_off {c = c} below off) =
    switched_off (omega arith) (first_control s control _ _ ∙ and_left (s.controls c) _ off)
quiet_first sees label within control condition s (hidden secret public) = hidden refl public

quiet_second : (sees : Sees) (label : Label) (within : Option ℕ) (control : ℕ) (condition : TermTree)
    (accepted : FlatBlock) (s : StraightState)
    → Quiet sees label within control s
    → Quiet sees Secret (Some (control + 1)) (control + 2)
    (after_all (after s (take_within within control condition))
    (removed_all (Some control) (control + 2) accepted))
quiet_second sees label within control condition accepted s (switched_off {c = c} below off) =
    switched_off (omega arith)
    (controls_stay_all (Some control) (control + 2) accepted (after s (take_within within control condition))
    (control + 1) (omega arith)
    ∙ (second_control s control _ _ ∙ and_left (s.controls c) _ off))
quiet_second sees label within control condition accepted s (hidden secret public) = hidden refl public

-- a variable that is set under a false control value, or is secret
pub set_quietly : (sees : Sees) (types : Types) (label : Label) (within : Option ℕ) (control : ℕ) (s : StraightState)
    (x : ℕ) (v : List ℕ) (new : FlatVariable)
    → types.at x ≡ Some new → (label ≡ Secret → new.word.label ≡ Secret) → Quiet sees label within control s
    → Agree sees types (cond (holds s within) (with_variable s x v) s).variables s.variables
set_quietly sees types label within control s x v new known secret (switched_off {c = c} below off) y d there seen =
    ap (λ (t : StraightState). t.variables y) (cond-false (s.controls c) (with_variable s x v) s off)
set_quietly sees types label within control s x v new known secret (hidden is public) y d there seen =
    let other : (y == x) ≡ false = false_from_ne_true (y == x) (λ equal.
    let one : d ≡ new = same_Some d new (sym there ∙ (ap types.at (eqb-true y x equal) ∙ known)) in
    secret≢public (sym (secret is) ∙ (ap (λ (e : FlatVariable). e.word.label) (sym one) ∙ public d seen))) in
    cond_both (holds s within) (with_variable s x v) s (λ (t : StraightState). t.variables y ≡ s.variables y)
    (λ set. cond-false (y == x) v (s.variables y) other) (λ kept. refl)

module _ (declared : List FlatVariable) (sees : Sees) where
  mutual
    pub unchanged : (types : Types) (label : Label) (statement : FlatTree) → IsTyped declared types label statement
        → (within : Option ℕ) (control : ℕ) (s : StraightState) → Quiet sees label within control s
        → Agree sees types (after_all s (removed within control statement)).variables s.variables
    unchanged types label (declare x word mutable value) typed within control s quiet y d known seen =
        cond-false (y == x) (value_at s value ∷ []) (s.variables y) (apart types x y d typed.0.new known)
    unchanged types label (array x word mutable size values) typed within control s quiet y d known seen =
        cond-false (y == x) _ (s.variables y) (apart types x y d typed.0.new known)
    unchanged types label (assign x value) typed within control s quiet y d known seen =
        set_quietly sees types label within control s x (value_at s value ∷ []) _ typed.known typed.hidden quiet y
        d known seen
    unchanged types label (put place x size index value) typed within control s quiet y d known seen =
        set_quietly sees types label within control s x
        (slice_set (s.variables x) (value_at s index) (value_at s value)) _ typed.known typed.hidden quiet y
        d known seen
    unchanged types label (hold x place size index) typed within control s quiet y d known seen =
        cond-false (y == x) (value_at s index ∷ []) (s.variables y) (apart types x y d typed.0.new known)
    unchanged types label skip typed within control s quiet y d known seen = refl
    unchanged types label (branch Secret condition accepted otherwise) typed within control s quiet y d known seen =
        let taken : StraightState = after s (take_within within control condition) in
        let code : StraightBlock = removed_all (Some control) (control + 2) accepted in
        ap (λ (t : StraightState). t.variables y)
        (after-chain taken code (removed_all (Some (control + 1)) (control + 2) otherwise))
        ∙ (unchanged_all types Secret otherwise typed.2 (Some (control + 1)) (control + 2) (after_all taken code)
        (quiet_second sees label within control condition accepted s quiet) y d known seen
        ∙ unchanged_all types Secret accepted typed.1 (Some control) (control + 2) taken
        (quiet_first sees label within control condition s quiet) y d known seen)
    unchanged types label (branch Public condition accepted otherwise) typed within control s quiet y d known seen =
        cond_both (value_at s condition == 0) (after_all s (removed_all within control otherwise))
        (after_all s (removed_all within control accepted))
        (λ (t : StraightState). t.variables y ≡ s.variables y)
        (λ zero. unchanged_all types label otherwise typed.2 within control s quiet y d known seen)
        (λ nonzero. unchanged_all types label accepted typed.1 within control s quiet y d known seen)
    unchanged types label (loop x low high body) typed within control s quiet y d known seen =
        (iterations_keep (λ (t : StraightState). Quiet sees label within control t × (t.variables y ≡ s.variables y))
        (λ i t. after_all (counted x i t) (removed_all within control body)) (value_at s high)
        (λ i t below so_far. (
          quiet_after sees label within control t _
              (λ c below. controls_stay_all within control body (counted x i t) c below) so_far.0,
          unchanged_all (with_type types x (word_as counter_type false)) label body typed.3 within control
              (counted x i t)
              (quiet_after sees label within control t (counted x i t) (λ c below. refl) so_far.0) y d
              (stays_beside types x _ typed.2.new y d known) seen
              ∙ (cond-false (y == x) (i ∷ []) (t.variables y) (apart types x y d typed.2.new known) ∙ so_far.1),
        ))
        (value_at s high - value_at s low) (value_at s low) s refl (quiet, refl)).1

    pub unchanged_all : (types : Types) (label : Label) (body : FlatBlock) → AreTyped declared types label body
        → (within : Option ℕ) (control : ℕ) (s : StraightState) → Quiet sees label within control s
        → Agree sees types (after_all s (removed_all within control body)).variables s.variables
    unchanged_all types label nothing typed within control s quiet y d known seen = refl
    unchanged_all types label (first statement rest) typed within control s quiet y d known seen =
        ap (λ (t : StraightState). t.variables y)
        (after-chain s (removed within control statement) (removed_all within control rest))
        ∙ (unchanged_all (types_after types statement) label rest typed.1 within control
        (after_all s (removed within control statement))
        (quiet_after sees label within control s _
        (λ c below. controls_stay within control statement s c below) quiet)
        y d (type_kept declared types label statement typed.0 y d known) seen
        ∙ unchanged types label statement typed.0 within control s quiet y d known seen)
