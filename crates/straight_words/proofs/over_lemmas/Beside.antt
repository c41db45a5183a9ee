-- Two runs side by side: what their variables hold goes together, and the path of the second is fine where that of the
-- first is.
use Rattle.std.proofs.Common.{◌≡◌, ℕ, zero, suc, ◌+◌, ◌-◌, ◌==◌, ◌≤◌, ◌&&◌, not, Bool, true, false, if◌then◌else◌}
use Rattle.std.proofs.Common.{List, ◌∷◌, Option, None, Some, slice_index, refl, ap, arith}
use Rattle.straight_words.specs.Below.{after, after_all, bounded, branch, chain, counted, decided, first, holds, Path}
use Rattle.straight_words.specs.Below.{path_along, path_at, path_of_iterations, repeats, StraightBlock, StraightState}
use Rattle.straight_words.specs.Below.{StraightTree, TermTree, iterations, value_at, Values, with_controls}
use Rattle.branch_removal.proofs.Sequences.{after-chain, path-chain}
use Rattle.straight_words.specs.element_words.private.Splitting.{single}
use Rattle.straight_words.proofs.over_lemmas.Values.{IsNoWorse, same_path, both, alone, IsAlike}

-- two states, where this relates what their variables hold
pub record AreBeside (R : Values → Values → Type 0) (s t : StraightState) : Type 0 where
  pub variables : R s.variables t.variables
  pub controls : t.controls ≡ s.controls

module _ (most : List ℕ) where
  either_path : (v : ℕ) (b : Bool) {p q p' q' : Path} → IsNoWorse most p p' → IsNoWorse most q q'
      → IsNoWorse most (decided v ∷ (if b then p else q)) (decided v ∷ (if b then p' else q'))
  either_path v true one other = record { fine = λ fine. (tt, one.fine fine.1) }
  either_path v false one other = record { fine = λ fine. (tt, other.fine fine.1) }

  -- the path of a branch, and of a loop
  pub branch_path : (s t : StraightState) (accepted otherwise one other : StraightBlock) {condition c : TermTree}
      → IsAlike most s.variables t.variables condition c
      → IsNoWorse most (path_along s accepted) (path_along t one)
      → IsNoWorse most (path_along s otherwise) (path_along t other)
      → IsNoWorse most (path_at s (branch condition accepted otherwise)) (path_at t (branch c one other))
  branch_path s t accepted otherwise one other {condition} {c} chooser first_arm second_arm =
      let arm : IsNoWorse most (decided (value_at s condition)
      ∷ (if value_at s condition == 0 then path_along s otherwise else path_along s accepted))
      (decided (value_at t c) ∷ (if value_at t c == 0 then path_along t other else path_along t one)) =
      rw chooser.value (either_path (value_at s condition) (value_at s condition == 0) second_arm first_arm) in
      both most chooser.path arm

  pub loop_path_as : (s t : StraightState) (x z : ℕ) → slice_index most x ≤ slice_index most z
      → (body code : StraightBlock) {low high a b : TermTree}
      → IsAlike most s.variables t.variables low a → IsAlike most s.variables t.variables high b
      → IsNoWorse most (path_of_iterations (value_at s high - value_at s low) (value_at s low)
      (λ i u. after_all (counted x i u) body) (λ i u. path_along (counted x i u) body) s)
      (path_of_iterations (value_at s high - value_at s low) (value_at s low) (λ i u. after_all (counted z i u) code)
      (λ i u. path_along (counted z i u) code) t)
      → IsNoWorse most (path_at s (repeats x low high body)) (path_at t (repeats z a b code))
  loop_path_as s t x z as_many body code {low} {high} {a} {b} from to iteration =
      let l = value_at s low in
      let h = value_at s high in
      let path : IsNoWorse most (bounded x l h ∷ path_of_iterations (h - l) l (λ i u. after_all (counted x i u) body)
      (λ i u. path_along (counted x i u) body) s)
      (bounded z (value_at t a) (value_at t b) ∷ path_of_iterations (value_at t b - value_at t a) (value_at t a)
      (λ i u. after_all (counted z i u) code) (λ i u. path_along (counted z i u) code) t) =
      rw (from.value, to.value) (record { fine = λ fine. (omega (arith, fine.0, as_many), iteration.fine fine.1) }) in
      both most (both most from.path to.path) path

  pub loop_path : (s t : StraightState) (x : ℕ) (body code : StraightBlock) {low high a b : TermTree}
      → IsAlike most s.variables t.variables low a → IsAlike most s.variables t.variables high b
      → IsNoWorse most (path_of_iterations (value_at s high - value_at s low) (value_at s low)
      (λ i u. after_all (counted x i u) body) (λ i u. path_along (counted x i u) body) s)
      (path_of_iterations (value_at s high - value_at s low) (value_at s low) (λ i u. after_all (counted x i u) code)
      (λ i u. path_along (counted x i u) code) t)
      → IsNoWorse most (path_at s (repeats x low high body)) (path_at t (repeats x a b code))
  loop_path s t x = loop_path_as s t x x (omega arith)

module _ (R : Values → Values → Type 0) where
  pub same_hold : (within : Option ℕ) {s t : StraightState} → AreBeside R s t → holds t within ≡ holds s within
  same_hold None beside = refl
  same_hold (Some control) beside = ap (λ (f : ℕ → Bool). f control) beside.controls

  both_sides : (b : Bool) {s t u v : StraightState} → AreBeside R s u → AreBeside R t v
      → AreBeside R (if b then s else t) (if b then u else v)
  both_sides true one other = one
  both_sides false one other = other

  -- what is set within a control value
  pub within_beside : (within : Option ℕ) {s t u v : StraightState} → AreBeside R s u → AreBeside R t v
      → AreBeside R (if holds s within then t else s) (if holds u within then v else u)
  within_beside within {s = s} beside set = rw (same_hold within beside) (both_sides (holds s within) set beside)

  -- a condition is taken in both
  pub taken_beside : (control : ℕ) (within : Option ℕ) {s t : StraightState} {v w : ℕ} → AreBeside R s t → w ≡ v
      → AreBeside R (with_controls s control (holds s within && not (v == 0)) (holds s within && (v == 0)))
      (with_controls t control (holds t within && not (w == 0)) (holds t within && (w == 0)))
  taken_beside control within beside same = record {
    variables = beside.variables;
    controls = rw (same, same_hold within beside, beside.controls);
  }

  module _ (most : List ℕ) where
    -- a block beside another one
    pub record RunsBeside (s t : StraightState) (body code : StraightBlock) : Type 0 where
      pub beside : AreBeside R (after_all s body) (after_all t code)
      pub path : IsNoWorse most (path_along s body) (path_along t code)

    -- and beside one statement
    pub record FollowsAt (s t : StraightState) (statement : StraightTree) (code : StraightBlock) : Type 0 where
      pub beside : AreBeside R (after s statement) (after_all t code)
      pub path : IsNoWorse most (path_at s statement) (path_along t code)

    pub branch_follows : {s t : StraightState} {condition c : TermTree} {accepted otherwise one other : StraightBlock}
        → IsAlike most s.variables t.variables condition c → RunsBeside s t accepted one
        → RunsBeside s t otherwise other
        → FollowsAt s t (branch condition accepted otherwise) (single (branch c one other))
    branch_follows {s} {t} {condition} {c} {accepted} {otherwise} {one} {other} chooser first_arm second_arm =
        record {
          beside = rw chooser.value (both_sides (value_at s condition == 0) second_arm.beside first_arm.beside);
          path = alone most (branch_path most s t accepted otherwise one other chooser first_arm.path second_arm.path);
        }

    -- iterations of two loops
    iterations_follow : (f g : ℕ → StraightState → StraightState) (p q : ℕ → StraightState → Path)
        → ((i : ℕ) (s t : StraightState) → AreBeside R s t
        → AreBeside R (f i s) (g i t) × IsNoWorse most (p i s) (q i t))
        → (n i : ℕ) (s t : StraightState) → AreBeside R s t
        → AreBeside R (iterations n i f s) (iterations n i g t)
        × IsNoWorse most (path_of_iterations n i f p s) (path_of_iterations n i g q t)
    iterations_follow f g p q each zero i s t beside = (beside, same_path most)
    iterations_follow f g p q each (suc n) i s t beside =
        let here = each i s t beside in
        let rest = iterations_follow f g p q each n (i + 1) (f i s) (g i t) here.0 in
        (rest.0, both most here.1 rest.1)

    -- a loop beside one with another counter, for which as many iterations are counted
    pub loop_follows_as : {s t : StraightState} (x z : ℕ) → slice_index most x ≤ slice_index most z
        → {low high a b : TermTree} {body code : StraightBlock}
        → AreBeside R s t → IsAlike most s.variables t.variables low a → IsAlike most s.variables t.variables high b
        → ((i : ℕ) (u v : StraightState) → AreBeside R u v → RunsBeside (counted x i u) (counted z i v) body code)
        → FollowsAt s t (repeats x low high body) (single (repeats z a b code))
    loop_follows_as {s} {t} x z as_many {low} {high} {a} {b} {body} {code} beside from to each =
        let run = iterations_follow (λ i u. after_all (counted x i u) body) (λ i u. after_all (counted z i u) code)
        (λ i u. path_along (counted x i u) body) (λ i u. path_along (counted z i u) code)
        (λ i u v at. let iteration = each i u v at in (iteration.beside, iteration.path))
        (value_at s high - value_at s low)
        (value_at s low) s t beside in
        record {
          beside = rw (from.value, to.value) run.0;
          path = alone most (loop_path_as most s t x z as_many body code from to run.1);
        }

    pub loop_follows : {s t : StraightState} (x : ℕ) {low high a b : TermTree} {body code : StraightBlock}
        → AreBeside R s t → IsAlike most s.variables t.variables low a → IsAlike most s.variables t.variables high b
        → ((i : ℕ) (u v : StraightState) → AreBeside R u v → RunsBeside (counted x i u) (counted x i v) body code)
        → FollowsAt s t (repeats x low high body) (single (repeats x a b code))
    loop_follows x = loop_follows_as x x (omega arith)

-- a statement, and others behind it
pub then_follows : {Q R : Values → Values → Type 0} {most : List ℕ} {s t : StraightState} {statement : StraightTree}
    {rest code more : StraightBlock} → FollowsAt Q most s t statement code
    → RunsBeside R most (after s statement) (after_all t code) rest more
    → RunsBeside R most s t (first statement rest) (chain code more)
then_follows {most = most} {t = t} {code = code} {more = more} one others = record {
  beside = rw (after-chain t code more) others.beside;
  path = rw (path-chain t code more) (both most one.path others.path);
}
