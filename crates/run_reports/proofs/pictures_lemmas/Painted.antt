-- What runs show from a later state on, and what they show from the first on.
use Rattle.std.proofs.Common.{◌≡◌, ℕ, ◌+◌, List, [], ◌∷◌, ◌++◌, true, Option, Some, None, is_some, length}
use Rattle.std.proofs.Common.{length-append, append_assoc, append-nil, refl, sym, ap, ◌∙◌, arith}
use Rattle.std.proofs.lemmas.Option.{none-some}
use Rattle.run_reports.specs.Below.{Budget, entries_of, events_of, MachineCode, followed_by, IsShown, Observation, spent}
use Rattle.run_reports.specs.Below.{State, stays}
use Rattle.rv_machine.proofs.RunLaws.{Runs-determined}
use Rattle.rv_machine.proofs.Shown.{runs_no_steps}
use Rattle.run_reports.specs.pictures.Grid.{IsGrid}
use Rattle.run_reports.specs.pictures.Marks.{marks_of_both, marks_from}
use Rattle.run_reports.specs.pictures.Parting.{first_of, parting_from, parting_in, run_length}
use Rattle.run_reports.specs.pictures.private.Added.{Adds}
use Rattle.run_reports.specs.declared.pictures.cells.Axes.{Axes}
use Rattle.run_reports.specs.declared.pictures.cells.Cell.{Cell}
use Rattle.run_reports.specs.declared.pictures.cells.CellMark.{CellMark}
use Rattle.run_reports.specs.declared.pictures.cells.RunLength.{RunLength}

-- whether something is shown
pub some_shown : (o : Option Observation) → is_some o ≡ true → o ≡ None → ⊥
some_shown None is none = cc
some_shown (Some o) is none = none-some o (sym none)

-- where no steps are left, nothing is shown
ended_shows : {code : MachineCode} {n : ℕ} {s : State} {seen : List Observation} → n ≡ 0 → IsShown code n s seen
    → seen ≡ []
ended_shows none shown = runs_no_steps (rw none at shown.2)

ended : {code : MachineCode} {n : ℕ} {s : State} → n ≡ 0 → IsShown code n s []
ended {s = s} none = rw none (Budget, s, spent stays, λ e. cc)

-- what a later state shows follows, in an earlier one, what this step shows
abbrev pub StepShows : MachineCode → ℕ → State → ℕ → State → Option Observation → Type 0
StepShows code m s n t seen = (rest : List Observation) → IsShown code n t rest
    → IsShown code m s (followed_by seen rest)

-- so many observations and entries come before those that a later state shows
pub record CountedBefore (code : MachineCode) (m : ℕ) (s : State) (n : ℕ) (t : State) (count entries : ℕ) : Type 0 where
  pub before : (rest : List Observation) → IsShown code n t rest
      → (seen : List Observation) × IsShown code m s seen × (length seen ≡ count + length rest)
      × (length (entries_of seen) ≡ entries + length (entries_of rest))

pub count_begins : {code : MachineCode} {m : ℕ} {s : State} → CountedBefore code m s m s 0 0
count_begins = record { before = λ rest shown. (rest, shown, omega arith, omega arith) }

-- the entries of an observation, and of later ones
entries_more : (o : Observation) (rest : List Observation)
    → length (entries_of (o ∷ rest)) ≡ length (entries_of (o ∷ [])) + length (entries_of rest)
entries_more o rest =
    omega (arith, length-append (events_of o.event) (entries_of rest), length-append (events_of o.event) [])

pub count_on : {code : MachineCode} {m n k count entries many : ℕ} {s t u : State} {seen : Option Observation}
    {o : Observation}
    → CountedBefore code m s n t count entries → seen ≡ Some o → StepShows code n t k u seen
    → many ≡ length (entries_of (o ∷ [])) → CountedBefore code m s k u (count + 1) (entries + many)
count_on {o = o} counted is step many = record {
  before = λ rest shown.
      let now = counted.before (o ∷ rest) (rw is at (step rest shown)) in
      (now.0, now.1, omega (arith, now.2), omega (arith, now.3, many, entries_more o rest));
}

pub count_ends : {code : MachineCode} {m n k count entries : ℕ} {s t u : State} {seen : Option Observation}
    → CountedBefore code m s n t count entries → seen ≡ None → k ≡ 0 → StepShows code n t k u seen
    → (all : List Observation) × IsShown code m s all
    × (record { steps = count; entries = entries } ≡ run_length all)
count_ends {count = count} {entries = entries} counted is none step =
    let now = counted.before [] (rw is at (step [] (ended none))) in
    let steps : count ≡ length now.0 = omega (arith, now.2) in
    let many : entries ≡ length (entries_of now.0) = omega (arith, now.3) in
    (now.0, now.1, λ i. record { steps = steps i; entries = many i })

-- the cells have some marks, and with those of what two later states show they are the marks of what two earlier ones
-- show; so is the step in which those part
pub record Painted (axes : Axes) (code : MachineCode) (m : ℕ) (s : State) (n : ℕ) (t : State) (m' : ℕ) (s' : State)
    (n' : ℕ)
    (t' : State) (step : ℕ) (parting : Option ℕ) (cells : List Cell) : Type 0 where
  pub marks : List CellMark
  pub filled : IsGrid axes marks cells
  pub before :
      (rest rest' : List Observation) → IsShown code n t rest → IsShown code n' t' rest'
      → (seen seen' : List Observation) × IsShown code m s seen × IsShown code m' s' seen'
      × (marks_from 0 seen seen' ≡ marks ++ marks_from step rest rest')
      × (parting_from 0 seen seen' ≡ first_of parting (parting_from step rest rest'))

pub paint_begins : {axes : Axes} {code : MachineCode} {m m' : ℕ} {s s' : State} {cells : List Cell} → IsGrid axes
    [] cells
    → Painted axes code m s m s m' s' m' s' 0 None cells
paint_begins filled = record {
  marks = [];
  filled = filled;
  before = λ rest rest' shown shown'. (rest, rest', shown, shown', refl, refl);
}

-- the marks of a step, and of what is shown after it
marks_on : (at : ℕ) (one other : Option Observation) (rest rest' : List Observation) → (one ≡ None → rest ≡ [])
    → (other ≡ None → rest' ≡ [])
    → ((one ≡ None) × (other ≡ None) → ⊥)
    → marks_from at (followed_by one rest) (followed_by other rest') ≡ marks_of_both at one other
    ++ marks_from (at + 1) rest rest'
marks_on at (Some o) (Some p) rest rest' none none' some = refl
marks_on at (Some o) None rest rest' none none' some = rw none' refl
marks_on at None (Some p) rest rest' none none' some = rw none refl
marks_on at None None rest rest' none none' some = absurd (some (refl, refl))

-- the step in which both part, in a step or after it
parting_on : (at : ℕ) (one other : Option Observation) (rest rest' : List Observation) → (one ≡ None → rest ≡ [])
    → (other ≡ None → rest' ≡ [])
    → ((one ≡ None) × (other ≡ None) → ⊥)
    → parting_from at (followed_by one rest) (followed_by other rest')
    ≡ first_of (parting_in at one other) (parting_from (at + 1) rest rest')
parting_on at (Some o) (Some p) rest rest' none none' some = refl
parting_on at (Some o) None rest rest' none none' some = rw none' refl
parting_on at None (Some p) rest rest' none none' some = rw none refl
parting_on at None None rest rest' none none' some = absurd (some (refl, refl))

first_of_three : (one two three : Option ℕ) → first_of (first_of one two) three ≡ first_of one (first_of two three)
first_of_three (Some step) two three = refl
first_of_three None two three = refl

first_of_one : (one : Option ℕ) → first_of one None ≡ one
first_of_one (Some step) = refl
first_of_one None = refl

module _ {axes : Axes} {code : MachineCode} {m n k m' n' k' at : ℕ} {parting : Option ℕ} {s t u s' t' u' : State} {cells : List Cell} where
  -- a step of both, of which one at least shows something
  pub paint_on : {new : List Cell} {next : Option ℕ} (one other : Option Observation)
      → Painted axes code m s n t m' s' n' t' at parting cells
      → next ≡ first_of parting (parting_in at one other)
      → Adds axes (marks_of_both at one other) cells new → StepShows code n t k u one
      → StepShows code n' t' k' u' other
      → (one ≡ None → k ≡ 0) → (other ≡ None → k' ≡ 0) → ((one ≡ None) × (other ≡ None) → ⊥)
      → Painted axes code m s k u m' s' k' u' (at + 1) next new
  paint_on one other painted is_next adds step step' none none' some = record {
    marks = painted.marks ++ marks_of_both at one other;
    filled = adds painted.marks painted.filled;
    before = λ rest rest' shown shown'.
        let now = painted.before (followed_by one rest) (followed_by other rest') (step rest shown)
        (step' rest' shown') in
        let on = marks_on at one other rest rest' (λ is. ended_shows (none is) shown)
        (λ is. ended_shows (none' is) shown') some in
        let parts = parting_on at one other rest rest' (λ is. ended_shows (none is) shown)
        (λ is. ended_shows (none' is) shown') some in
        let later = parting_from (at + 1) rest rest' in (
          now.0,
          now.1,
          now.2,
          now.3,
          now.4 ∙ ap (λ more. painted.marks ++ more) on
              ∙ sym (append_assoc painted.marks (marks_of_both at one other) (marks_from (at + 1) rest rest')),
          now.5 ∙ ap (first_of parting) parts ∙ sym (first_of_three parting (parting_in at one other) later)
              ∙ ap (λ (first : Option ℕ). first_of first later) (sym is_next),
        );
  }

  -- a step of both that shows nothing
  pub paint_ends : {one other : Option Observation} → Painted axes code m s n t m' s' n' t' at parting cells → one ≡ None
      → other ≡ None → k ≡ 0 → k' ≡ 0
      → StepShows code n t k u one → StepShows code n' t' k' u' other
      → (seen seen' : List Observation) × IsShown code m s seen × IsShown code m' s' seen'
      × IsGrid axes (marks_from 0 seen seen') cells × (parting ≡ parting_from 0 seen seen')
  paint_ends painted is is' none none' step step' =
      let now = painted.before [] [] (rw is at (step [] (ended none))) (rw is' at (step' [] (ended none'))) in
      (now.0, now.1, now.2, now.3, rw (now.4, append-nil) painted.filled, sym (now.5 ∙ first_of_one parting))

-- as long as another run of the same from the same state on
pub counted_again : {code : MachineCode} {n n' : ℕ} {counted : RunLength} {s s' : State} {seen : List Observation}
    → n ≡ n' → s ≡ s'
    → (all : List Observation) × IsShown code n s all × (counted ≡ run_length all) → IsShown code n' s' seen
    → counted ≡ run_length seen
counted_again {code} {n} {s = s} {seen = seen} same_steps same_state counted shown =
    let again : IsShown code n s seen = rw (same_steps, same_state) shown in
    counted.2 ∙ ap run_length (Runs-determined counted.1.2 again.2 counted.1.3 again.3).0
