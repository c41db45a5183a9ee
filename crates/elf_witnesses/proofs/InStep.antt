-- How runs of programs come further, a step at a time, and two of them in step.
use Rattle.std.proofs.Common.{◌≡◌, ◌≢◌, ℕ, zero, suc, ◌+◌, ◌<◌, ◌≤◌, ◌⊎◌, List, [], ◌∷◌, ◌++◌, Option, Some, None}
use Rattle.std.proofs.Common.{is_some, cond, length, refl, sym, ap, ◌∙◌, subst, append_assoc, append-nil, inl, inr}
use Rattle.std.proofs.Common.{arith}
use Rattle.elf_witnesses.proofs.Below.{after_common, entries_of-append, entry_count-append, run_of_state, Runs-more}
use Rattle.elf_witnesses.proofs.Below.{Runs-stop, step_stops}
use Rattle.elf_witnesses.specs.Below.{Budget, cut_short, Done, entries_of, followed_by, halted, halts, IsFirstDifference}
use Rattle.elf_witnesses.specs.Below.{MachineProgram, Observation, ProgramRuns, ProgramStep, RecorderRefused, refused, spent}
use Rattle.elf_witnesses.specs.Below.{State, stays, StepEnding, Stop, stopped, went_on}
use Rattle.elf_witnesses.specs.Compared.{Compares, IsLastStep, IsShown}
use Rattle.elf_witnesses.specs.declared.comparing.Comparison.{Comparison}
use Rattle.elf_witnesses.specs.declared.comparing.Comparison.TheVariants.{Differ, Same}
use Rattle.elf_witnesses.specs.declared.comparing.Reached.{Reached}

-- One step.

followed : (shown : Option Observation) (rest : List Observation)
    → followed_by shown rest ≡ followed_by shown [] ++ rest
followed (Some o) rest = refl
followed None rest = refl

-- no steps show nothing
runs_no_steps : {program : MachineProgram} {s t : State} {seen : List Observation} {stop : Stop}
    → ProgramRuns program zero s seen stop t → seen ≡ []
runs_no_steps (halted within (halts first end is)) = absurd (omega arith)
runs_no_steps (cut_short within first end shows) = absurd (omega arith)
runs_no_steps (spent stays) = refl

-- a step that was made, and what is shown after it
after_step : (program : MachineProgram) (left left' : ℕ) (s t : State) (ending : StepEnding) (answer : Option Stop)
    (seen rest : List Observation)
    → ProgramStep program s ending → Done s ending answer t seen → answer ≢ Some RecorderRefused
    → left' ≡ cond (is_some answer) 0 left → IsShown program left' t rest
    → IsShown program (suc left) s (seen ++ rest)
after_step program left left' s t ending answer seen rest step went_on calm is shown =
    let run = subst (λ n. ProgramRuns program n t rest shown.0 shown.1) is shown.2 in
    (shown.0, shown.1, Runs-more step run, shown.3)
after_step program left left' s t ending answer seen rest step (stopped {stop = stop}) calm is shown =
    let none : rest ≡ [] = runs_no_steps (subst (λ n. ProgramRuns program n t rest shown.0 shown.1) is shown.2) in
    rw (none, append-nil) (stop, s, Runs-stop step, (step_stops program s seen stop step).0)
after_step program left left' s t ending answer seen rest step (refused shows) calm is shown = absurd (calm refl)

pub step_shows : (program : MachineProgram) (left left' : ℕ) (s t : State) (ending : StepEnding)
    (answer : Option Stop) (seen rest : List Observation) (shown : Option Observation)
    → ProgramStep program s ending → Done s ending answer t seen → answer ≢ Some RecorderRefused
    → left' ≡ cond (is_some answer) 0 left → followed_by shown [] ≡ seen → IsShown program left' t rest
    → IsShown program (suc left) s (followed_by shown rest)
step_shows program left left' s t ending answer seen rest shown step done calm is all after =
    let whole : followed_by shown rest ≡ seen ++ rest = followed shown rest ∙ ap (λ l. l ++ rest) all in
    rw whole (after_step program left left' s t ending answer seen rest step done calm is after)

-- a step that shows nothing ends the run, and one that shows something leaves fewer steps
pub none_left : (left left' : ℕ) (s t : State) (ending : StepEnding) (answer : Option Stop)
    (seen : List Observation) (shown : Option Observation) → Done s ending answer t seen
    → left' ≡ cond (is_some answer) 0 left → followed_by shown [] ≡ seen → shown ≡ None → left' ≡ 0
none_left left left' s t ending answer seen shown went_on is all none = cc
none_left left left' s t ending answer seen shown stopped is all none = is
none_left left left' s t ending answer seen shown (refused shows) is all none = is

-- Two runs in step.

-- what was shown so far, and what is shown after it
pub record Continues (program : MachineProgram) (m : ℕ) (s : State) (seen : List Observation) (n : ℕ) (t : State)
    : Type 0 where
  pub shows : (rest : List Observation) → IsShown program n t rest → IsShown program m s (seen ++ rest)

pub begun : {program : MachineProgram} {m : ℕ} {s : State} → Continues program m s [] m s
begun = record { shows = λ rest shown. shown }

-- a step more
pub continued : {program : MachineProgram} {m n k : ℕ} {s t u : State} {seen : List Observation} {o : Observation}
    → Continues program m s seen n t
    → ((rest : List Observation) → IsShown program k u rest → IsShown program n t (o ∷ rest))
    → Continues program m s (seen ++ o ∷ []) k u
continued so_far next = record { shows = λ rest shown. rw append_assoc (so_far.shows _ (next rest shown)) }

-- the last step so far is the last one before what comes next
pub last_so_far : {seen : List Observation} {place : ℕ} {step : Reached} (rest : List Observation)
    → IsLastStep seen place step → IsLastStep (seen ++ rest) place step
last_so_far rest last = record {
  earlier = last.earlier;
  shown = last.shown;
  later = last.later ++ rest;
  whole = ap (λ l. l ++ rest) last.whole ∙ append_assoc last.earlier (last.shown ∷ last.later) rest;
  counter = last.counter;
  entries = last.entries;
  before = last.before;
  reached = last.reached;
}

-- and the step that comes next is, up to the end of its entries
pub last_here : (seen rest : List Observation) (o : Observation) (place : ℕ) (step : Reached)
    → step.pc ≡ o.pc → step.entries ≡ length (entries_of seen) → length (entries_of seen) < place
    → place ≤ length (entries_of seen) + length (entries_of (o ∷ [])) → IsLastStep (seen ++ o ∷ rest) place step
last_here seen rest o place step pc entries before within = record {
  earlier = seen;
  shown = o;
  later = rest;
  whole = refl;
  counter = pc;
  entries = entries;
  before = omega arith;
  reached = omega (arith, entry_count-append seen (o ∷ []));
}

-- the last step before the first entry that differs, by which of the next step's it is
pub last_before : (seen rest : List Observation) (o : Observation) (place entry : ℕ) (last here step : Reached)
    → length (entries_of seen) ≡ place → entry < 2 → (0 < place → IsLastStep seen place last) → here.pc ≡ o.pc
    → here.entries ≡ place → ((entry ≡ 0) × (step ≡ last)) ⊎ ((entry ≢ 0) × (step ≡ here)) → 0 < place + entry
    → IsLastStep (seen ++ o ∷ rest) (place + entry) step
last_before seen rest o place entry last here step count few before pc entries (inl (none, is)) some =
    let e : place ≡ place + entry = omega arith in
    subst (λ n. IsLastStep (seen ++ o ∷ rest) n step) e (rw is (last_so_far (o ∷ rest) (before (omega arith))))
last_before seen rest o place entry last here step count few before pc entries (inr (some_entry, is)) some =
    rw is
    (last_here seen rest o (place + entry) here pc (entries ∙ sym count) (omega arith) (omega arith))

-- what an answer about two runs says
abbrev pub IsAnswer : MachineProgram → ℕ → State → MachineProgram → ℕ → State → Comparison → Type 0
IsAnswer program m s program' m' s' answer =
    (seen seen' : List Observation) × IsShown program m s seen × IsShown program' m' s' seen'
    × Compares seen seen' answer

-- what two runs show from where they stand differs
pub differ_after : {program program' : MachineProgram} {m n m' n' place : ℕ} {s t s' t' : State} {step : Reached}
    (seen a b : List Observation) (k : ℕ) → Continues program m s seen n t → Continues program' m' s' seen n' t'
    → length (entries_of seen) + k ≡ place → IsShown program n t a → IsShown program' n' t' b
    → IsFirstDifference (entries_of a) (entries_of b) k → (0 < place → IsLastStep (seen ++ a) place step)
    → IsAnswer program m s program' m' s' (Differ place step)
differ_after seen a b k so_far so_far' count shown shown' first last =
    let whole = after_common (entries_of seen) (entries_of a) (entries_of b) k first in (
      seen ++ a,
      seen ++ b,
      so_far.shows a shown,
      so_far'.shows b shown',
      (rw (← count, entries_of-append seen a, entries_of-append seen b) whole, last),
    )

-- neither shows more
pub same_after : {program program' : MachineProgram} {m n m' n' : ℕ} {s t s' t' : State} (seen : List Observation)
    → Continues program m s seen n t → Continues program' m' s' seen n' t' → IsShown program n t []
    → IsShown program' n' t' [] → IsAnswer program m s program' m' s' Same
same_after seen so_far so_far' shown shown' =
    (seen ++ [], seen ++ [], so_far.shows [] shown, so_far'.shows [] shown', refl)

-- a state shows something
pub shows_some : (program : MachineProgram) (n : ℕ) (s : State) → (seen : List Observation) × IsShown program n s seen
shows_some program n s =
    let run = run_of_state program n s in
    (run.0, (run.1, run.2, run.3, run.4))

-- and nothing where no step is left
pub shows_nothing : (program : MachineProgram) (n : ℕ) (s : State) → n ≡ 0 → IsShown program n s []
shows_nothing program n s none = rw none (Budget, s, spent stays, λ e. cc)
