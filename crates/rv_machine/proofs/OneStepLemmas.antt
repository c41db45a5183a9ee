-- What a step shows, and why the run ends by it, by the call of `step` that made it.
use Rattle.std.proofs.Common.{◌≡◌, ◌≢◌, ◌≤◌, List, [], ◌∷◌, Option, Some, None, length, refl, arith}
use Rattle.std.specs.Prelude.{slice_get}
use Rattle.std.proofs.lemmas.Option.{same_Some}
use Rattle.rv_machine.specs.declared.observation.Observation.{Observation}
use Rattle.rv_machine.specs.declared.stops.Stop.{Stop}
use Rattle.rv_machine.specs.declared.stops.Stop.TheVariants.{RecorderRefused}
use Rattle.rv_machine.specs.Leakage.{Done, went_on, stopped, refused}
use Rattle.rv_machine.specs.Machine.{State, MachineCode, StepEnding, goes_on, stops, Step}
use Rattle.rv_machine.proofs.TotalLaws.{step_stops}
use Rattle.rv_machine.specs.OneStep.{listed, OneStep}
use Rattle.rv_machine.specs.OneStep as one_step

first_alone : (seen : List Observation) → length seen ≤ 1 → listed (slice_get seen 0) ≡ seen
first_alone [] few = refl
first_alone (o ∷ []) few = refl
first_alone (o ∷ p ∷ seen) few = absurd (omega arith)

-- the step that a call of `step` made, of which a recorder took what it shows
pub step_made : (code : MachineCode) (s t : State) (ending : StepEnding) (answer : Option Stop)
    (seen : List Observation)
    → Step code s ending → Done s ending answer t seen → answer ≢ Some RecorderRefused
    → OneStep code s (slice_get seen 0) answer t
step_made code s t ending answer seen step went_on calm = one_step.went_on step
step_made code s t ending answer seen step (stopped {stop = stop}) calm =
    let brief = step_stops code s seen stop step in
    one_step.stopped (rw (first_alone seen brief.1) step)
step_made code s t ending answer seen step (refused shows) calm = absurd (calm refl)

-- what a step is that stops, and what one is that goes on
pub stopped_at : (code : MachineCode) (t u : State) (last : Option Observation) (answer : Option Stop) (stop : Stop)
    → OneStep code t last answer u → answer ≡ Some stop → Step code t (stops (listed last) stop)
stopped_at code t u last answer stop (one_step.went_on step) is = cc
stopped_at code t u last answer stop (one_step.stopped {stop = other} step) is =
    rw (same_Some other stop is) at step

pub went_to : (code : MachineCode) (t u : State) (last : Option Observation) (answer : Option Stop)
    → OneStep code t last answer u → answer ≡ None → (o : Observation) × (last ≡ Some o) × Step code t (goes_on o u)
went_to code t u last answer (one_step.went_on {o = o} step) is = (o, refl, step)
went_to code t u last answer (one_step.stopped step) is = cc
