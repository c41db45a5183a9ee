-- One step of a run: what it shows, and why the run ends by it, where it does.
use Rattle.std.specs.Prelude.{List, [], ◌∷◌, Option, Some, None}
use Rattle.rv_machine.specs.declared.observation.Observation.{Observation}
use Rattle.rv_machine.specs.declared.stops.Stop.{Stop}
use Rattle.rv_machine.specs.Machine.{State, MachineCode, goes_on, stops, Step}

-- one observation, or none, as a list
abbrev pub listed : Option Observation → List Observation
listed (Some o) = o ∷ []
listed None = []

-- from one state to another: the step goes on, or it stops and the state stays
pub data OneStep (code : MachineCode) (s : State) : Option Observation → Option Stop → State → Type 0 where
  went_on : {o : Observation} {t : State} → Step code s (goes_on o t) → OneStep code s (Some o) None t
  stopped : {seen : Option Observation} {stop : Stop} → Step code s (stops (listed seen) stop)
      → OneStep code s seen (Some stop) s
