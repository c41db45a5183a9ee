-- What is printed of harts side by side.
use Rattle.std.specs.Prelude.{ℕ, ◌+◌, ◌==◌, Bool, true, false, List, [], ◌∷◌, ◌++◌, codes, Option, Some, None}
use Rattle.std.specs.Prelude.{if◌then◌else◌}
use Rattle.std.specs.Fmt.{decimal}
use Rattle.std.specs.List.{flat_map, list_all}
use Rattle.commands.specs.Below.{AccessFault, Break, Budget, Ecall, Fields, HartEnd, HartObservation, Illegal, Job}
use Rattle.commands.specs.Below.{lines_of, Misaligned, params_of, RecorderRefused, Results, Stop, stop_line}
use Rattle.commands.specs.OutcomeText.{outcome_text}

-- bytes with a front before each line, whose ends are the bytes 10; whether the first of them begins a line
abbrev pub with_fronts : List ℕ → Bool → List ℕ → List ℕ
with_fronts front begins [] = []
with_fronts front begins (byte ∷ bytes) = (if begins then front else []) ++ byte
    ∷ with_fronts front (byte == 10) bytes

-- lines of a hart, each behind its number and a blank
abbrev pub behind : ℕ → List ℕ → List ℕ
behind hart lines = with_fronts (decimal hart ++ codes " ") true lines

-- what steps showed, in their order
abbrev pub shown_text : List HartObservation → List ℕ
shown_text seen = flat_map (λ step. behind step.hart (lines_of (step.observation ∷ []))) seen

-- how a hart stopped, if it did
abbrev pub ended_line : Option Stop → List ℕ
ended_line (Some stop) = stop_line stop
ended_line None = codes "going\n"

-- its outcome, if it has one
abbrev pub ended_text : Fields → Option Results → List ℕ
ended_text image (Some outcome) = outcome_text (params_of image) outcome
ended_text image None = []

-- how each hart ended, those of the first job numbered so
abbrev pub ends_text : ℕ → List Job → List HartEnd → List ℕ
ends_text hart jobs [] = []
ends_text hart [] (end ∷ ends) = []
ends_text hart (job ∷ jobs) (end ∷ ends) = behind hart (ended_line end.stop)
    ++ behind hart (ended_text job.image end.outcome) ++ ends_text (hart + 1) jobs ends

-- what steps showed, and then how each hart ended
abbrev pub harts_text : List Job → List HartObservation → List HartEnd → List ℕ
harts_text jobs seen ends = shown_text seen ++ ends_text 0 jobs ends

-- whether a hart has not stopped otherwise than by ECALL
abbrev pub is_well : Option Stop → Bool
is_well None = true
is_well (Some Ecall) = true
is_well (Some Break) = false
is_well (Some Illegal) = false
is_well (Some AccessFault) = false
is_well (Some Misaligned) = false
is_well (Some Budget) = false
is_well (Some RecorderRefused) = false

-- the exit status: 0 where none has, else 5
abbrev pub status_of_ends : List HartEnd → ℕ
status_of_ends ends = if list_all (λ end. is_well end.stop) ends then 0 else 5
