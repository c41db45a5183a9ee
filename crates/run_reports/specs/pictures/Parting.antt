-- How long runs are, and in which step two of them part: the first in which one shows something else than the other.
use Rattle.std.specs.Prelude.{ℕ, ◌+◌, ◌==◌, ◌&&◌, Bool, true, false, if◌then◌else◌, List, [], ◌∷◌, length, Option, Some}
use Rattle.std.specs.Prelude.{None}
use Rattle.run_reports.specs.Below.{entries_of, Event, Observation}
use Rattle.run_reports.specs.pictures.Marks.{is_event}
use Rattle.run_reports.specs.declared.pictures.cells.RunLength.{RunLength}

-- the steps of a run, and its entries
abbrev pub run_length : List Observation → RunLength
run_length seen = record { steps = length seen; entries = length (entries_of seen) }

-- whether two runs show the same event in a step, or none
abbrev pub same_events : Option Event → Option Event → Bool
same_events (Some e) f = is_event e f
same_events None None = true
same_events None (Some f) = false

-- whether two runs show the same in a step
abbrev pub shows_same : Option Observation → Option Observation → Bool
shows_same (Some o) (Some p) = o.pc == p.pc && same_events o.event p.event
shows_same (Some o) None = false
shows_same None (Some p) = false
shows_same None None = true

-- the step, where they part in it
abbrev pub parting_in : ℕ → Option Observation → Option Observation → Option ℕ
parting_in step one other = if shows_same one other then None else Some step

-- the first of two steps, where there is one
abbrev pub first_of : Option ℕ → Option ℕ → Option ℕ
first_of (Some step) later = Some step
first_of None later = later

-- in which step two runs part, from a step on
abbrev pub parting_from : ℕ → List Observation → List Observation → Option ℕ
parting_from step [] [] = None
parting_from step (o ∷ ones) [] = Some step
parting_from step [] (p ∷ others) = Some step
parting_from step (o ∷ ones) (p ∷ others) =
    first_of (parting_in step (Some o) (Some p)) (parting_from (step + 1) ones others)
