-- What a run shows at a place: an entry, and behind the last one the stop.
use Rattle.std.specs.Prelude.{◌≡◌, ℕ, List, Option, Some, None, slice_get}
use Rattle.run_reports.specs.Below.{MachineCode, entries_of, Entry, event, Observation, program_counter, State, Stop}
use Rattle.run_reports.specs.run_places.Places.{Ends}
use Rattle.run_reports.specs.declared.run_places.shown.Shown.{Shown}
use Rattle.run_reports.specs.declared.run_places.shown.Shown.TheVariants.{ProgramCounter, HasEvent, Stopped}

abbrev pub shown_entry : Entry → Shown
shown_entry (program_counter pc) = ProgramCounter pc
shown_entry (event e) = HasEvent e

-- an entry, or none any more and this stop
abbrev pub entry_or_stop : Option Entry → Stop → Shown
entry_or_stop (Some entry) stop = shown_entry entry
entry_or_stop None stop = Stopped stop

-- a run of at most so many steps shows this at a place, counted from 0
abbrev pub ShowsAt : MachineCode → ℕ → State → ℕ → Shown → Type 0
ShowsAt code budget s place shown =
    (seen : List Observation) × (stop : Stop) × Ends code budget s seen stop
    × (shown ≡ entry_or_stop (slice_get (entries_of seen) place) stop)
