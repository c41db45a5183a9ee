-- So many steps were made, none of which stopped, and behind their entries so many are left before the place.
use Rattle.std.proofs.Common.{◌≡◌, ◌+◌, List, length}
use Rattle.run_reports.specs.Below.{code_of, entries_of, Leads, Observation, state_of}
use Rattle.run_reports.proofs.run_places.shown.shown_at.Given as goal

abbrev pub invariant-loop-step : goal.invariant-loop-step
invariant-loop-step g l =
    (seen : List Observation)
    × Leads (code_of l.code) l._step (state_of l.fn.run.hart (g.M.Memory.bytes l.fn.run.memory)) seen
    (state_of l.run.hart (g.M.Memory.bytes l.run.memory)) × (length (entries_of seen) + l.left ≡ l.place)
