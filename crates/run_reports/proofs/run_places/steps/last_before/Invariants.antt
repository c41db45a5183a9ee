-- So many steps were made, none of which stopped, and all their entries are before the place.
use Rattle.std.proofs.Common.{◌≡◌, ◌<◌, ◌+◌, List, length}
use Rattle.run_reports.specs.Below.{code_of, entries_of, Leads, Observation, state_of}
use Rattle.run_reports.proofs.run_places.steps.last_before.Given as goal

abbrev pub invariant-loop-steps : goal.invariant-loop-steps
invariant-loop-steps g l = record {
  led : (seen : List Observation)
      × Leads (code_of l.code) l.steps (state_of l.fn.run.hart (g.M.Memory.bytes l.fn.run.memory)) seen
      (state_of l.run.hart (g.M.Memory.bytes l.run.memory)) × (length (entries_of seen) + l.left ≡ l.place);
  before : 0 < l.left;
}
