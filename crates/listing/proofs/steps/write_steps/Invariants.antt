-- So many steps were made, none of which stopped, and their lines were written.
use Rattle.std.proofs.Common.{◌≡◌, ◌++◌, List, IsTrue}
use Rattle.listing.specs.Below.{Observation, ProgramLeads, state_of}
use Rattle.listing.specs.Lines.{lines_of}
use Rattle.listing.proofs.steps.write_steps.Given as goal

abbrev pub invariant-loop-step : goal.invariant-loop-step
invariant-loop-step g l = record {
  led : (seen : List Observation)
      × ProgramLeads (g.P.Program.program l.program) l._step
      (state_of l.fn.run.hart (g.M.Memory.bytes l.fn.run.memory)) seen
      (state_of l.run.hart (g.M.Memory.bytes l.run.memory))
      × (IsTrue g.W.Sink.TELLS → g.W.Sink.taken l.sink ≡ g.W.Sink.taken l.fn.sink ++ lines_of seen);
  calm : g.W.Sink.failures l.sink ≡ g.W.Sink.failures l.fn.sink;
}
