-- So many pieces were made, none of which stopped, and a line went out behind each.
use Rattle.std.proofs.Common.{◌≡◌, ◌+◌, ◌*◌, ◌<◌, ◌⊎◌, List, IsTrue}
use Rattle.run_reports.specs.progress.Lines.{steps_a_line, WentOut}
use Rattle.run_reports.specs.Below.{code_of, collected, Leads, Observation, state_of}
use Rattle.run_reports.proofs.progress.running.run_in_pieces.Given as goal

abbrev pub invariant-pieces : goal.invariant-pieces
invariant-pieces g l = record {
  made : l.lines.count * steps_a_line + l.running.steps_left ≡ l.fn.running.steps_left;
  more : (l.lines.count ≡ 0) ⊎ (0 < l.running.steps_left);
  led : (seen : List Observation)
      × Leads (code_of l.code) (l.lines.count * steps_a_line)
      (state_of l.fn.running.hart (g.M.Memory.bytes l.fn.running.memory)) seen
      (state_of l.running.hart (g.M.Memory.bytes l.running.memory));
  told : IsTrue g.E.Sink.TELLS → WentOut l.lines.whole l.lines.count
      (collected (g.E.Sink.taken l.fn.err) (g.E.Sink.failures l.fn.err))
      (collected (g.E.Sink.taken l.err) (g.E.Sink.failures l.err));
}

abbrev pub decreases-pieces : goal.decreases-pieces
decreases-pieces g l = l.running.steps_left
