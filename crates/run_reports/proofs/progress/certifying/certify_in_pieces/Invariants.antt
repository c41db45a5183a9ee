-- So many pieces were made, all of which lead on, and a line went out behind each.
use Rattle.std.proofs.Common.{◌≡◌, ℕ, ◌+◌, ◌*◌, ◌<◌, ◌⊎◌, List, length, IsTrue}
use Rattle.std.specs.Prelude.{is_some}
use Rattle.run_reports.specs.Below.{collected, entries_of, known_of, KnownLeads, Observation, state_of}
use Rattle.run_reports.specs.progress.Lines.{steps_a_line, WentOut}
use Rattle.run_reports.proofs.progress.certifying.certify_in_pieces.Given as goal

abbrev pub invariant-loop-left : goal.invariant-loop-left
invariant-loop-left g l =
    let bytes = g.M.Memory.bytes in
    record {
      made : l.lines.count * steps_a_line + l.left ≡ l.fn.run.steps_left;
      more : (l.lines.count ≡ 0) ⊎ (0 < l.left);
      led : (seen : List Observation)
          × KnownLeads (g.P.Program.program l.program) (l.lines.count * steps_a_line)
          (known_of (state_of l.fn.run.hart (bytes l.fn.run.memory)) l.fn.known.registers (bytes l.fn.known.marks)
          l.fn.known.shifts) seen
          (known_of (state_of l.run.hart (bytes l.run.memory)) l.known.registers (bytes l.known.marks)
          l.known.shifts)
          × (length (entries_of seen) ≡ l.entries);
      extent : (a : ℕ) → is_some (bytes l.known.marks a) ≡ is_some (bytes l.run.memory a);
      told : IsTrue g.E.Sink.TELLS
          → WentOut l.lines.whole l.lines.count (collected (g.E.Sink.taken l.fn.err) (g.E.Sink.failures l.fn.err))
          (collected (g.E.Sink.taken l.err) (g.E.Sink.failures l.err));
    }

abbrev pub decreases-loop-left : goal.decreases-loop-left
decreases-loop-left g l = l.left
