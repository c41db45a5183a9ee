-- So many steps were made, they showed so many entries, and a line went out behind each so many after which the run went
-- on.
use Rattle.std.proofs.Common.{suc, ◌+◌, ◌*◌, ◌≤◌, ◌<◌, IsTrue}
use Rattle.run_reports.specs.Below.{code_of, collected, state_of}
use Rattle.run_reports.specs.progress.GoingOn.{GoesOn, Reaches}
use Rattle.run_reports.specs.progress.Lines.{steps_a_line, WentOut}
use Rattle.run_reports.proofs.pictures_lemmas.Painted.{CountedBefore}
use Rattle.run_reports.proofs.progress_lemmas.Followed.{Followed}
use Rattle.run_reports.proofs.pictures.painting.length_of.Given as goal

abbrev pub invariant-steps : goal.invariant-steps
invariant-steps g l =
    let bytes = g.M.Memory.bytes in
    let code = code_of l.code in
    let budget = l.fn.run.steps_left in
    let s = state_of l.fn.run.hart (bytes l.fn.run.memory) in
    let t = state_of l.run.hart (bytes l.run.memory) in
    record {
      counted : CountedBefore code budget s l.run.steps_left t l.steps l.entries;
      followed : Followed code budget s l.run.steps_left t l.steps;
      few : l.steps + l.run.steps_left ≤ budget;
      entries_few : l.entries ≤ 2 * l.steps;
      last : l.lines.count * steps_a_line ≤ l.steps;
      due : l.steps ≤ suc l.lines.count * steps_a_line;
      next : 0 < l.run.steps_left → l.steps < suc l.lines.count * steps_a_line;
      reached : Reaches (GoesOn code budget s) l.lines.count;
      told : IsTrue g.E.Sink.TELLS
          → WentOut l.lines.whole l.lines.count (collected (g.E.Sink.taken l.fn.err) (g.E.Sink.failures l.fn.err))
          (collected (g.E.Sink.taken l.err) (g.E.Sink.failures l.err));
    }

abbrev pub decreases-steps : goal.decreases-steps
decreases-steps g l = l.run.steps_left
