-- What is still to be shown has the marks that are left, and a line went out behind each so many steps after which one of
-- the runs went on.
use Rattle.std.proofs.Common.{◌≡◌, suc, ◌+◌, ◌*◌, ◌^◌, ◌≤◌, ◌<◌, ◌⊎◌, IsTrue}
use Rattle.run_reports.specs.Below.{code_of, collected, state_of}
use Rattle.run_reports.specs.progress.GoingOn.{OneGoesOn, Reaches}
use Rattle.run_reports.specs.progress.Lines.{steps_a_line, WentOut}
use Rattle.run_reports.proofs.pictures_lemmas.Painted.{Painted}
use Rattle.run_reports.proofs.progress_lemmas.Followed.{Followed}
use Rattle.run_reports.proofs.pictures.painting.paint.Given as goal

abbrev pub invariant-steps : goal.invariant-steps
invariant-steps g l =
    let bytes = g.M.Memory.bytes in
    let code = code_of l.code in
    let m = l.fn.one.steps_left in
    let s = state_of l.fn.one.hart (bytes l.fn.one.memory) in
    let n = l.one.steps_left in
    let t = state_of l.one.hart (bytes l.one.memory) in
    let m' = l.fn.other.steps_left in
    let s' = state_of l.fn.other.hart (bytes l.fn.other.memory) in
    let n' = l.other.steps_left in
    let t' = state_of l.other.hart (bytes l.other.memory) in
    record {
      painted : Painted l.fn.grid.axes code m s n t m' s' n' t' l.step l.parting l.grid.cells.items;
      one : Followed code m s n t l.step;
      other : Followed code m' s' n' t' l.step;
      few : l.step < 2 ^ 63;
      axes : l.grid.axes ≡ l.fn.grid.axes;
      last : l.lines.count * steps_a_line ≤ l.step;
      due : l.step ≤ suc l.lines.count * steps_a_line;
      next : (0 < n) ⊎ (0 < n') → l.step < suc l.lines.count * steps_a_line;
      reached : Reaches (OneGoesOn code m s m' s') l.lines.count;
      told : IsTrue g.E.Sink.TELLS
          → WentOut l.lines.whole l.lines.count (collected (g.E.Sink.taken l.fn.err) (g.E.Sink.failures l.fn.err))
          (collected (g.E.Sink.taken l.err) (g.E.Sink.failures l.err));
    }

abbrev pub decreases-steps : goal.decreases-steps
decreases-steps g l = l.one.steps_left + l.other.steps_left
