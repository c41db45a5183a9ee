-- What both runs have shown so far is one list, and a line went out behind each so many steps after which both went on.
use Rattle.std.proofs.Common.{◌≡◌, suc, ◌+◌, ◌*◌, ◌≤◌, ◌<◌, List, length, IsTrue}
use Rattle.run_reports.proofs.progress_lemmas.Together.{InStep}
use Rattle.run_reports.specs.progress.GoingOn.{BothGoOn, Reaches}
use Rattle.run_reports.specs.progress.Lines.{steps_a_line, WentOut}
use Rattle.run_reports.specs.Below.{code_of, collected, entries_of, Observation, state_of}
use Rattle.run_reports.proofs.progress.comparing.compare_telling.Given as goal

abbrev pub invariant-steps : goal.invariant-steps
invariant-steps g l =
    let bytes = g.M.Memory.bytes in
    let code = code_of l.code in
    let budget = l.fn.one.steps_left in
    let s = state_of l.fn.one.hart (bytes l.fn.one.memory) in
    let t = state_of l.one.hart (bytes l.one.memory) in
    let s' = state_of l.fn.other.hart (bytes l.fn.other.memory) in
    let t' = state_of l.other.hart (bytes l.other.memory) in
    record {
      shown : (seen : List Observation) × (length seen ≡ l.made) × (length (entries_of seen) ≡ l.place)
          × InStep code budget s l.one.steps_left t s' l.other.steps_left t' seen;
      few : l.made + l.one.steps_left ≤ budget;
      few_entries : l.place ≤ 2 * l.made;
      last : l.lines.count * steps_a_line ≤ l.made;
      due : l.made ≤ suc l.lines.count * steps_a_line;
      next : 0 < l.one.steps_left → 0 < l.other.steps_left → l.made < suc l.lines.count * steps_a_line;
      reached : Reaches (BothGoOn code budget s s') l.lines.count;
      told : IsTrue g.E.Sink.TELLS
          → WentOut l.lines.whole l.lines.count (collected (g.E.Sink.taken l.fn.err) (g.E.Sink.failures l.fn.err))
          (collected (g.E.Sink.taken l.err) (g.E.Sink.failures l.err));
    }

abbrev pub decreases-steps : goal.decreases-steps
decreases-steps g l = l.one.steps_left
