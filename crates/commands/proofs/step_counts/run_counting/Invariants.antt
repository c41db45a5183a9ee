-- So many steps were made, none of which stopped; where it is asked for, a line went out behind each so many.
use Rattle.std.proofs.Common.{◌≡◌, suc, ◌+◌, ◌*◌, ◌≤◌, ◌<◌, true, false, List, IsTrue}
use Rattle.commands.specs.Below.{code_of, collected, GoesOn, Leads, Observation, Reaches, state_of}
use Rattle.run_reports.specs.progress.Lines.{steps_a_line, WentOut}
use Rattle.commands.proofs.step_counts.run_counting.Given as goal

abbrev pub invariant-steps : goal.invariant-steps
invariant-steps g l =
    let code = code_of l.code in
    let budget = l.fn.running.steps_left in
    let s = state_of l.fn.running.hart (g.M.Memory.bytes l.fn.running.memory) in
    record {
      counted : l.made + l.running.steps_left ≡ budget;
      led : (seen : List Observation)
          × Leads code l.made s seen (state_of l.running.hart (g.M.Memory.bytes l.running.memory));
      last : l.lines.count * steps_a_line ≤ l.made;
      due : l.progress ≡ true → l.made ≤ suc l.lines.count * steps_a_line;
      next : l.progress ≡ true → 0 < l.running.steps_left → l.made < suc l.lines.count * steps_a_line;
      reached : Reaches (GoesOn code budget s) l.lines.count;
      quiet : l.progress ≡ false → l.err ≡ l.fn.err;
      told : IsTrue g.E.Sink.TELLS
          → WentOut l.lines.whole l.lines.count (collected (g.E.Sink.taken l.fn.err) (g.E.Sink.failures l.fn.err))
          (collected (g.E.Sink.taken l.err) (g.E.Sink.failures l.err));
    }

abbrev pub decreases-steps : goal.decreases-steps
decreases-steps g l = l.running.steps_left
