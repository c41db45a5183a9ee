-- The next line: it goes out or a call fails, or one failed before.
use Rattle.std.proofs.Common.{◌≡◌, ℕ, ◌*◌, suc, true, ◌++◌, Result, Ok, Err, OnOk, OnErr, add-one, arith}
use Rattle.std.specs.Result.{is_ok}
use Rattle.run_reports.specs.progress.Lines.{steps_a_line, progress_line, WentOut}
use Rattle.run_reports.proofs.progress_lemmas.Told.{told_next, cut_next, still_cut}
use Rattle.run_reports.specs.Below.{Collected, GainsPart, one_more}
use Rattle.run_reports.proofs.progress.lines.ProgressLines.tell.Goals as goal

-- by what the call answered
by_answer : {T E : Type 0} (count steps : ℕ) (before now after : Collected) (answer : Result T E)
    → suc count * steps_a_line ≡ steps → OnOk answer (after.bytes ≡ now.bytes ++ progress_line steps)
    → OnOk answer (after.failures ≡ now.failures)
    → OnErr answer (GainsPart now.bytes after.bytes (progress_line steps))
    → OnErr answer (after.failures ≡ one_more now.failures) → WentOut true count before now
    → WentOut (is_ok answer) (suc count) before after
by_answer count steps before now after (Ok done) is whole calm part failed so_far =
    told_next count before now after so_far (rw is whole) calm
by_answer count steps before now after (Err fault) is whole calm part failed so_far =
    cut_next count before now after so_far (rw is part) failed

pub returns-then-self-clause-told : goal.returns-then-self-clause-told
returns-then-self-clause-told g c = λ before tells so_far.
    rw (add-one, c.is_ok-self.ensures.value)
    (by_answer c.args.self.now.count _ before _ _ c.put_line.result (omega arith) (c.put_line.ensures.whole tells)
    c.put_line.ensures.calm (c.put_line.ensures.beginning tells) c.put_line.ensures.counts
    (rw c.if-self.true at so_far))

pub returns-else-self-clause-told : goal.returns-else-self-clause-told
returns-else-self-clause-told g c = λ before tells so_far.
    rw (add-one, c.if-self.false) (still_cut c.args.self.now.count before _ (rw c.if-self.false at so_far))
