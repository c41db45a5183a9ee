-- Another piece, or the last one.
use Rattle.std.proofs.Common.{◌≡◌, ◌+◌, ◌*◌, [], ◌++◌, inl, inr, sym, arith}
use Rattle.run_reports.proofs.progress_lemmas.Pieces.{all_made, run_after, stop_after, not_on}
use Rattle.run_reports.proofs.progress_lemmas.Told.{none_yet, all_told, lines_of_run, lines_at_end}
use Rattle.rv_machine.proofs.Face.{Leads-append}
use Rattle.run_reports.specs.progress.Lines.{steps_a_line}
use Rattle.run_reports.specs.Below.{collected, stays}
use Rattle.run_reports.proofs.progress.running.run_in_pieces.Goals as goal

pub pieces-init : goal.pieces-init
pieces-init g c =
    let none : 0 ≡ c.new-lines.result.count * steps_a_line = omega arith in
    record {
      made = omega arith;
      more = inl c.new-lines.ensures.none;
      led = ([], rw (sym none) stays);
      told = λ tells. none_yet c.new-lines.result.whole c.new-lines.result.count
          (collected (g.E.Sink.taken c.args.err.now) (g.E.Sink.failures c.args.err.now))
          c.new-lines.ensures.whole c.new-lines.ensures.none;
    }

pub returns-then-running-le-STEPS_A_LINE-clause-ran : goal.returns-then-running-le-STEPS_A_LINE-clause-ran
returns-then-running-le-STEPS_A_LINE-clause-ran g c =
    let led = c.pieces.invariant.led in
    let run = c.run-stop.ensures.steps in
    let last = c.piece_of.ensures.last c.if-running-le-STEPS_A_LINE.true in
    (led.0 ++ run.0, run_after led.1 run.1 (omega arith) (c.run-stop.ensures.ready tt))

pub returns-then-running-le-STEPS_A_LINE-clause-told : goal.returns-then-running-le-STEPS_A_LINE-clause-told
returns-then-running-le-STEPS_A_LINE-clause-told g c = λ tells.
    let lines = c.pieces.lines in (
      lines.count,
      lines_at_end c.pieces.invariant.led c.pieces.invariant.made c.pieces.invariant.more
          c.if-running-le-STEPS_A_LINE.true,
      all_told lines.whole lines.count _ _ (c.pieces.invariant.told tells),
    )

pub returns-then-not-is_spent : goal.returns-then-not-is_spent
returns-then-not-is_spent g c =
    let lines = c.pieces.lines in
    let led = c.pieces.invariant.led in
    let run = c.run-stop.ensures.steps in
    let left = c.if-running-le-STEPS_A_LINE.false in
    let whole = c.piece_of.ensures.whole left in
    let calm = c.run-stop.ensures.ready tt in
    let piece : lines.count * steps_a_line + steps_a_line ≡ lines.count * steps_a_line + c.piece_of.result =
    omega arith in
    let other = c.is_spent.ensures.stopped c.if-not-is_spent.true in
    record {
      ran = (
        led.0 ++ run.0,
        stop_after led.1 run.1 (omega arith) calm other,
      );
      calm = calm;
      told = λ tells. (
        lines.count,
        lines_of_run led c.pieces.invariant.made c.pieces.invariant.more
            (λ seen u all. not_on led.1 run.1 calm other (rw piece at all)),
        all_told lines.whole lines.count _ _ (c.pieces.invariant.told tells),
      );
    }

pub pieces-preserved : goal.pieces-preserved
pieces-preserved g c =
    let led = c.pieces.invariant.led in
    let run = c.run-stop.ensures.steps in
    let left = c.if-running-le-STEPS_A_LINE.false in
    let whole = c.piece_of.ensures.whole left in
    let spent = c.is_spent.ensures.spent c.if-not-is_spent.false in
    let next : c.pieces.lines.count * steps_a_line + c.piece_of.result ≡ c.tell.new.self.count * steps_a_line =
    omega arith in
    record {
      made = omega arith;
      more = inr (omega arith);
      led = (led.0 ++ run.0, rw (sym next) (Leads-append led.1 (all_made run.1 spent)));
      told = λ tells. c.tell.ensures.told
          (collected (g.E.Sink.taken c.args.err.now) (g.E.Sink.failures c.args.err.now))
          tells (c.pieces.invariant.told tells);
    }
