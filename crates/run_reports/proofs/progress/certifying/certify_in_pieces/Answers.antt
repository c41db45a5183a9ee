-- Another piece, or the last one.
use Rattle.std.proofs.Common.{◌≡◌, ◌+◌, ◌*◌, [], ◌++◌, length, inl, inr, refl, sym, ap, ◌∙◌, arith}
use Rattle.certified_runs.proofs.Ends.{run_after}
use Rattle.certified_runs.specs.Certified.{stays}
use Rattle.run_reports.proofs.progress_lemmas.KnownPieces.{leads_append, stretched, few_of_leads, few_at_end}
use Rattle.run_reports.proofs.progress_lemmas.KnownPieces.{comes_after, end_of_both, lines_of_known, lines_of_known_at_end}
use Rattle.run_reports.proofs.progress_lemmas.Told.{none_yet, all_told}
use Rattle.run_reports.specs.progress.Certified.{entries_at, end_behind}
use Rattle.run_reports.specs.progress.Lines.{steps_a_line}
use Rattle.run_reports.specs.Below.{collected, entries_of}
use Rattle.rv_machine.proofs.Face.{entry_count-append}
use Rattle.run_reports.proofs.progress.certifying.certify_in_pieces.Goals as goal

pub loop-left-init : goal.loop-left-init
loop-left-init g c =
    let none : 0 ≡ c.new-lines.result.count * steps_a_line = omega arith in
    record {
      made = omega arith;
      more = inl c.new-lines.ensures.none;
      led = ([], rw (sym none) stays, refl);
      extent = c.requires.extent;
      told = λ tells. none_yet c.new-lines.result.whole c.new-lines.result.count
          (collected (g.E.Sink.taken c.args.err.now) (g.E.Sink.failures c.args.err.now))
          c.new-lines.ensures.whole c.new-lines.ensures.none;
    }

pub end_behind-requires : goal.end_behind-requires
end_behind-requires g c =
    let led = c.loop-left.invariant.led in
    let run = c.certify-end.ensures.certified in
    omega (arith, led.2, few_of_leads led.1, few_at_end c.certify-end.result run.2 run.3)

pub returns-then-run-gt0 : goal.returns-then-run-gt0
returns-then-run-gt0 g c =
    let lines = c.loop-left.lines in
    let led = c.loop-left.invariant.led in
    let run = c.certify-end.ensures.certified in
    let some = c.if-run-gt0.true in
    record {
      certified = (
        led.0 ++ run.0,
        run.1,
        run_after led.1 (stretched run.2 (λ others later. c.certify-end.ensures.ended others later some)
            (omega arith)) c.loop-left.invariant.made,
        c.end_behind.ensures ∙ ap (end_behind c.loop-left.entries) run.3
            ∙ end_of_both led.0 run.0 run.1 c.loop-left.entries led.2,
      );
      stopped = λ left.
          rw c.end_behind.ensures (comes_after c.loop-left.entries c.certify-end.result led.1
          (c.certify-end.ensures.stopped left));
      spent = λ none. absurd (omega (arith, none, some));
      told = λ tells. (
        lines.count,
        lines_of_known (led.0, led.1) c.loop-left.invariant.made c.loop-left.invariant.more
            (λ others later. c.certify-end.ensures.ended others later some),
        all_told lines.whole lines.count _ _ (c.loop-left.invariant.told tells),
      );
    }

pub overflow_add-entries : goal.overflow_add-entries
overflow_add-entries g c =
    let led = c.loop-left.invariant.led in
    let run = c.certify-end.ensures.certified in
    omega (arith, led.2, few_of_leads led.1, few_at_end c.certify-end.result run.2 run.3)

pub loop-left-preserved : goal.loop-left-preserved
loop-left-preserved g c =
    let led = c.loop-left.invariant.led in
    let spent = c.certify-end.ensures.spent (omega arith) in
    let next : c.loop-left.lines.count * steps_a_line + steps_a_line ≡ c.tell.new.self.count * steps_a_line =
    omega arith in
    let more : c.entries_at-entries.result ≡ length (entries_of spent.0) =
    c.entries_at-entries.ensures ∙ ap entries_at spent.2 in
    record {
      made = omega arith;
      more = inr (omega arith);
      led = (
        led.0 ++ spent.0,
        rw (sym next) (leads_append led.1 spent.1),
        omega (arith, entry_count-append led.0 spent.0, led.2),
      );
      extent = c.certify-end.ensures.extent;
      told = λ tells. c.tell.ensures.told
          (collected (g.E.Sink.taken c.args.err.now) (g.E.Sink.failures c.args.err.now))
          tells (c.loop-left.invariant.told tells);
    }

pub end_behind-requires-2 : goal.end_behind-requires-2
end_behind-requires-2 g c =
    let led = c.loop-left.invariant.led in
    let run = c.certify-end-2.ensures.certified in
    omega (arith, led.2, few_of_leads led.1, few_at_end c.certify-end-2.result run.2 run.3)

pub returns-clause-certified : goal.returns-clause-certified
returns-clause-certified g c =
    let led = c.loop-left.invariant.led in
    let run = c.certify-end-2.ensures.certified in (
      led.0 ++ run.0,
      run.1,
      run_after led.1 run.2 c.loop-left.invariant.made,
      c.end_behind-2.ensures ∙ ap (end_behind c.loop-left.entries) run.3
          ∙ end_of_both led.0 run.0 run.1 c.loop-left.entries led.2,
    )

pub returns-clause-stopped : goal.returns-clause-stopped
returns-clause-stopped g c = λ left.
    let led = c.loop-left.invariant.led in
    rw c.end_behind-2.ensures (comes_after c.loop-left.entries c.certify-end-2.result led.1
    (c.certify-end-2.ensures.stopped left))

pub returns-clause-spent : goal.returns-clause-spent
returns-clause-spent g c = λ none.
    let spent = c.certify-end-2.ensures.spent none in (
      c.loop-left.entries + length (entries_of spent.0),
      c.end_behind-2.ensures ∙ ap (end_behind c.loop-left.entries) spent.2,
    )

pub returns-clause-told : goal.returns-clause-told
returns-clause-told g c = λ tells.
    let lines = c.loop-left.lines in
    let led = c.loop-left.invariant.led in (
      lines.count,
      lines_of_known_at_end (led.0, led.1) c.loop-left.invariant.made c.loop-left.invariant.more (omega arith),
      all_told lines.whole lines.count _ _ (c.loop-left.invariant.told tells),
    )
