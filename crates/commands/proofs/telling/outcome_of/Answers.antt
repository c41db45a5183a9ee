use Rattle.std.proofs.Common.{inr}
use Rattle.commands.specs.Below.{collected, HasLines, Reaches}
use Rattle.commands.proofs.ProgressLemmas.{on_ok}
use Rattle.commands.proofs.StepLemmas.{err_map, ok_map, progress_tells, quiet_tells}
use Rattle.commands.proofs.telling.outcome_of.Goals as goal

pub returns-then-options-2-clause-told : goal.returns-then-options-2-clause-told
returns-then-options-2-clause-told g c = λ tells.
    ok_map c.execute_telling.result
    (progress_tells HasLines c.args.options c.args.image.now c.args.args.now _ _ c.if-options.false c.if-options-2.true)
    (c.execute_telling.ensures.told tells)

pub returns-then-options-2-clause-part : goal.returns-then-options-2-clause-part
returns-then-options-2-clause-part g c = λ tells.
    err_map c.execute_telling.result
    (λ told. inr (progress_tells Reaches c.args.options c.args.image.now c.args.args.now _ _ c.if-options.false
    c.if-options-2.true told))
    (c.execute_telling.ensures.part tells)

pub returns-else-options-2-clause-told : goal.returns-else-options-2-clause-told
returns-else-options-2-clause-told g c = λ tells.
    on_ok c.execute.result
    (quiet_tells HasLines c.args.options c.args.image.now c.args.args.now
    (collected (g.E.Sink.taken c.args.err.now) (g.E.Sink.failures c.args.err.now)) c.if-options.false
    c.if-options-2.false)
