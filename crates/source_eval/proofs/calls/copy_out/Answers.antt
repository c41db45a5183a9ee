use Rattle.std.proofs.Common.{◌∙◌}
use Rattle.source_eval.specs.Views.{held}
use Rattle.source_eval.proofs.LoopLemmas.{copied_all}
use Rattle.source_eval.proofs.calls.copy_out.Goals as goal

pub returns-in_default-clause-ok : goal.returns-in_default-clause-ok
returns-in_default-clause-ok c =
    copied_all (held c.loop-index.caller) (held c.args.inner.now) c.args.parameters.now c.args.arguments.now
    c.loop-index.index c.in_default.ensures.lookup.0 ∙ c.loop-index.invariant
