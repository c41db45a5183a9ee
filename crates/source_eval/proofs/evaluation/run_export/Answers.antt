use Rattle.std.proofs.Common.{◌∙◌}
use Rattle.source_eval.specs.Views.{held}
use Rattle.source_eval.proofs.LoopLemmas.{passes}
use Rattle.source_eval.proofs.StatementLemmas.{export_ends, export_stops}
use Rattle.source_eval.proofs.evaluation.run_export.Goals as goal

pub returns-in_err-word-clause-err : goal.returns-in_err-word-clause-err
returns-in_err-word-clause-err c =
    passes _ _ _ c.from_residual-in_err-word.ensures.1
    (export_stops c.args.earlier.now c.args.export.now c.args.args.now c.args.left.now c.as_slice-parameters.result.now
    (held c.in_ok-variables.variables) c.as_slice-parameters.ensures.value c.in_ok-variables.ensures.ok _
    c.in_err-word.ensures.err)

pub returns-clause-ok : goal.returns-clause-ok
returns-clause-ok c =
    export_ends c.args.earlier.now c.args.export.now c.args.args.now c.args.left.now c.as_slice-parameters.result.now
    (held c.in_ok-variables.variables) c.as_slice-parameters.ensures.value c.in_ok-variables.ensures.ok
    _ (held c.in_ok-word.ended) _ c.new.result c.in_ok-word.ensures.ok
    (c.new.ensures.returned ∙ c.number.ensures) (c.new.ensures.arrays ∙ c.in_ok-arrays.ensures.ok)
