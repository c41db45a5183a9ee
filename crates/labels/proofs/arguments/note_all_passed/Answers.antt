use Rattle.labels.proofs.RuleLemmas.{from-met, from-noted}
use Rattle.labels.proofs.arguments.note_all_passed.Goals as goal

pub loop-index-preserved : goal.loop-index-preserved
loop-index-preserved c = record {
  met = from-met c.index-parameters-index.result _ c.loop-index.index c.args.names.now c.args.place c.args.parameters.now c.args.types.now
      c.args.arguments.now c.index-arguments-index.result c.loop-index-test.true c.requires.types c.requires.arguments
      c.index-parameters-index.is c.index-arguments-index.is c.loop-index.met c.note_passed-met.result _ c.loop-index.invariant.met
      c.note_passed-met.ensures.met;
  findings = from-noted c.index-parameters-index.result _ c.loop-index.index c.args.names.now c.args.place c.args.parameters.now c.args.types.now
      c.args.arguments.now c.index-arguments-index.result c.loop-index-test.true c.requires.types c.requires.arguments
      c.index-parameters-index.is c.index-arguments-index.is c.loop-index.findings c.note_passed-met.new.findings _
      c.loop-index.invariant.findings c.note_passed-met.ensures.findings;
}
