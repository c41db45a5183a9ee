use Rattle.functions.proofs.function_code_lemmas.DistanceLemmas.{counted_on}
use Rattle.functions.proofs.function_code.sections.sections_length.Goals as goal

pub loop-section-preserved : goal.loop-section-preserved
loop-section-preserved c =
    counted_on c.args.image.now c.args.around.pace c.args.sections.now c.loop-section.section-index _
    c.loop-section-test.true c.loop-section.count c.in_ok-count.field-0 _ c.in_ok-count.ensures
    c.loop-section.invariant
