use Rattle.std.proofs.Common.{◌∙◌}
use Rattle.functions.specs.function_text.Functions.{parts_of}
use Rattle.functions.proofs.function_text_lemmas.SectionTexts.{begins, entry_is}
use Rattle.functions.proofs.function_text.assembler.push_entry.Goals as goal

pub returns-clause-written : goal.returns-clause-written
returns-clause-written c =
    entry_is c.args.notation (parts_of c.args.function.now) c.in_ok-distance.distance
    c.around_body-around.result.pace c.as_slice-2.result.now c.as_slice.result.now
    (c.as_slice-2.ensures.value ∙ c.in_ok-sections.ensures) (c.as_slice.ensures.value ∙ c.in_ok-leave.ensures)
    c.around_body-around.ensures.pace c.in_ok-distance.ensures _ _
    (rw c.as_str-name.ensures at c.in_ok-end.ensures.written)

pub returns-clause-ends : goal.returns-clause-ends
returns-clause-ends c =
    begins c.args.notation (parts_of c.args.function.now) c.in_ok-distance.distance
    c.around_body-around.result.pace c.as_slice-2.result.now c.as_slice.result.now
    (c.as_slice-2.ensures.value ∙ c.in_ok-sections.ensures) (c.as_slice.ensures.value ∙ c.in_ok-leave.ensures)
    c.around_body-around.ensures.pace c.in_ok-distance.ensures c.in_ok-end.end c.in_ok-end.ensures.ends
