use Rattle.std.proofs.Common.{sym, ap, ◌∙◌}
use Rattle.functions.specs.Below.{copier_of, last_sections}
use Rattle.functions.specs.function_text.Functions.{parts_of}
use Rattle.functions.proofs.function_text_lemmas.SectionTexts.{exit_is}
use Rattle.functions.proofs.function_text.assembler.push_exit.Goals as goal

pub returns : goal.returns
returns c =
    let image = c.args.function.now.image in
    let pace = c.around_body.ensures.pace in
    exit_is c.args.notation (parts_of c.args.function.now) c.args.start c.in_ok-end.end _ _ _ c.as_slice-leaving.result.now
    c.as_slice.result.now (rw c.as_str-name.ensures at c.in_ok-end.ensures.written) c.in_ok-end.ensures.ends
    (rw c.as_str-name.ensures at c.in_ok-push_sections.ensures.written)
    (c.as_slice-leaving.ensures.value ∙ c.in_ok-leave.ensures)
    (c.as_slice.ensures.value
    ∙ c.in_ok-last.ensures image (c.around_body.ensures.copier ∙ ap (copier_of image) (sym pace))
    ∙ ap (last_sections image) pace)
