use Rattle.std.proofs.Common.{◌+◌, ◌%◌, ◌^◌, ◌++◌, ℕ, List, length, sym, ap, ◌∙◌}
use Rattle.functions.specs.Below.{body_words, code_of, copier_of}
use Rattle.compilation.specs.Needs.{needs_as}
use Rattle.linked_calls.specs.declared.section.Section.{Section}
use Rattle.functions.proofs.function_code_lemmas.WordLemmas.{all_pushed}
use Rattle.functions.proofs.function_code.words.function_words.Goals as goal

pub returns : goal.returns
returns c =
    let image = c.args.image.now in
    let pace = c.around_body-around.result.pace in
    let leave = c.as_slice.ensures.value ∙ sym c.as_slice-3.ensures.value in
    all_pushed image (needs_as c.args.needs.now) c.args.pace c.new-words.result.items
    c.push_sections.new.words.items c.extend_from_slice.new.self.items c.push_sections-2.new.words.items
    c.push_sections-3.new.words.items pace c.in_ok-behind.behind
    c.as_slice-2.result.now c.as_slice-3.result.now c.as_slice-4.result.now
    c.new-words.ensures.items c.in_ok-push_sections.ensures
    (c.in_ok-extend_from_slice.ensures.items
    ∙ ap (λ (xs : List ℕ). c.push_sections.new.words.items ++ xs) c.body.ensures)
    c.in_ok-push_sections-2.ensures c.in_ok-push_sections-3.ensures
    (c.as_slice-2.ensures.value ∙ c.in_ok-enter.ensures) (c.as_slice-3.ensures.value ∙ c.in_ok-leave.ensures)
    (c.as_slice-4.ensures.value ∙ c.in_ok-last.ensures image
    (c.around_body-around.ensures.copier ∙ ap (copier_of image) (sym c.around_body-around.ensures.pace)))
    c.around_body-around.ensures.pace
    (c.in_ok-behind.ensures
    ∙ ap (λ (xs : List Section). (length (body_words image.words) + length (code_of image pace 0 xs)) % 2 ^ 32) leave)
