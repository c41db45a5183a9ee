use Rattle.std.proofs.Common.{◌≡◌, ◌∙◌, ◌+◌, ◌%◌, ◌^◌, ℕ, length, ap, drop, get_or, refl, subst, sym}
use Rattle.functions.specs.Below.{code_of, section_code}
use Rattle.functions.specs.function_text.Functions.{parts_of}
use Rattle.functions.proofs.function_code_lemmas.DistanceLemmas.{left_first, left_on}
use Rattle.functions.proofs.function_text_lemmas.SectionTexts.{ends_on, text_on}
use Rattle.linked_calls.specs.declared.pace.Pace.{Pace}
use Rattle.linked_calls.specs.declared.section.Section.TheVariants.{RoomAboveFrame}
use Rattle.functions.proofs.function_text.assembler.push_sections.Goals as goal

pub loop-section-init : goal.loop-section-init
loop-section-init c = record {
  text = refl;
  at = refl;
  left = rw c.around_body-around.ensures.pace at c.in_ok-left.ensures;
}

pub loop-section-preserved : goal.loop-section-preserved
loop-section-preserved c =
    let f = parts_of c.args.function.now in
    let image = c.args.function.now.image in
    let pace = c.args.function.now.pace in
    let sections = c.args.sections.now in
    let i = c.loop-section.section-index in
    let some = c.loop-section-test.true in
    let held = c.loop-section.invariant in
    let mine = c.around_body-around.result.pace in
    let left : c.loop-section.left ≡ length (code_of image mine 0 (drop i sections)) % 2 ^ 32 =
    subst (λ (p : Pace). c.loop-section.left ≡ length (code_of image p 0 (drop i sections)) % 2 ^ 32)
    (sym c.around_body-around.ensures.pace) held.left in
    let code = c.in_ok-code.ensures (drop (i + 1) sections)
    (left_first image mine sections i RoomAboveFrame some c.loop-section.left left)
    ∙ ap (λ (p : Pace). section_code image p
    (length (code_of image p c.args.distance (drop (i + 1) sections)) + c.args.distance)
    (get_or sections i RoomAboveFrame))
    c.around_body-around.ensures.pace in
    let long : c.len.result ≡ length c.in_ok-code.code.items = search in
    let made = c.as_slice.ensures.value ∙ code in
    record {
      text = text_on c.args.notation c.args.name.now f c.args.distance sections i RoomAboveFrame some _ _ _ _ _ c.as_slice.result.now
          c.in_ok-at.ensures.written made c.in_ok-at.ensures.ends held.text;
      at = ends_on c.args.notation c.args.name.now f c.args.distance sections i RoomAboveFrame some _ _ _ c.as_slice.result.now made
          c.in_ok-at.ensures.ends held.at;
      left = left_on image pace sections i RoomAboveFrame some c.loop-section.left c.wrapped-left.result _ c.in_ok-code.code.items
          held.left code (c.wrapped-left.ensures ∙ ap (λ (n : ℕ). n % 2 ^ 32) long);
    }
