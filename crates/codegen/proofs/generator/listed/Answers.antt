use Rattle.std.proofs.Common.{◌≡◌, ℕ, ◌+◌, ◌*◌, ◌^◌, ◌<◌, ◌≤◌, arith, List, length, map, ap, ap₂, subst, ◌∙◌}
use Rattle.codegen.proofs.Machine.{frame_of, program_slots, step_limit, slots_from, temporaries_offset}
use Rattle.codegen.proofs.Machine.{Allocation, Frame, most_words, program_height, result_slot, word_of, Instr, slots_to}
use Rattle.codegen.proofs.Logic.{option_map}
use Rattle.codegen.proofs.ImageLemmas.{image_allowed, room_frame}
use Rattle.codegen.proofs.Language.{StraightProgram}
use Rattle.codegen.proofs.Logic.{recursion_from_All}
use Rattle.std.specs.List.{AllByRecursion}
use Rattle.codegen.proofs.generator.listed.Goals as goal

-- the bytes of the frame, as they are added up
bytes_are : (a : Allocation) (p : StraightProgram) {height start slots : ℕ} {layout : Frame}
    → start ≡ temporaries_offset layout → layout ≡ frame_of a p → slots ≡ slots_to a.count height
    → height ≡ program_height p → start + 4 * slots ≡ temporaries_offset (frame_of a p) + 4 * program_slots a p
bytes_are a p start layout slots height =
    ap₂ (λ m n. m + 4 * n) (start ∙ ap temporaries_offset layout) (slots ∙ ap (slots_to a.count) height)

pub overflow_add-frame_bytes : goal.overflow_add-frame_bytes
overflow_add-frame_bytes c =
    let p = c.args.straight.now in
    let a = c.args.layout.now.allocation in
    let is = bytes_are a p c.temporaries.ensures c.requires.frame c.temporary_slots.ensures c.requires.height in
    omega (arith, is, room_frame a p c.requires.room)

pub new-requires : goal.new-requires
new-requires c =
    let p = c.args.straight.now in
    let a = c.args.layout.now.allocation in
    let slots = c.in_ok-slots.ensures ∙ ap (λ ps. slots_from 0 ps) c.parameters.ensures in
    let frame = bytes_are a p c.temporaries.ensures c.requires.frame c.temporary_slots.ensures c.requires.height in
    let steps = c.step_limit-max_steps.ensures ∙ ap step_limit c.work.ensures in
    let words = c.in_ok-words.ensures.words ∙ ap (λ code. map word_of code) c.requires.code in
    let short = subst (λ (code : List Instr). length code ≤ most_words p.nodes) c.requires.code c.requires.within in
    let fit = recursion_from_All (λ word. word < 2 ^ 32) c.in_ok-words.words.items c.in_ok-words.ensures.fit in
    let returned = c.result_slot-returned.ensures
    ∙ ap (λ (f : Frame). option_map (result_slot f.declared) p.returned) c.requires.frame in
    rw (slots, returned, frame, steps, words)
    (image_allowed a p _ c.requires.room c.requires.fitting short
    (subst (AllByRecursion (λ word. word < 2 ^ 32)) words fit))
