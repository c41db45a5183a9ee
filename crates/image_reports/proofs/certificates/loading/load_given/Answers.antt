use Rattle.std.proofs.Common.{◌≡◌, List, All, is_some, ap, length, sym, subst, ◌∙◌, arith}
use Rattle.std.proofs.lemmas.List.Elements.{All-from_recursion}
use Rattle.image_reports.specs.Below.{ByteMap, code_base, Fields, frame_base, HoldsSlot, initial_registers, IsImage}
use Rattle.image_reports.specs.Below.{paged_bytes, pc_of, register_masks, regs_of, Slot, zeros}
use Rattle.image_reports.proofs.certificates_lemmas.Below.{slots_hold}
use Rattle.image_reports.specs.certificates.Given.{fault_of_given}
use Rattle.image_reports.specs.certificates.KnownImage.{marks_with_given, with_given}
use Rattle.image_reports.proofs.certificates_lemmas.LoadedLemmas.{as_many, params_in, same_known}
use Rattle.image_reports.proofs.certificates.loading.load_given.Goals as goal

-- each slot lies in a new frame
held : (image : Fields) → IsImage image → (bytes : ByteMap) (slots : List Slot)
    → bytes ≡ zeros frame_base image.frame_bytes → slots ≡ image.slots → All (HoldsSlot frame_base bytes) slots
held image allowed bytes slots fresh are =
    subst (λ (xs : List Slot). All (HoldsSlot frame_base bytes) xs) (sym are)
    (subst (λ (b : ByteMap). All (HoldsSlot frame_base b) image.slots) (sym fresh)
    (All-from_recursion (HoldsSlot frame_base (zeros frame_base image.frame_bytes)) image.slots
    (slots_hold frame_base image.frame_bytes image.slots allowed.slots_inside (omega (arith, allowed.frame_size)))))

pub put_given-requires-clause-faultless : goal.put_given-requires-clause-faultless
put_given-requires-clause-faultless c =
    ap (λ (slots : List Slot). fault_of_given (params_in slots) c.args.given.now) c.slots.ensures.slots ∙ c.requires

pub put_given-requires-clause-data : goal.put_given-requires-clause-data
put_given-requires-clause-data c =
    held c.args.image.now c.slots.ensures.allowed (paged_bytes c.in_ok-memory.memory) c.slots.result.now
    c.in_ok-memory.ensures c.slots.ensures.slots

pub forget_unknown-requires-clause-count : goal.forget_unknown-requires-clause-count
forget_unknown-requires-clause-count c =
    as_many c.args.image.now.slots c.args.given.now c.requires ∙ sym (ap length c.slots-2.ensures.slots)

pub forget_unknown-requires-clause-data : goal.forget_unknown-requires-clause-data
forget_unknown-requires-clause-data c =
    held c.args.image.now c.slots.ensures.allowed (paged_bytes c.new-known.result.marks) c.slots-2.result.now
    (ap paged_bytes c.new-known.ensures.marks ∙ c.in_ok-frame.ensures) c.slots-2.ensures.slots

pub returns-clause-known : goal.returns-clause-known
returns-clause-known c =
    let image = c.args.image.now in
    let given = c.args.given.now in
    let begun = zeros frame_base image.frame_bytes in
    let bytes =
    c.put_given.ensures.put
    ∙ (ap (λ (b : ByteMap). with_given frame_base b c.slots.result.now given) c.in_ok-memory.ensures
    ∙ ap (λ (xs : List Slot). with_given frame_base begun xs given) c.slots.ensures.slots) in
    let marks : paged_bytes c.new-known.result.marks ≡ begun = ap paged_bytes c.new-known.ensures.marks
    ∙ c.in_ok-frame.ensures in
    let known =
    c.forget_unknown.ensures.bytes
    ∙ (ap (λ (b : ByteMap). marks_with_given frame_base b c.slots-2.result.now given) marks
    ∙ ap (λ (xs : List Slot). marks_with_given frame_base begun xs given) c.slots-2.ensures.slots) in
    let masks = ap register_masks c.forget_unknown.ensures.registers ∙ c.new-known.ensures.registers in
    same_known (pc_of c.new.result) code_base (regs_of c.new.result) (initial_registers frame_base)
    (paged_bytes c.put_given.new.memory) _ (register_masks c.forget_unknown.new.known.registers) _
    (paged_bytes c.forget_unknown.new.known.marks) _
    c.forget_unknown.new.known.shifts c.args.shifts c.new.ensures.pc c.new.ensures.registers bytes masks known
    (c.forget_unknown.ensures.shifts ∙ c.new-known.ensures.shifts)

pub returns-clause-extent : goal.returns-clause-extent
returns-clause-extent c = λ a.
    let begun = zeros frame_base c.args.image.now.frame_bytes in
    let marks : paged_bytes c.new-known.result.marks ≡ begun = ap paged_bytes c.new-known.ensures.marks
    ∙ c.in_ok-frame.ensures in
    c.forget_unknown.ensures.extent a
    ∙ (ap (λ (b : ByteMap). is_some (b a)) (marks ∙ sym c.in_ok-memory.ensures)
    ∙ sym (c.put_given.ensures.extent a))

pub returns-clause-few : goal.returns-clause-few
returns-clause-few c = omega (arith, c.max_steps.ensures.steps, c.slots.ensures.allowed.steps)
