use Rattle.std.proofs.Common.{◌≡◌, ℕ, ◌+◌, ◌<◌, ◌++◌, List, append_assoc, append-nil, drop, get_or, length, sym, ◌∙◌}
use Rattle.std.specs.String.{string_bytes}
use Rattle.std.proofs.lemmas.List.{at_drop_all, at_drop_more}
use Rattle.image_reports.specs.Below.{Slot}
use Rattle.image_reports.specs.statistics.FieldsText.{slot_line, slot_lines}
use Rattle.image_reports.proofs.certificates_lemmas.Below.{no_slot}
use Rattle.image_reports.proofs.statistics.fields.push_slots.Goals as goal

-- one more parameter
one_more : (slots : List Slot) (number : ℕ) (slot : Slot) (old new : List ℕ) → number < length slots
    → new ≡ old ++ slot_line number (get_or slots number slot)
    → new ++ slot_lines (number + 1) (drop (number + 1) slots) ≡ old ++ slot_lines number (drop number slots)
one_more slots number slot old new less pushed =
    rw (pushed, at_drop_more (slot_lines number) slots number slot less)
    (append_assoc old (slot_line number (get_or slots number slot)) (slot_lines (number + 1) (drop (number + 1) slots)))

pub loop-number-preserved : goal.loop-number-preserved
loop-number-preserved c =
    let l = c.loop-number in
    one_more c.args.slots.now l.number no_slot (string_bytes l.text) (string_bytes c.push_slot.new.text)
    c.loop-number-test.true c.in_ok-push_slot.ensures
    ∙ l.invariant

pub returns : goal.returns
returns c =
    let l = c.loop-number in
    let none = at_drop_all (slot_lines l.number) c.args.slots.now l.number c.loop-number-test.false in
    sym (append-nil (string_bytes l.text)) ∙ rw none at l.invariant
