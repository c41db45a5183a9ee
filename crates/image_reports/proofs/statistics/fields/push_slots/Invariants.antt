-- The lines so far, and those of the parameters that are left, are all.
use Rattle.std.proofs.Common.{◌≡◌, ◌++◌, drop}
use Rattle.std.specs.String.{string_bytes}
use Rattle.image_reports.specs.statistics.FieldsText.{slot_lines}
use Rattle.image_reports.proofs.statistics.fields.push_slots.Given as goal

abbrev pub invariant-loop-number : goal.invariant-loop-number
invariant-loop-number l = string_bytes l.text ++ slot_lines l.number (drop l.number l.slots)
    ≡ string_bytes l.fn.text ++ slot_lines 0 l.slots
