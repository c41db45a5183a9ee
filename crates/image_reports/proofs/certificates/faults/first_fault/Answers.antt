use Rattle.std.proofs.Common.{◌∙◌}
use Rattle.image_reports.proofs.certificates_lemmas.Below.{fault_by-shown}
use Rattle.image_reports.specs.certificates.Given.{rule_of_given}
use Rattle.image_reports.specs.Below.{Slot}
use Rattle.image_reports.proofs.certificates.faults.first_fault.Goals as goal

pub returns : goal.returns
returns c =
    c.first_fault_by.ensures (λ slot one. rule_of_given slot.param one) (λ slot one broken is. is)
    ∙ fault_by-shown (λ (slot : Slot). slot.param) rule_of_given c.args.slots.now c.args.given.now
