use Rattle.std.proofs.Common.{rules}
use Rattle.image_reports.specs.certificates.Texts.{rule_of_given_text}
use Rattle.image_reports.proofs.certificates.reading.first_fault.Goals as goal

pub returns : goal.returns
returns c =
    c.first_fault_by.ensures (λ param text. rule_of_given_text param text.now) (λ param text broken is. search rules)
