-- A word stands where the step is made that may differ.
use Rattle.commands.specs.Below.{MayDiffer}
use Rattle.commands.proofs.CertificateLemmas.{stands_in_code}
use Rattle.commands.proofs.certifying.certificate_lines.Goals as goal

pub difference_text-requires : goal.difference_text-requires
difference_text-requires c =
    stands_in_code c.args.image.now c.args.given.now c.args.shifts
    (MayDiffer c.in-MayDiffer.entry c.in-MayDiffer.pc) (rw c.in-MayDiffer.is at c.requires)
