-- A word stands where the step is made that may differ.
use Rattle.commands.specs.Below.{MayDiffer}
use Rattle.commands.proofs.CertificateLemmas.{stands_in_code}
use Rattle.commands.proofs.certifying.explained_text.Goals as goal

pub difference_text-requires : goal.difference_text-requires
difference_text-requires c =
    stands_in_code c.args.image.now c.args.given.now c.args.shifts (MayDiffer c.args.entry c.args.pc) c.requires

pub explain_certificate-requires : goal.explain_certificate-requires
explain_certificate-requires c = (c.args.entry, c.args.pc, c.requires)
