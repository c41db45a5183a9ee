-- An instruction begins where the step is made that may differ.
use Rattle.commands.proofs.ExecutableLemmas.{stands_in_program}
use Rattle.commands.proofs.elf_certifying.text_of.Goals as goal
use Rattle.elf_runs.specs.declared.certifying.FunctionCertificate.TheVariants.{MayDiffer}

pub difference_text-requires : goal.difference_text-requires
difference_text-requires c =
    stands_in_program c.args.program.now c.args.asked.now c.args.options
    (MayDiffer c.in-MayDiffer.entry c.in-MayDiffer.pc) (rw c.in-MayDiffer.is at c.requires.certified)
