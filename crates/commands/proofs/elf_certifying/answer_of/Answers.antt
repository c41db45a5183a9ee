use Rattle.std.proofs.Common.{Ok, subst, sym}
use Rattle.commands.specs.Below.{CertifiedFunction, RunOptions}
use Rattle.commands.proofs.elf_certifying.answer_of.Goals as goal

pub text_of-requires-clause-certified : goal.text_of-requires-clause-certified
text_of-requires-clause-certified g c =
    subst
    (λ (run : RunOptions). CertifiedFunction c.args.program.now c.args.asked.now run (Ok c.in_ok-certificate.certificate))
    (sym c.run_options-run.ensures.exact) c.in_ok-certificate.ensures.certified
