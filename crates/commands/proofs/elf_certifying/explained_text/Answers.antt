use Rattle.std.proofs.Common.{◌++◌, ◌∙◌, List, ℕ, ap}
use Rattle.commands.proofs.ExecutableLemmas.{stands_in_program}
use Rattle.commands.proofs.elf_certifying.explained_text.Goals as goal
use Rattle.elf_runs.specs.declared.certifying.FunctionCertificate.TheVariants.{MayDiffer}

pub difference_text-requires : goal.difference_text-requires
difference_text-requires c =
    stands_in_program c.args.program.now c.args.asked.now c.args.options (MayDiffer c.args.entry c.args.pc)
    c.requires.certified

pub explain_function-requires-clause-differs : goal.explain_function-requires-clause-differs
explain_function-requires-clause-differs c = (c.args.entry, c.args.pc, c.requires.certified)

pub returns-clause-text : goal.returns-clause-text
returns-clause-text c =
    let first = c.in_ok-text.text.items in (
      first,
      c.in_ok-lines.lines.items,
      c.in_ok-text.ensures.text,
      c.in_ok-lines.ensures.text,
      c.in_ok-extend_from_slice.ensures.items ∙ ap (λ (shown : List ℕ). first ++ shown) c.as_slice.ensures.value,
    )
