use Rattle.explanations.proofs.refusal_details.number_lines.number_line.Goals as goal

pub returns : goal.returns
returns c = rw (c.greatest-most.ensures, c.kind_text-kind.ensures) at c.format.ensures.ok
