use Rattle.explanations.proofs.refusal_details.number_lines.index_line.Goals as goal

pub returns : goal.returns
returns c = rw c.in_ok-index.ensures at c.format.ensures.ok
