use Rattle.explanations.proofs.refusal_details.why_lines.fixed_line.Goals as goal

pub returns : goal.returns
returns c = rw c.name_at-name.ensures at c.format.ensures.ok
