use Rattle.explanations.proofs.refusal_details.why_lines.shared_line.Goals as goal

pub returns : goal.returns
returns c = rw (c.name_at-array.ensures, c.name_at-one.ensures, c.name_at-other.ensures) at c.format.ensures.ok
