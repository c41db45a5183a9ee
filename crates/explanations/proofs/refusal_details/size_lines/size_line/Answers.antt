use Rattle.explanations.proofs.refusal_details.size_lines.size_line.Goals as goal

pub returns : goal.returns
returns c = rw (c.or_more-or_more.ensures, c.in_ok-part.ensures) at c.format.ensures.ok
