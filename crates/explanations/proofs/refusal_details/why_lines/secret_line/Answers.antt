use Rattle.explanations.proofs.refusal_details.why_lines.secret_line.Goals as goal

pub returns-in-Some : goal.returns-in-Some
returns-in-Some c = rw c.in-Some.is (rw c.name_at-name.ensures at c.format.ensures.ok)
