use Rattle.std.proofs.lemmas.List.{append_assoc}
use Rattle.explanations.proofs.refusal_details.type_lines.typed_text.Goals as goal

pub returns-in-Parameter : goal.returns-in-Parameter
returns-in-Parameter c =
    simp (c.in-Parameter.is, append_assoc, ← c.name_at-name.ensures, ← c.in_ok-value.ensures) c.format.ensures.ok
