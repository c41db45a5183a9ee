use Rattle.std.proofs.lemmas.List.{append_assoc}
use Rattle.listing.proofs.lines.append_operation.Goals as goal

pub returns : goal.returns
returns c =
    simp (
      c.append-5.ensures,
      c.append-4.ensures,
      c.append-3.ensures,
      c.append-2.ensures,
      c.append.ensures,
      c.eight_digits.ensures,
      c.eight_digits-2.ensures,
      append_assoc,
    )
