use Rattle.std.specs.String.{string_bytes}
use Rattle.explanations.proofs.refusal_details_lemmas.DetailLemmas.{where_ok}
use Rattle.explanations.proofs.refusal_details.expectations.unexpected_lines.Goals as goal

pub returns : goal.returns
returns c =
    where_ok c.format.result
    (λ lines is. (
      string_bytes c.in_ok-expected.expected,
      string_bytes c.in_ok-habit.habit,
      c.in_ok-expected.ensures,
      c.in_ok-habit.ensures,
      is,
    )) c.format.ensures.ok
