use Rattle.std.proofs.Common.{refl}
use Rattle.explanations.specs.refusal_details.ExpectedLines.{tried, inside}
use Rattle.explanations.proofs.refusal_details_lemmas.DetailLemmas.{where_ok}
use Rattle.explanations.proofs.refusal_details.expectations.expected_lines.Goals as goal

pub returns-in_ok-names-in-Some : goal.returns-in_ok-names-in-Some
returns-in_ok-names-in-Some c =
    where_ok c.expected_line.result
    (λ line is. rw (rw c.as_slice.ensures.value at is)
    (tried (c.in-Some.ensures.variant.0 refl)
    (rw c.in-Some.ensures.front at c.in_ok-names-in-Some.ensures)))
    c.expected_line.ensures

pub returns-in-None : goal.returns-in-None
returns-in-None c =
    rw c.new.ensures.bytes (inside (λ boundary. let differ = c.in-None.ensures.variant.1 boundary in cc))
