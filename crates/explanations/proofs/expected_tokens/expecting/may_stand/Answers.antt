use Rattle.explanations.specs.Below.{accepted, program_tree, Reads, refused}
use Rattle.explanations.specs.expected_tokens.Expected.{by_answer}
use Rattle.explanations.proofs.expected_tokens_lemmas.ExpectedLemmas.{placed_at}
use Rattle.explanations.proofs.expected_tokens.expecting.may_stand.Goals as goal

pub returns-in-Ok : goal.returns-in-Ok
returns-in-Ok c =
    by_answer (accepted (program_tree c.in-Ok.field-0))
    (rw (c.as_str.ensures.value, c.in_ok-text.ensures.ok) at c.in-Ok.ensures.accepted)

pub returns-in-Some : goal.returns-in-Some
returns-in-Some c =
    let read = placed_at (Reads c.as_str.result.now) c.in-Err.refusal c.in-Some.place c.in-Some.is
    c.in-Err.ensures.refused in
    rw (c.lacks_tokens.ensures, c.as_str-in-Some.ensures.value, c.in_ok-text.ensures.ok)
    (by_answer (refused c.in-Err.refusal.rule c.in-Some.place)
    (rw (c.as_str.ensures.value, c.in_ok-text.ensures.ok) at read))
