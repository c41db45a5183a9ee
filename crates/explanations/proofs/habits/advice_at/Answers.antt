-- The advice is that for the tokens of the source; of a source whose refusal has a place there are none.
use Rattle.std.proofs.Common.{length, sym, ◌∙◌, ⊎_elim}
use Rattle.std.proofs.lemmas.Bool.{cases_lt}
use Rattle.std.proofs.lemmas.Option.{none-some}
use Rattle.tokens.specs.Limits.{source_limit}
use Rattle.explanations.specs.habits.Habits.{by_tokens, too_long}
use Rattle.explanations.proofs.habits.advice_at.Goals as goal

pub returns-in-Ok : goal.returns-in-Ok
returns-in-Ok c =
    rw (c.advice_for.ensures, c.spot_around-spot.ensures, c.as_slice.ensures.value) (by_tokens c.in-Ok.ensures.tokens)

pub returns-in-Some : goal.returns-in-Some
returns-in-Some c =
    ⊎_elim too_long
    (λ within. absurd (none-some c.in-Some.field-0 (sym (c.in-Err.ensures.memory within).1 ∙ c.in-Some.is)))
    (cases_lt source_limit (length c.args.source.now))
