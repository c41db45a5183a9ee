use Rattle.std.proofs.Common.{Some, None}
use Rattle.explanations.proofs.refusal_details_lemmas.DetailLemmas.{where_ok}
use Rattle.explanations.proofs.refusal_details.expectations.habit_line.Goals as goal

pub returns-in-Some : goal.returns-in-Some
returns-in-Some c =
    where_ok c.format.result (λ line is. (Some c.in-Some.advice.now, rw c.in-Some.is at c.in_ok-advice.ensures, is))
    c.format.ensures.ok

pub returns-in-None : goal.returns-in-None
returns-in-None c = (None, rw c.in-None.is at c.in_ok-advice.ensures, c.new.ensures.bytes)
