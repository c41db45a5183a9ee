use Rattle.std.proofs.Common.{◌≡◌, ◌⊎◌, inl, inr, ap}
use Rattle.commands.specs.Requests.{done, failed, calm}
use Rattle.commands.proofs.Counting.{ends}
use Rattle.commands.proofs.performing.perform_in_text.Goals as goal
use Rattle.commands.specs.Below.{collected}

pub returns-in-Ok-clause-performed : goal.returns-in-Ok-clause-performed
returns-in-Ok-clause-performed g c = λ files out err.
    done (c.in-Ok.ensures.does files out) (c.in-Ok.ensures.told files err)

pub returns-in-Ok-clause-known : goal.returns-in-Ok-clause-known
returns-in-Ok-clause-known g c = c.in-Ok.ensures.ended.0

pub returns-in-Ok-clause-calm : goal.returns-in-Ok-clause-calm
returns-in-Ok-clause-calm g c = λ is. c.in-Ok.ensures.ended.2

pub returns-in-Ok-clause-counted : goal.returns-in-Ok-clause-counted
returns-in-Ok-clause-counted g c = calm c.in-Ok.ensures.ended.1 c.in-Ok.ensures.ended.2

-- what is not changed is seen as it was
seen_same : {S T Told : Type 0} (view : S → T) {before after : S} → (after ≡ before) ⊎ Told
    → (view after ≡ view before) ⊎ Told
seen_same view (inl same) = inl (ap view same)
seen_same view (inr told) = inr told

pub returns-clause-performed : goal.returns-clause-performed
returns-clause-performed g c = λ files out err.
    failed (c.in-Err.ensures.does files out)
    (seen_same (λ e. collected (g.E.Sink.taken e) (g.E.Sink.failures e)) (c.in-Err.ensures.part files err))
    (c.report.ensures.reported err)

pub returns-clause-counted : goal.returns-clause-counted
returns-clause-counted g c = ends _ c.in-Err.ensures.ended c.report.ensures.status
