use Rattle.std.proofs.Common.{◌++◌, List, ℕ, ap, ◌∙◌, refl, subst}
use Rattle.commands.specs.Answered.{all_printed, not_printed, part_printed}
use Rattle.commands.specs.Below.{GainsPart}
use Rattle.language.proofs.Handed.{err_is}
use Rattle.commands.proofs.performing.print.Goals as goal

pub returns-in_err-answer : goal.returns-in_err-answer
returns-in_err-answer g c =
    rw (err_is _ c.from_residual.ensures.1, c.in_err-answer.was) (not_printed (λ told. refl) refl)

pub returns-in-Ok : goal.returns-in-Ok
returns-in-Ok g c =
    rw c.in_ok-answer.was (all_printed
    (λ told. c.in-Ok.ensures.whole told
    ∙ ap (λ (bytes : List ℕ). g.O.Sink.taken c.args.out.now ++ bytes) c.as_slice.ensures.value) c.in-Ok.ensures.calm)

pub returns : goal.returns
returns g c =
    rw c.in_ok-answer.was (part_printed
    (λ told. subst (λ (bytes : List ℕ).
    GainsPart (g.O.Sink.taken c.args.out.now) (g.O.Sink.taken c.put_all.new.sink) bytes) c.as_slice.ensures.value
    (c.in-Err.ensures.beginning told)) c.in-Err.ensures.counts (_, refl, refl))
