use Rattle.std.proofs.Common.{inl, inr, refl}
use Rattle.commands.specs.json.Performed.{line_cut_off, line_printed}
use Rattle.commands.proofs.json.performing.print_line.Goals as goal

pub returns-in-Ok-clause-printed : goal.returns-in-Ok-clause-printed
returns-in-Ok-clause-printed g c = λ out err. line_printed (c.in-Ok.ensures.whole out, c.in-Ok.ensures.calm) refl

pub returns-in-Ok-clause-counted : goal.returns-in-Ok-clause-counted
returns-in-Ok-clause-counted g c = inl (c.in-Ok.ensures.calm, refl)

pub returns-in-Err-clause-printed : goal.returns-in-Err-clause-printed
returns-in-Err-clause-printed g c = λ out err.
    line_cut_off (c.in-Err.ensures.beginning out, c.in-Err.ensures.counts) (_, refl, refl)
    (c.report.ensures.reported err)

pub returns-in-Err-clause-counted : goal.returns-in-Err-clause-counted
returns-in-Err-clause-counted g c = inr (c.in-Err.ensures.counts, c.report.ensures.status)
