use Rattle.std.proofs.Common.{sym}
use Rattle.run_reports.proofs.pictures_lemmas.Filled.{adds_then}
use Rattle.run_reports.proofs.pictures.grid.Grid.put_shown.Goals as goal

pub returns-in-Some-event-clause-put : goal.returns-in-Some-event-clause-put
returns-in-Some-event-clause-put c =
    rw (c.in-Some.is, c.in-Some-event.is, sym c.counter_mark.ensures, sym c.event_mark.ensures)
    (adds_then c.put.ensures.axes c.put.ensures.put c.put-in-Some-event.ensures.put)

pub returns-in_default-event-clause-put : goal.returns-in_default-event-clause-put
returns-in_default-event-clause-put c =
    rw (c.in-Some.is, c.in_default-event.is, sym c.counter_mark.ensures) c.put.ensures.put
