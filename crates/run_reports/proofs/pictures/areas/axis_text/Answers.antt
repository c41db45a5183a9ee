use Rattle.std.proofs.Common.{sym}
use Rattle.run_reports.specs.pictures.Page.{axis_text}
use Rattle.run_reports.proofs.pictures.areas.axis_text.Goals as goal

pub returns : goal.returns
unfolding axis_text
returns c = rw (sym c.in_ok-entries.ensures) c.format.ensures.ok
