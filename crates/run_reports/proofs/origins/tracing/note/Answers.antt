-- A register is written, and an origin given.
use Rattle.std.proofs.Common.{sym, ap₂, ◌∙◌}
use Rattle.run_reports.specs.origins.Origins.{origins_in, with_origin}
use Rattle.run_reports.proofs.origins.tracing.note.Goals as goal

pub returns-in-Some-Some : goal.returns-in-Some-Some
returns-in-Some-Some c =
    rw (sym c.register_written.ensures ∙ c.in-Some-Some.is-0, c.in-Some-Some.is-1) c.set.ensures
