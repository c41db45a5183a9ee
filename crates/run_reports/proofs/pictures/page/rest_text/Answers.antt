use Rattle.run_reports.specs.pictures.Page.{rest_text}
use Rattle.run_reports.proofs.pictures.page.rest_text.Goals as goal

pub returns : goal.returns
unfolding rest_text
returns c =
    rw (
      ← c.in_ok-legend.ensures,
      ← c.in_ok-steps.ensures,
      ← c.in_ok-entries.ensures,
      ← c.in_ok-parted.ensures,
      ← c.in_ok-scale.ensures,
      ← c.in_ok-drawings.ensures,
    ) c.format.ensures.ok
