use Rattle.std.proofs.Common.{◌≡◌, ℕ, ap, ◌∙◌, sym}
use Rattle.std.specs.String.{string_bytes}
use Rattle.run_reports.specs.pictures.Page.{drawing_text, parting_line, rows_of}
use Rattle.run_reports.proofs.pictures.areas.drawing_text.Goals as goal

pub returns : goal.returns
unfolding drawing_text
returns c =
    let line : string_bytes c.in_ok-line.line ≡ parting_line c.args.steps (rows_of c.args.area) c.args.parting =
    c.in_ok-line.ensures ∙ ap (λ (rows : ℕ). parting_line c.args.steps rows c.args.parting) c.rows_of-rows.ensures in
    rw (
      sym c.in_ok-layers.ensures,
      sym line,
      sym c.in_ok-hovers.ensures,
      sym c.rows_of-rows.ensures,
      sym c.places_used-columns.ensures,
    ) c.format.ensures.ok
