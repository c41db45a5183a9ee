use Rattle.std.proofs.Common.{refl}
use Rattle.run_reports.proofs.pictures_lemmas.Filled.{empty_grid}
use Rattle.run_reports.proofs.pictures.grid.Grid.new.Goals as goal

pub returns : goal.returns
returns c =
    (refl, empty_grid c.args.axes c.in_ok-cells.cells.items (c.in_ok-cells.ensures.items_if_clones_equal (λ y h. h)))
