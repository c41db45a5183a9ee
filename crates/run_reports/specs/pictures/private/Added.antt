-- What putting marks into cells does.
use Rattle.std.specs.Prelude.{List, ◌++◌}
use Rattle.run_reports.specs.pictures.Grid.{IsGrid}
use Rattle.run_reports.specs.declared.pictures.cells.Axes.{Axes}
use Rattle.run_reports.specs.declared.pictures.cells.Cell.{Cell}
use Rattle.run_reports.specs.declared.pictures.cells.CellMark.{CellMark}

-- cells of any marks become the cells of these marks too
abbrev pub Adds : Axes → List CellMark → List Cell → List Cell → Type 0
Adds axes marks old new = (before : List CellMark) → IsGrid axes before old → IsGrid axes (before ++ marks) new
