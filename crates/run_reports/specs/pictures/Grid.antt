-- The grid of a picture: steps run to the right, addresses upwards. Each column stands for equally many steps, and
-- each row for equally many words of four bytes, of the code or of the frame. One row more stands for all other
-- addresses.
use Rattle.std.specs.Prelude.{◌≡◌, ℕ, ◌+◌, ◌*◌, ◌-◌, ◌/◌, ◌<◌, ◌==◌, ◌&&◌, min, nat_le, nat_lt, Bool, List, length}
use Rattle.std.specs.Prelude.{Option, Some, None, if◌then◌else◌, slice_index_or}
use Rattle.std.specs.List.{list_any}
use Rattle.run_reports.specs.pictures.Marks.{blank}
use Rattle.run_reports.specs.declared.pictures.cells.Area.{Area}
use Rattle.run_reports.specs.declared.pictures.cells.Axes.{Axes}
use Rattle.run_reports.specs.declared.pictures.cells.Cell.{Cell}
use Rattle.run_reports.specs.declared.pictures.cells.CellMark.{CellMark}

-- the most columns, and the most rows of code and of the frame
abbrev pub most_columns : ℕ
most_columns = 256

abbrev pub most_rows : ℕ
most_rows = 64

-- how many things each place holds, where so many places hold so many things
abbrev pub share : ℕ → ℕ → ℕ
share count places = (count - 1) / places + 1

-- at which place a thing is, and how many places are in use
abbrev pub place_of : ℕ → ℕ → ℕ → ℕ
place_of count places n = min (n / share count places) (places - 1)

abbrev pub places_used : ℕ → ℕ → ℕ
places_used count places = place_of count places (count - 1) + 1

-- the number of the word that an address is in, where it is in the area
abbrev pub word_number : Area → ℕ → Option ℕ
word_number area a = if nat_le area.base a && nat_lt ((a - area.base) / 4) area.words
    then Some ((a - area.base) / 4) else None

-- the row of an address: rows of code come first, then those of the frame, and then the one of all other addresses
abbrev pub row_behind : Axes → Option ℕ → Option ℕ → ℕ
row_behind axes (Some word) in_frame = place_of axes.code.words most_rows word
row_behind axes None (Some word) = most_rows + place_of axes.frame.words most_rows word
row_behind axes None None = 2 * most_rows

abbrev pub row_of : Axes → ℕ → ℕ
row_of axes a = row_behind axes (word_number axes.code a) (word_number axes.frame a)

-- the number of a mark's cell: cells are numbered row by row
abbrev pub cell_number : Axes → CellMark → ℕ
cell_number axes mark = row_of axes mark.address * most_columns + place_of axes.steps most_columns mark.step

abbrev pub cell_count : ℕ
cell_count = (2 * most_rows + 1) * most_columns

-- whether a mark in the cell with a number has this
abbrev pub has : Axes → List CellMark → ℕ → (Cell → Bool) → Bool
has axes marks number this = list_any (λ mark. cell_number axes mark == number && this mark.cell) marks

-- the cell with a number holds what some mark in it has
abbrev pub cell_of : Axes → List CellMark → ℕ → Cell
cell_of axes marks number = record {
  fetched = has axes marks number (λ cell. cell.fetched);
  loaded = has axes marks number (λ cell. cell.loaded);
  stored = has axes marks number (λ cell. cell.stored);
  one_differs = has axes marks number (λ cell. cell.one_differs);
  other_differs = has axes marks number (λ cell. cell.other_differs);
}

-- the cells of these marks
pub record IsGrid (axes : Axes) (marks : List CellMark) (cells : List Cell) : Type 0 where
  pub all : length cells ≡ cell_count
  pub each : (number : ℕ) → number < cell_count → slice_index_or cells number blank ≡ cell_of axes marks number
