-- What a cell holds, as a browser shows it where the pointer is over the cell.
use Rattle.std.specs.Prelude.{ℕ, ◌+◌, ◌*◌, ◌-◌, ◌/◌, ◌%◌, ◌^◌, ◌==◌, ◌&&◌, not, min, Bool, false, List, [], ◌∷◌, ◌++◌}
use Rattle.std.specs.Prelude.{codes, Option, Some, None, if◌then◌else◌}
use Rattle.std.specs.Fmt.{decimal, digits, padded_integral, format_spec}
use Rattle.run_reports.specs.pictures.Grid.{most_columns, most_rows, share}
use Rattle.run_reports.specs.declared.pictures.cells.Area.{Area}
use Rattle.run_reports.specs.declared.pictures.cells.Cell.{Cell}

-- the first and the last of the things that a place holds, where so many places hold so many things
abbrev pub first_in : ℕ → ℕ → ℕ → ℕ
first_in count places place = place * share count places

abbrev pub last_in : ℕ → ℕ → ℕ → ℕ
last_in count places place = min (first_in count places place + (share count places - 1)) (count - 1)

-- from the first step to the last
abbrev pub span_text : ℕ → ℕ → List ℕ
span_text first last =
    if first == last then codes "step " ++ decimal first
    else codes "steps " ++ (decimal first ++ (codes " to " ++ decimal last))

-- the steps of a column, where there are so many in all
abbrev pub column_text : ℕ → ℕ → List ℕ
column_text steps column = span_text (first_in steps most_columns column) (last_in steps most_columns column)

-- eight hexadecimal digits, in lower case
abbrev pub eight_digits : ℕ → List ℕ
eight_digits a = padded_integral (format_spec 32 0 4 8 (2 ^ 64 - 1)) false [] (digits 16 false a)

-- from the first address to the last
abbrev pub range_text : ℕ → ℕ → List ℕ
range_text low high = codes ", " ++ (eight_digits low ++ (codes " to " ++ eight_digits high))

-- the addresses of a row of an area, from its first byte to its last
abbrev pub row_text : Area → ℕ → List ℕ
row_text area row =
    range_text (area.base + 4 * first_in area.words most_rows row)
    (area.base + 4 * last_in area.words most_rows row + 3)

-- those of other addresses are not said
abbrev pub addresses_text : Option Area → ℕ → List ℕ
addresses_text (Some area) row = row_text area row
addresses_text None row = []

-- all that a cell holds
abbrev pub when : Bool → List ℕ → List ℕ
when holds words = if holds then words else []

abbrev pub held_text : Cell → List ℕ
held_text cell =
    when cell.fetched (codes ", executed") ++ (when cell.loaded (codes ", load") ++ (when cell.stored (codes ", store")
    ++ (when cell.one_differs (codes ", in the first run alone")
    ++ when cell.other_differs (codes ", in the second run alone"))))

-- nothing is done in a cell
abbrev pub is_blank : Cell → Bool
is_blank cell = not cell.fetched && not cell.loaded && not cell.stored

-- what is shown over the cell with a number, of so many steps in all
abbrev pub hover_text : ℕ → Option Area → ℕ → Cell → List ℕ
hover_text steps area number cell =
    codes "<path d=\"M" ++ (decimal (number % most_columns) ++ (codes "," ++ (decimal (number / most_columns)
    ++ (codes "h1\"><title>" ++ (column_text steps (number % most_columns)
    ++ (addresses_text area (number / most_columns) ++ (held_text cell ++ codes "</title></path>\n")))))))

-- what is shown over cells, which are numbered from here on
abbrev pub hovers_text : ℕ → Option Area → ℕ → List Cell → List ℕ
hovers_text steps area number [] = []
hovers_text steps area number (cell ∷ cells) =
    (if is_blank cell then [] else hover_text steps area number cell) ++ hovers_text steps area (number + 1) cells
