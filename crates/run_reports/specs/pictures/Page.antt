-- The page of a picture, as bytes: HTML with the grid drawn inside, which needs nothing else.
use Rattle.std.specs.Prelude.{ℕ, ◌+◌, ◌*◌, ◌-◌, ◌/◌, ◌%◌, ◌^◌, ◌&&◌, not, Bool, true, false, List, [], ◌∷◌, ◌++◌}
use Rattle.std.specs.Prelude.{codes, take, drop, if◌then◌else◌, Option, Some, None}
use Rattle.std.specs.Fmt.{decimal}
use Rattle.std.specs.List.{flat_map}
use Rattle.run_reports.specs.pictures.Constants.{front, before_asked, before_said, legend, legend_of_two}
use Rattle.run_reports.specs.pictures.Grid.{most_columns, most_rows, share, place_of, places_used}
use Rattle.run_reports.specs.pictures.Hover.{eight_digits, hovers_text}
use Rattle.run_reports.specs.pictures.Titles.{escaped}
use Rattle.run_reports.specs.declared.pictures.cells.Area.{Area}
use Rattle.run_reports.specs.declared.pictures.cells.Axes.{Axes}
use Rattle.run_reports.specs.declared.pictures.cells.Cell.{Cell}
use Rattle.run_reports.specs.declared.pictures.cells.Told.{Told}
use Rattle.run_reports.specs.declared.pictures.layers.Layer.{Layer}
use Rattle.run_reports.specs.declared.pictures.layers.Layer.TheVariants.{Fetched, Loaded, Stored, LoadedAndStored}
use Rattle.run_reports.specs.declared.pictures.layers.Layer.TheVariants.{OneDiffers}
use Rattle.run_reports.specs.declared.pictures.layers.Layer.TheVariants.{OtherDiffers}

-- Cells. Each is a piece of a line, as wide as a column.

abbrev pub cell_text : ℕ → List ℕ
cell_text number = codes "M"
    ++ (decimal (number % most_columns) ++ (codes "," ++ (decimal (number / most_columns) ++ codes "h1")))

-- which cells are drawn in a layer: each cell with accesses in one of the first four, and differences in the last two
abbrev pub holds : Layer → Cell → Bool
holds Fetched c = c.fetched && not c.loaded && not c.stored
holds Loaded c = c.loaded && not c.stored
holds Stored c = c.stored && not c.loaded
holds LoadedAndStored c = c.loaded && c.stored
holds OneDiffers c = c.one_differs
holds OtherDiffers c = c.other_differs

abbrev pub class_of : Layer → List ℕ
class_of Fetched = codes "fetch"
class_of Loaded = codes "load"
class_of Stored = codes "store"
class_of LoadedAndStored = codes "both"
class_of OneDiffers = codes "one"
class_of OtherDiffers = codes "other"

abbrev pub all_layers : List Layer
all_layers = Fetched ∷ Loaded ∷ Stored ∷ LoadedAndStored ∷ OneDiffers ∷ OtherDiffers ∷ []

-- the cells of a layer, which are numbered from here on
abbrev pub cells_text : Layer → ℕ → List Cell → List ℕ
cells_text layer number [] = []
cells_text layer number (c ∷ cells) = (if holds layer c then cell_text number else [])
    ++ cells_text layer (number + 1) cells

-- the line that draws a layer
abbrev pub layer_text : List Cell → Layer → List ℕ
layer_text cells layer = codes "<path class=\""
    ++ (class_of layer ++ (codes "\" d=\"" ++ (cells_text layer 0 cells ++ codes "\"/>\n")))

-- the lines that draw layers, later ones over earlier ones
unfoldable pub layers_text : List Cell → List Layer → List ℕ
layers_text cells layers = flat_map (layer_text cells) layers

-- Areas.

-- how many rows an area has, or other addresses
abbrev pub rows_of : Option Area → ℕ
rows_of (Some area) = places_used area.words most_rows
rows_of None = 1

-- the line on the left of the column of the step in which runs part, over so many rows
unfoldable pub parting_line : ℕ → ℕ → Option ℕ → List ℕ
parting_line steps rows None = []
parting_line steps rows (Some step) =
    codes "<path class=\"parting\" d=\"M" ++ (decimal (place_of steps most_columns step)
    ++ (codes ",-.5v" ++ (decimal rows ++ codes "\"/>\n")))

-- the drawing of an area, or of other addresses, over so many steps; the page turns it over, so that row 0 is at its
-- foot
unfoldable pub drawing_text : List ℕ → Option Area → ℕ → Option ℕ → List Cell → List ℕ
drawing_text name area steps parting cells =
    codes "<svg id=\"" ++ (name ++ (codes "\" viewBox=\"0 -.5 " ++ (decimal (places_used steps most_columns)
    ++ (codes " " ++ (decimal (rows_of area) ++ (codes "\" preserveAspectRatio=\"none\">\n"
    ++ (layers_text cells all_layers ++ (parting_line steps (rows_of area) parting
    ++ (codes "<g>\n" ++ (hovers_text steps area 0 cells ++ codes "</g>\n</svg>"))))))))))

-- how many entries one run shows, or two
unfoldable pub entries_text : Told → List ℕ
entries_text told =
    if told.are_two then decimal told.one.entries ++ (codes " of the first run, "
    ++ (decimal told.other.entries ++ codes " of the second")) else decimal told.one.entries

-- the axis of so many steps, with its begin, its middle and its end, and that of the entries
unfoldable pub axis_text : ℕ → Told → List ℕ
axis_text steps told =
    codes "<div class=\"steps\"><span>step 0</span><span>" ++ (decimal (steps / 2)
    ++ (codes "</span><span>" ++ (decimal steps
    ++ (codes "</span></div>\n<div class=\"steps\"><span>entry 0</span><span>"
    ++ (entries_text told ++ codes "</span></div>\n")))))

-- the address behind an area's last word
abbrev pub end_of : Area → ℕ
end_of area = (area.base + 4 * area.words) % 2 ^ 32

-- the words of an area over so many steps, with the addresses at both ends
unfoldable pub area_text : List ℕ → Area → ℕ → Told → List Cell → List ℕ
area_text name area steps told cells =
    codes "<div class=\"area\"><div class=\"addresses\"><span>" ++ (eight_digits (end_of area)
    ++ (codes "</span><span>" ++ (eight_digits area.base
    ++ (codes "</span></div>\n" ++ (drawing_text name (Some area) steps told.parting cells
    ++ (codes "</div>\n" ++ axis_text steps told))))))

-- all other addresses over so many steps
unfoldable pub elsewhere_text : ℕ → Option ℕ → List Cell → List ℕ
elsewhere_text steps parting cells =
    codes "<div class=\"area\"><div></div>\n"
    ++ (drawing_text (codes "elsewhere") None steps parting cells ++ codes "</div>\n")

-- The page.

-- how many steps one run makes, or two
unfoldable pub steps_text : Told → List ℕ
steps_text told =
    if told.are_two then codes "<p>Steps: <b id=\"first\">" ++ (decimal told.one.steps
    ++ (codes "</b> of the first run, <b id=\"second\">" ++ (decimal told.other.steps
    ++ codes "</b> of the second. "))) else codes "<p>Steps: <b id=\"first\">" ++ (decimal told.one.steps
    ++ codes "</b>. ")

-- in which step they part, if they do
unfoldable pub parted_text : Option ℕ → List ℕ
parted_text None = []
parted_text (Some step) = codes "They part in step <b id=\"parting\">" ++ (decimal step ++ codes "</b>. ")

-- how much a column and a row stand for
unfoldable pub scale_text : Axes → List ℕ
scale_text axes =
    codes "Steps in a column: " ++ (decimal (share axes.steps most_columns)
    ++ (codes ". Words of four bytes in a row: " ++ (decimal (share axes.frame.words most_rows)
    ++ (codes " of the frame, " ++ (decimal (share axes.code.words most_rows) ++ codes " of the code.</p>\n")))))

-- the legend of one run, or of two
unfoldable pub legend_text : Bool → List ℕ
legend_text false = legend
legend_text true = legend ++ legend_of_two

-- the cells of code, of the frame, and of other addresses
abbrev pub code_cells : List Cell → List Cell
code_cells cells = take (most_rows * most_columns) cells

abbrev pub frame_cells : List Cell → List Cell
frame_cells cells = take (most_rows * most_columns) (drop (most_rows * most_columns) cells)

abbrev pub other_cells : List Cell → List Cell
other_cells cells = drop (most_rows * most_columns) (drop (most_rows * most_columns) cells)

-- frame, code and other addresses, each with its title
unfoldable pub drawings_text : Axes → List Cell → Told → List ℕ
drawings_text axes cells told =
    codes "<h2>Frame</h2>\n" ++ (area_text (codes "frame") axes.frame axes.steps told (frame_cells cells)
    ++ (codes "<h2>Code</h2>\n" ++ (area_text (codes "code") axes.code axes.steps told (code_cells cells)
    ++ (codes "<h2>Other addresses</h2>\n" ++ elsewhere_text axes.steps told.parting (other_cells cells)))))

-- what stands behind what is said of the runs
unfoldable pub rest_text : Axes → List Cell → Told → List ℕ
rest_text axes cells told =
    codes "</pre>\n<ul>\n" ++ (legend_text told.are_two ++ (codes "</ul>\n" ++ (steps_text told
    ++ (codes "Entries: <b id=\"entries\">" ++ (entries_text told ++ (codes "</b>. " ++ (parted_text told.parting
    ++ (scale_text axes ++ (drawings_text axes cells told ++ codes "</body>\n</html>\n")))))))))

-- the page of a grid, with what was asked for, what is said of one run, or of two, and what is told of them
abbrev pub page_text : Axes → List Cell → List ℕ → List ℕ → Told → List ℕ
page_text axes cells asked said told =
    front ++ (escaped asked ++ (before_asked ++ (escaped asked ++ (before_said ++ (said
    ++ rest_text axes cells told)))))
