-- How long a page is at most.
use Rattle.std.proofs.Common.{◌≡◌, ℕ, zero, suc, ◌+◌, ◌*◌, ◌/◌, ◌%◌, ◌-◌, ◌==◌, ◌≤◌, ◌<◌, ◌^◌, ◌&&◌, Bool, true, false}
use Rattle.std.proofs.Common.{Option, Some, None, nat_lt, not, cond, take, drop, List, [], ◌∷◌, ◌++◌, length}
use Rattle.std.proofs.Common.{length-append, replicate, codes, refl}
use Rattle.std.proofs.Common.{ap, arith}
use Rattle.std.proofs.lemmas.List.{length-replicate, length-take, length-drop}
use Rattle.std.proofs.lemmas.Fmt.{length-decimal-le}
use Rattle.std.specs.Fmt.{decimal, digits, format_spec}
use Rattle.std.below.core.proofs.fmt.Padding.{padded_integral_zeros}
use Rattle.std.below.core.specs.Fmt.{digits_onto, digit_glyph}
use Rattle.run_reports.specs.pictures.Constants.{front, before_asked, before_said, legend, legend_of_two}
use Rattle.run_reports.specs.pictures.Grid.{most_columns, most_rows}
use Rattle.run_reports.specs.pictures.Hover.{addresses_text, eight_digits, first_in, held_text, hover_text, hovers_text}
use Rattle.run_reports.specs.pictures.Hover.{is_blank, last_in, span_text, when}
use Rattle.run_reports.specs.pictures.Page.{cell_text, holds, class_of, all_layers, cells_text, layer_text, layers_text}
use Rattle.run_reports.specs.pictures.Page.{rows_of, parting_line, drawing_text, entries_text, axis_text, area_text}
use Rattle.run_reports.specs.pictures.Page.{elsewhere_text, code_cells, frame_cells, other_cells, drawings_text}
use Rattle.run_reports.specs.pictures.Page.{steps_text, parted_text, scale_text, legend_text, rest_text, page_text}
use Rattle.run_reports.specs.pictures.Titles.{escaped, escaped_byte}
use Rattle.run_reports.specs.declared.pictures.cells.Area.{Area}
use Rattle.run_reports.specs.declared.pictures.cells.Axes.{Axes}
use Rattle.run_reports.specs.declared.pictures.cells.Cell.{Cell}
use Rattle.run_reports.specs.declared.pictures.cells.Told.{Told}
use Rattle.run_reports.specs.declared.pictures.layers.Layer.{Layer}
use Rattle.run_reports.specs.declared.pictures.layers.Layer.TheVariants.{Fetched, Loaded, Stored, LoadedAndStored}
use Rattle.run_reports.specs.declared.pictures.layers.Layer.TheVariants.{OneDiffers, OtherDiffers}

either : (b : Bool) (x y : List ℕ) (n : ℕ) → length x ≤ n → length y ≤ n → length (cond b x y) ≤ n
either true x y n one other = one
either false x y n one other = other

onto : (k base : ℕ) (upper : Bool) (n : ℕ) (acc : List ℕ) → length (digits_onto k base upper n acc) ≤ k + length acc
onto zero base upper n acc = omega arith
onto (suc k) base upper n acc =
    let more = digit_glyph upper (n % base) ∷ acc in
    either (n / base == 0) more (digits_onto k base upper (n / base) more) (suc k + length acc) (omega arith)
    (omega (arith, onto k base upper (n / base) more))

-- a number in decimal
short : (n : ℕ) → length (decimal n) ≤ 64
unfolding digits
short n = omega (arith, onto 64 10 false n [])

short_hexadecimal : (n : ℕ) → length (digits 16 false n) ≤ 64
unfolding digits
short_hexadecimal n = omega (arith, onto 64 16 false n [])

-- eight digits
eight : (a : ℕ) → length (eight_digits a) ≤ 72
eight a =
    let numeral : List ℕ = digits 16 false a in
    let glyph : ℕ = 48 in
    let zeros : List ℕ = replicate (8 - length numeral) glyph in
    let filled : eight_digits a ≡ zeros ++ numeral =
    padded_integral_zeros (format_spec 32 0 4 8 (2 ^ 64 - 1)) numeral refl refl in
    let many : length zeros ≡ 8 - length numeral = length-replicate (8 - length numeral) glyph in
    omega (arith, short_hexadecimal a, ap length filled, length-append zeros numeral, many)

entries_size : (told : Told) → length (entries_text told) ≤ 180
unfolding entries_text
entries_size told =
    either told.are_two _ _ 180 (grind (arith, length-append, short)) (grind (arith, length-append, short))

axis_size : (steps : ℕ) (told : Told) → length (axis_text steps told) ≤ 480
unfolding axis_text
axis_size steps told = grind (arith, length-append, short, entries_size)

span_size : (first last : ℕ) → length (span_text first last) ≤ 138
span_size first last =
    either (first == last) _ _ 138 (grind (arith, length-append, short)) (grind (arith, length-append, short))

addresses_size : (area : Option Area) (row : ℕ) → length (addresses_text area row) ≤ 150
addresses_size (Some area) row = grind (arith, length-append, eight)
addresses_size None row = omega arith

when_size : (holds : Bool) (words : List ℕ) → length (when holds words) ≤ length words
when_size true words = omega arith
when_size false words = omega arith

held_size : (cell : Cell) → length (held_text cell) ≤ 72
held_size cell =
    let executed = when_size cell.fetched (codes ", executed") in
    let load = when_size cell.loaded (codes ", load") in
    let store = when_size cell.stored (codes ", store") in
    let first = when_size cell.one_differs (codes ", in the first run alone") in
    let second = when_size cell.other_differs (codes ", in the second run alone") in
    grind (arith, length-append, executed, load, store, first, second)

hover_size : (steps : ℕ) (area : Option Area) (number : ℕ) (cell : Cell)
    → length (hover_text steps area number cell) ≤ 530
hover_size steps area number cell =
    let column = number % most_columns in
    let span = span_size (first_in steps most_columns column) (last_in steps most_columns column) in
    let addresses = addresses_size area (number / most_columns) in
    let held = held_size cell in
    grind (arith, length-append, short, span, addresses, held)

hovers_size : (steps : ℕ) (area : Option Area) (number : ℕ) (cells : List Cell)
    → length (hovers_text steps area number cells) ≤ 530 * length cells
hovers_size steps area number [] = omega arith
hovers_size steps area number (cell ∷ cells) =
    let here : List ℕ = cond (is_blank cell) [] (hover_text steps area number cell) in
    let small : length here ≤ 530 =
    either (is_blank cell) [] (hover_text steps area number cell) 530 (omega arith)
    (hover_size steps area number cell) in
    omega (
      arith,
      small,
      length-append here (hovers_text steps area (number + 1) cells),
      hovers_size steps area (number + 1) cells,
    )

parting_size : (steps rows : ℕ) (parting : Option ℕ) → length (parting_line steps rows parting) ≤ 180
unfolding parting_line
parting_size steps rows None = omega arith
parting_size steps rows (Some step) = grind (arith, length-append, short)

cell_size : (number : ℕ) → number < 33024 → length (cell_text number) ≤ 10
cell_size number few = grind (arith, length-append, length-decimal-le 3)

weight : Bool → ℕ
weight b = cond b 10 0

drawn : (b : Bool) (number : ℕ) → number < 33024 → length (cond b (cell_text number) []) ≤ weight b
unfolding weight
drawn true number few = cell_size number few
drawn false number few = omega arith

-- a cell is drawn in one layer of accesses at most
one_layer : (f l s : Bool) → weight (f && not l && not s) + weight (l && not s) + weight (s && not l)
    + weight (l && s) ≤ 10
unfolding weight
one_layer true true true = omega arith
one_layer true true false = omega arith
one_layer true false true = omega arith
one_layer true false false = omega arith
one_layer false true true = omega arith
one_layer false true false = omega arith
one_layer false false true = omega arith
one_layer false false false = omega arith

once : (b : Bool) → weight b ≤ 10
unfolding weight
once true = omega arith
once false = omega arith

-- a layer with one cell more
one_more : (layer : Layer) (number : ℕ) (c : Cell) (cells : List Cell) → number < 33024
    → length (cells_text layer number (c ∷ cells)) ≤ weight (holds layer c)
    + length (cells_text layer (number + 1) cells)
one_more layer number c cells few =
    omega (
      arith,
      length-append (cond (holds layer c) (cell_text number) []) (cells_text layer (number + 1) cells),
      drawn (holds layer c) number few,
    )

-- the layers of accesses together
accesses_size : (number : ℕ) (cells : List Cell) → number + length cells ≤ 33024
    → length (cells_text Fetched number cells) + length (cells_text Loaded number cells)
    + length (cells_text Stored number cells) + length (cells_text LoadedAndStored number cells)
    ≤ 10 * length cells
accesses_size number [] few = omega arith
accesses_size number (c ∷ cells) few =
    let inside : number < 33024 = omega (arith, few) in
    let later = accesses_size (number + 1) cells (omega (arith, few)) in
    let here = one_layer c.fetched c.loaded c.stored in
    omega (
      arith,
      later,
      here,
      one_more Fetched number c cells inside,
      one_more Loaded number c cells inside,
      one_more Stored number c cells inside,
      one_more LoadedAndStored number c cells inside,
    )

-- a layer of differences
layer_size : (layer : Layer) (number : ℕ) (cells : List Cell) → number + length cells ≤ 33024
    → length (cells_text layer number cells) ≤ 10 * length cells
layer_size layer number [] few = omega arith
layer_size layer number (c ∷ cells) few =
    let later = layer_size layer (number + 1) cells (omega (arith, few)) in
    omega (arith, later, once (holds layer c), one_more layer number c cells (omega (arith, few)))

class_size : (layer : Layer) → length (class_of layer) ≤ 5
class_size Fetched = omega arith
class_size _ = omega arith

line_size : (cells : List Cell) (layer : Layer)
    → length (layer_text cells layer) ≤ length (cells_text layer 0 cells) + 30
line_size cells layer = grind (arith, length-append, class_size)

layers_size : (cells : List Cell) → length cells ≤ 33024
    → length (layers_text cells all_layers) ≤ 30 * length cells + 180
unfolding layers_text
layers_size cells few =
    let small : 0 + length cells ≤ 33024 = omega (arith, few) in
    grind (
      arith,
      length-append,
      accesses_size 0 cells small,
      layer_size OneDiffers 0 cells small,
      layer_size OtherDiffers 0 cells small,
      line_size cells,
    )

drawing_size : (name : List ℕ) (area : Option Area) (steps : ℕ) (parting : Option ℕ) (cells : List Cell)
    → length cells ≤ 33024
    → length (drawing_text name area steps parting cells) ≤ 560 * length cells + length name + 700
unfolding drawing_text
drawing_size name area steps parting cells few =
    let layers = layers_size cells few in
    let line = parting_size steps (rows_of area) parting in
    let hovers = hovers_size steps area 0 cells in
    grind (arith, length-append, short, layers, line, hovers)

area_size : (name : List ℕ) (area : Area) (steps : ℕ) (told : Told) (cells : List Cell) → length cells ≤ 33024
    → length (area_text name area steps told cells) ≤ 560 * length cells + length name + 1_500
unfolding area_text
area_size name area steps told cells few =
    let drawing = drawing_size name (Some area) steps told.parting cells few in
    grind (arith, length-append, eight, axis_size, drawing)

elsewhere_size : (steps : ℕ) (parting : Option ℕ) (cells : List Cell) → length cells ≤ 33024
    → length (elsewhere_text steps parting cells) ≤ 560 * length cells + 800
unfolding elsewhere_text
elsewhere_size steps parting cells few =
    let drawing = drawing_size (codes "elsewhere") None steps parting cells few in
    grind (arith, length-append, drawing)

-- a list in three parts
three_parts : (n : ℕ) (cells : List Cell)
    → length (take n cells) + length (take n (drop n cells)) + length (drop n (drop n cells)) ≡ length cells
three_parts n cells = omega (
  arith,
  length-take n cells,
  length-drop n cells,
  length-take n (drop n cells),
  length-drop n (drop n cells),
)

drawings_size : (axes : Axes) (cells : List Cell) (told : Told) → length cells ≡ 33024
    → length (drawings_text axes cells told) ≤ 18_500_000
unfolding drawings_text
drawings_size axes cells told all =
    let parts = three_parts (most_rows * most_columns) cells in
    grind (
      arith,
      length-append,
      all,
      parts,
      area_size (codes "frame") axes.frame axes.steps told (frame_cells cells) (omega (arith, parts, all)),
      area_size (codes "code") axes.code axes.steps told (code_cells cells) (omega (arith, parts, all)),
      elsewhere_size axes.steps told.parting (other_cells cells) (omega (arith, parts, all)),
    )

steps_size : (told : Told) → length (steps_text told) ≤ 300
unfolding steps_text
steps_size told =
    either told.are_two _ _ 300 (grind (arith, length-append, short)) (grind (arith, length-append, short))

parted_size : (parting : Option ℕ) → length (parted_text parting) ≤ 200
unfolding parted_text
parted_size None = omega arith
parted_size (Some step) = grind (arith, length-append, short)

scale_size : (axes : Axes) → length (scale_text axes) ≤ 400
unfolding scale_text
scale_size axes = grind (arith, length-append, short)

legend_size : (are_two : Bool) → length (legend_text are_two) ≤ 500
unfolding legend_text legend legend_of_two
legend_size true = omega arith
legend_size false = omega arith

front_size : length front ≤ 500
unfolding front
front_size = omega arith

before_asked_size : length before_asked ≤ 4_000
unfolding before_asked
before_asked_size = omega arith

before_said_size : length before_said ≤ 500
unfolding before_said
before_said_size = omega arith

rest_size : (axes : Axes) (cells : List Cell) (told : Told) → length cells ≡ 33024
    → length (rest_text axes cells told) ≤ 18_600_000
unfolding rest_text
rest_size axes cells told all =
    let legend = legend_size told.are_two in
    let steps = steps_size told in
    let entries = entries_size told in
    let parted = parted_size told.parting in
    let scale = scale_size axes in
    let drawings = drawings_size axes cells told all in
    grind (arith, length-append, legend, steps, entries, parted, scale, drawings)

byte_size : (byte : ℕ) → length (escaped_byte byte) ≤ 6
byte_size byte =
    either (byte == 38) _ _ 6 (omega arith)
    (either (byte == 60) _ _ 6 (omega arith)
    (either (byte == 62) _ _ 6 (omega arith)
    (either (byte == 34) _ _ 6 (omega arith)
    (either (nat_lt byte 32) _ _ 6 (omega arith) (either (byte == 127) _ _ 6 (omega arith) (omega arith))))))

escaped_size : (text : List ℕ) → length (escaped text) ≤ 6 * length text
escaped_size [] = omega arith
escaped_size (byte ∷ text) =
    omega (arith, byte_size byte, escaped_size text, length-append (escaped_byte byte) (escaped text))

pub page_size : (axes : Axes) (cells : List Cell) (asked said : List ℕ) (told : Told) → length cells ≡ 33024
    → length (page_text axes cells asked said told) ≤ 20_000_000 + length said + 12 * length asked
page_size axes cells asked said told all =
    let rest = rest_size axes cells told all in
    let escaped_asked = escaped_size asked in
    grind (arith, length-append, front_size, before_asked_size, before_said_size, escaped_asked, rest)
