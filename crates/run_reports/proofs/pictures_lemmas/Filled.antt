-- Cells with one mark more.
use Rattle.std.proofs.Common.{◌≡◌, ℕ, ◌<◌, ◌==◌, ◌&&◌, ◌||◌, Bool, false, List, [], ◌∷◌, ◌++◌, length, get_or, set}
use Rattle.std.proofs.Common.{replicate, append_assoc, sym, ap, ◌∙◌, arith, inl, inr}
use Rattle.std.proofs.lemmas.Bool.{eq-eqb, ne_eqb, cases_eq}
use Rattle.std.proofs.Math.Bool.{or-false}
use Rattle.std.proofs.lemmas.List.{length-set, length-replicate, get_or-set_same, get_or-set_other, get_or-replicate}
use Rattle.std.proofs.lemmas.List.{get_or_read}
use Rattle.std.proofs.lemmas.List.Folds.{list_any-append}
use Rattle.run_reports.specs.pictures.Grid.{cell_number, cell_count, has, cell_of, IsGrid}
use Rattle.run_reports.specs.pictures.Marks.{blank, joined}
use Rattle.run_reports.specs.declared.pictures.cells.Axes.{Axes}
use Rattle.run_reports.specs.declared.pictures.cells.Cell.{Cell}
use Rattle.run_reports.specs.declared.pictures.cells.CellMark.{CellMark}
use Rattle.run_reports.specs.pictures.private.Added.{Adds}

-- no marks
pub empty_grid : (axes : Axes) (cells : List Cell) → cells ≡ replicate cell_count blank → IsGrid axes [] cells
empty_grid axes cells is = record {
  all = ap length is ∙ length-replicate cell_count blank;
  each = λ number within. ap (λ all. get_or all number blank) is
      ∙ get_or-replicate cell_count number blank blank within;
}

-- marks and more marks
pub adds_then : {axes axes' : Axes} {first second : List CellMark} {old mid new : List Cell} → axes' ≡ axes
    → Adds axes first old mid → Adds axes' second mid new → Adds axes (first ++ second) old new
adds_then {first = first} same one two before grid =
    rw (append_assoc, same) at (two (before ++ first) (rw same (one before grid)))

module _ (axes : Axes) (before : List CellMark) (mark : CellMark) where
  more : (number : ℕ) (this : Cell → Bool) → has axes (before ++ mark ∷ []) number this
      ≡ (has axes before number this || (cell_number axes mark == number && this mark.cell || false))
  more number this = list_any-append (λ m. cell_number axes m == number && this m.cell) before (mark ∷ [])

  -- in its own cell
  here : (number : ℕ) → cell_number axes mark ≡ number → (this : Cell → Bool)
      → (has axes before number this || this mark.cell) ≡ has axes (before ++ mark ∷ []) number this
  here number is this = rw (more number this, eq-eqb (cell_number axes mark) number is, or-false)

  -- in another
  there : (number : ℕ) → (cell_number axes mark ≡ number → ⊥) → (this : Cell → Bool)
      → has axes before number this ≡ has axes (before ++ mark ∷ []) number this
  there number is this = rw (more number this, ne_eqb (cell_number axes mark) number is, or-false)

  cell_here : (number : ℕ) → cell_number axes mark ≡ number
      → joined (cell_of axes before number) mark.cell ≡ cell_of axes (before ++ mark ∷ []) number
  cell_here number is = λ i. record {
    fetched = here number is (λ cell. cell.fetched) i;
    loaded = here number is (λ cell. cell.loaded) i;
    stored = here number is (λ cell. cell.stored) i;
    one_differs = here number is (λ cell. cell.one_differs) i;
    other_differs = here number is (λ cell. cell.other_differs) i;
  }

  cell_there : (number : ℕ) → (cell_number axes mark ≡ number → ⊥)
      → cell_of axes before number ≡ cell_of axes (before ++ mark ∷ []) number
  cell_there number is = λ i. record {
    fetched = there number is (λ cell. cell.fetched) i;
    loaded = there number is (λ cell. cell.loaded) i;
    stored = there number is (λ cell. cell.stored) i;
    one_differs = there number is (λ cell. cell.one_differs) i;
    other_differs = there number is (λ cell. cell.other_differs) i;
  }

-- a mark in its cell
pub adds_mark : (axes : Axes) (mark : CellMark) (cells : List Cell) (at : ℕ) (held now : Cell)
    → at ≡ cell_number axes mark → at < cell_count
    → held ≡ get_or cells at held → now ≡ joined held mark.cell → Adds axes (mark ∷ []) cells (set cells at now)
adds_mark axes mark cells at held now is within read put before grid =
    let inside : at < length cells = omega (arith, within, grid.all) in
    let was : held ≡ cell_of axes before at = get_or_read cells at held inside read blank ∙ grid.each at within in
    let same : now ≡ cell_of axes (before ++ mark ∷ []) at = put ∙ ap (λ c. joined c mark.cell) was
    ∙ cell_here axes before mark at (sym is) in
    record {
      all = length-set cells at now ∙ grid.all;
      each = λ number small. elim (cases_eq number at) [
        | inl equal ↦ rw equal (get_or-set_same cells at now blank inside ∙ same)
        | inr other ↦
            get_or-set_other cells at number now blank other ∙ grid.each number small
            ∙ cell_there axes before mark number (λ e. other (sym e ∙ sym is))
      ];
    }
