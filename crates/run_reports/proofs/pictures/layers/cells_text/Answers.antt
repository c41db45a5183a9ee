-- One cell more.
use Rattle.std.proofs.Common.{◌≡◌, ◌++◌, [], append-nil, get_or, if◌then◌else◌, refl, sym}
use Rattle.std.specs.String.{string_bytes}
use Rattle.run_reports.specs.pictures.Marks.{blank}
use Rattle.run_reports.specs.pictures.Page.{cell_text, cells_text, holds}
use Rattle.run_reports.proofs.pictures_lemmas.Written.{one_more}
use Rattle.run_reports.proofs.pictures.layers.cells_text.Goals.{then-holds+in_ok-push_cell, else-holds}
use Rattle.run_reports.proofs.pictures.layers.cells_text.Goals as goal

pub loop-number-preserved : goal.loop-number-preserved
loop-number-preserved c =
    let layer = c.args.layer in
    let number = c.loop-number.number in
    let before = string_bytes c.loop-number.text in
    let written : string_bytes c.if-holds.text
    ≡ before ++ (if holds layer (get_or c.args.cells.now number blank) then cell_text number else []) =
    elim c.if-holds.branch [
      | then-holds+in_ok-push_cell w ↦
          rw (w.text-is, sym c.holds.ensures, w.if-holds.true) w.in_ok-push_cell.ensures
      | else-holds w ↦ rw (w.text-is, sym c.holds.ensures, w.if-holds.false) (sym (append-nil before))
    ] in
    one_more (λ n cell. if holds layer cell then cell_text n else []) (cells_text layer) (λ n cell cells. refl)
    c.args.cells.now number blank before _ _ c.loop-number-test.true written c.loop-number.invariant
