-- One cell more.
use Rattle.std.proofs.Common.{◌≡◌, ◌++◌, [], append-nil, get_or, if◌then◌else◌, refl, sym}
use Rattle.std.specs.String.{string_bytes}
use Rattle.run_reports.specs.pictures.Hover.{hover_text, hovers_text, is_blank}
use Rattle.run_reports.specs.pictures.Marks.{blank}
use Rattle.run_reports.proofs.pictures_lemmas.Written.{one_more}
use Rattle.run_reports.proofs.pictures.hover.hovers_text.Goals.{then-not-is_blank+in_ok-push_hover, else-not-is_blank}
use Rattle.run_reports.proofs.pictures.hover.hovers_text.Goals as goal

pub loop-number-preserved : goal.loop-number-preserved
loop-number-preserved c =
    let steps = c.args.steps in
    let area = c.args.area in
    let number = c.loop-number.number in
    let before = string_bytes c.loop-number.text in
    let cell = get_or c.args.cells.now number blank in
    let written : string_bytes c.if-not-is_blank.text
    ≡ before ++ (if is_blank cell then [] else hover_text steps area number cell) =
    elim c.if-not-is_blank.branch [
      | then-not-is_blank+in_ok-push_hover w ↦
          rw (w.text-is, sym c.is_blank.ensures, w.if-not-is_blank.true) w.in_ok-push_hover.ensures
      | else-not-is_blank w ↦
          rw (w.text-is, sym c.is_blank.ensures, w.if-not-is_blank.false) (sym (append-nil before))
    ] in
    one_more (λ n shown. if is_blank shown then [] else hover_text steps area n shown) (hovers_text steps area)
    (λ n shown cells. refl) c.args.cells.now number blank before _ _ c.loop-number-test.true written
    c.loop-number.invariant
