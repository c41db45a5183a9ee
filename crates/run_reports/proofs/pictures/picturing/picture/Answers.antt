use Rattle.std.proofs.lemmas.Result.{IfOk-weaker}
use Rattle.run_reports.proofs.pictures_lemmas.Depicted.{depicted}
use Rattle.run_reports.proofs.pictures_lemmas.Painted.{counted_again}
use Rattle.run_reports.proofs.pictures_lemmas.Reported.{counts_tell, on_ok, on_err, picture_reaches}
use Rattle.run_reports.proofs.pictures_lemmas.Reported.{picture_tells, told_again}
use Rattle.run_reports.proofs.progress_lemmas.Told.{reaches}
use Rattle.run_reports.proofs.pictures.picturing.picture.Goals as goal

pub returns-in_err-grid-clause-part : goal.returns-in_err-grid-clause-part
returns-in_err-grid-clause-part g c = λ tells.
    on_err _ (counts_tell
    (reaches (told_again c.requires.steps.0 c.requires.one (c.length_of-one.ensures.told tells)))
    (reaches (told_again c.requires.steps.1 c.requires.other (c.length_of-other.ensures.told tells))))

pub returns-clause-exact : goal.returns-clause-exact
returns-clause-exact g c =
    let painted = c.paint-parting.ensures.painted in
    let one = counted_again c.requires.steps.0 c.requires.one c.length_of-one.ensures.counted painted.2 in
    let other = counted_again c.requires.steps.1 c.requires.other c.length_of-other.ensures.counted painted.3 in
    IfOk-weaker c.page.result _ _
    (λ page written. record {
      seen = painted.0;
      seen' = painted.1;
      shown = painted.2;
      shown' = painted.3;
      drawn = depicted one other c.max.ensures c.in_ok-grid.ensures.0 c.paint-parting.ensures.axes painted.4 painted.5 written;
    })
    c.page.ensures.exact

pub returns-clause-told : goal.returns-clause-told
returns-clause-told g c = λ tells.
    on_ok _ (picture_tells (told_again c.requires.steps.0 c.requires.one (c.length_of-one.ensures.told tells))
    (told_again c.requires.steps.1 c.requires.other (c.length_of-other.ensures.told tells))
    (c.paint-parting.ensures.told tells))

pub returns-clause-part : goal.returns-clause-part
returns-clause-part g c = λ tells.
    on_err _ (picture_reaches
    (picture_tells (told_again c.requires.steps.0 c.requires.one (c.length_of-one.ensures.told tells))
    (told_again c.requires.steps.1 c.requires.other (c.length_of-other.ensures.told tells))
    (c.paint-parting.ensures.told tells)))
