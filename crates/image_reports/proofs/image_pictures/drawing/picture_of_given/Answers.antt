use Rattle.std.proofs.lemmas.Result.{on_err_weaker, on_ok_weaker}
use Rattle.image_reports.proofs.image_pictures_lemmas.Told.{none_tells, tells_from}
use Rattle.image_reports.specs.Below.{HasLines, Reaches}
use Rattle.image_reports.proofs.image_pictures.drawing.picture_of_given.Goals as goal

pub returns-in_err-counted-clause-part : goal.returns-in_err-counted-clause-part
returns-in_err-counted-clause-part g c = λ tells. none_tells _ c.args.image.now _ _ _

pub returns-in_err-drawn-clause-part : goal.returns-in_err-drawn-clause-part
returns-in_err-drawn-clause-part g c = λ tells. none_tells _ c.args.image.now _ _ _

pub returns-clause-told : goal.returns-clause-told
returns-clause-told g c = λ tells.
    on_ok_weaker c.draw.result
    (tells_from HasLines c.args.image.now c.in_ok-drawn.ensures.one.state c.in_ok-drawn.ensures.other.state)
    (c.draw.ensures.told tells)

pub returns-clause-part : goal.returns-clause-part
returns-clause-part g c = λ tells.
    on_err_weaker c.draw.result
    (tells_from Reaches c.args.image.now c.in_ok-drawn.ensures.one.state c.in_ok-drawn.ensures.other.state)
    (c.draw.ensures.part tells)
