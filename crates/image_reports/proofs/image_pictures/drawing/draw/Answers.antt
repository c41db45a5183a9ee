use Rattle.std.proofs.lemmas.Result.{on_err_weaker, on_ok_weaker}
use Rattle.image_reports.proofs.image_pictures_lemmas.Told.{none_tells, tells_of_image}
use Rattle.image_reports.specs.Below.{HasLines, Reaches}
use Rattle.image_reports.proofs.image_pictures.drawing.draw.Goals as goal

pub returns-in_err-code-clause-part : goal.returns-in_err-code-clause-part
returns-in_err-code-clause-part g c = λ tells. none_tells _ c.args.image.now _ _ _

pub returns-clause-told : goal.returns-clause-told
returns-clause-told g c = λ tells.
    on_ok_weaker c.picture.result
    (tells_of_image HasLines c.args.image.now c.in_ok-code.ensures c.requires.one_steps c.requires.other_steps)
    (c.picture.ensures.told tells)

pub returns-clause-part : goal.returns-clause-part
returns-clause-part g c = λ tells.
    on_err_weaker c.picture.result
    (tells_of_image Reaches c.args.image.now c.in_ok-code.ensures c.requires.one_steps c.requires.other_steps)
    (c.picture.ensures.part tells)
