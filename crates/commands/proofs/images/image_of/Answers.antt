use Rattle.std.proofs.Common.{List, ℕ, Err, sym, ap, ◌∙◌, subst}
use Rattle.commands.specs.Below.{Fields, IsUnlessMemory, reading}
use Rattle.commands.specs.Images.{not_read}
use Rattle.commands.proofs.ImageLemmas.{image_held, image_refused}
use Rattle.language.proofs.Handed.{handed_on}
use Rattle.commands.proofs.images.image_of.Goals as goal

pub returns-in_err-bytes-clause-refused : goal.returns-in_err-bytes-clause-refused
returns-in_err-bytes-clause-refused g c = λ tells.
    handed_on _ _ c.from_residual.ensures.1 (not_read c.in_err-bytes.ensures.fault)

pub returns-in_err-image-clause-refused : goal.returns-in_err-image-clause-refused
returns-in_err-image-clause-refused g c = λ tells.
    let files = (g.F.Files.store c.args.files.now).contents in
    let path = c.args.path.now in
    let fault = c.in_err-image.field-0.0 in
    handed_on _ _ c.from_residual-in_err-image.ensures.1
    (image_refused files path c.in_ok-bytes.bytes.items fault (c.in_ok-bytes.ensures.begins tells)
    (subst (λ (bytes : List ℕ). IsUnlessMemory {A = Fields} (Err fault) (reading bytes)) c.as_slice.ensures.value
    c.in_err-image.ensures.exact))

pub returns-clause-said : goal.returns-clause-said
returns-clause-said g c = λ tells.
    image_held (g.F.Files.store c.args.files.now).contents c.args.path.now c.in_ok-bytes.bytes.items c.in_ok-image.image
    (c.in_ok-bytes.ensures.begins tells)
    (ap reading (sym c.as_slice.ensures.value) ∙ c.in_ok-image.ensures.exact) c.in_ok-image.ensures.allowed

pub returns-in_err-bytes-clause-counted : goal.returns-in_err-bytes-clause-counted
returns-in_err-bytes-clause-counted g c =
    handed_on _ _ c.from_residual.ensures.1 c.in_err-bytes.ensures.counted

pub returns-in_err-image-clause-counted : goal.returns-in_err-image-clause-counted
returns-in_err-image-clause-counted g c =
    handed_on _ _ c.from_residual-in_err-image.ensures.1 c.in_ok-bytes.ensures.calm
