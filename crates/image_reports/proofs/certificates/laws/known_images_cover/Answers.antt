use Rattle.image_reports.proofs.certificates_lemmas.Covered.{loaded_covered}
use Rattle.image_reports.proofs.certificates.laws.known_images_cover.Goals as goal

pub returns : goal.returns
returns c = λ code frame image given shifts args allowed bases agree.
    loaded_covered code frame image given shifts args allowed bases.frame_ends agree
