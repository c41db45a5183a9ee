use Rattle.rv_programs.proofs.CodeSteps.{of_words, words_step}
use Rattle.rv_programs.proofs.Guards.{image_step, of_image}
use Rattle.rv_programs.proofs.Images.{image_leads, of_image_leads, image_halts, of_image_halts, image_runs, of_image_runs}
use Rattle.rv_programs.proofs.laws.images_are_programs.Goals as goal

pub returns : goal.returns
returns c = record {
  code = λ code s ending. (of_words, words_step);
  step = λ code s ending. (of_image, image_step);
  leads = λ code n s t seen. (of_image_leads, image_leads);
  halts = λ code n s t seen stop. (of_image_halts, image_halts);
  runs = λ code budget s t seen stop. (of_image_runs, image_runs);
}
