use Rattle.inline.proofs.Fitting.{value_fits, suited_fits}
use Rattle.inline.proofs.FittingBodies.{fits_after, fits_after_all}
use Rattle.inline.proofs.laws.typed_values_fit.Goals as goal

pub returns : goal.returns
returns c = record {
  value = λ types m e word fits typed. value_fits types m fits typed;
  suited = λ types m e wanted fits suits. suited_fits types m fits wanted e suits;
  statement = λ declared types control s m typed. fits_after declared s types control typed m;
  body = λ declared types control b m typed. fits_after_all declared b types control typed m;
}
