use Rattle.inline.proofs.FittingBodies.{parameters_fit, end_fits, result_fits}
use Rattle.inline.proofs.laws.flat_values_fit.Goals as goal

pub returns : goal.returns
returns c = record {
  parameters = parameters_fit;
  end = end_fits;
  result = result_fits;
}
