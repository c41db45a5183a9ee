use Rattle.expression_code.proofs.Places.{parameter_words}
use Rattle.std.proofs.Common.{◌∙◌}
use Rattle.expression_code.proofs.layout.parameter_words.Goals as goal

pub returns : goal.returns
returns c = c.words.ensures ∙ parameter_words c.args.parameter
