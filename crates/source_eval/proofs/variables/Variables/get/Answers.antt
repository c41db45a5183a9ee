use Rattle.std.proofs.Common.{ap, sym, ◌∙◌}
use Rattle.source_eval.specs.Views.{held}
use Rattle.source_eval.proofs.VariableLemmas.{copied, held-at}
use Rattle.source_eval.proofs.variables.Variables.get.Goals as goal

pub returns : goal.returns
returns c =
    copied c.get.result ∙ sym (held-at c.args.self.now c.as_str.result.now _ c.get.ensures.value)
    ∙ ap (held c.args.self.now) c.as_str.ensures
