use Rattle.std.proofs.Common.{List, ℕ, ap, ◌∙◌}
use Rattle.source_eval.specs.Below.{with_value}
use Rattle.source_eval.specs.Views.{held, value_of}
use Rattle.source_eval.proofs.VariableLemmas.{held-set}
use Rattle.source_eval.proofs.variables.Variables.set.Goals as goal

pub returns-clause-ok : goal.returns-clause-ok
returns-clause-ok c =
    held-set c.args.self.now _ c.as_str.result.now c.args.value c.in_ok-insert.ensures.updates
    ∙ ap (λ (name : List ℕ). with_value (held c.args.self.now) name (value_of c.args.value)) c.as_str.ensures
