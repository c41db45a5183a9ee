use Rattle.std.proofs.Common.{ap, sym, ◌∙◌}
use Rattle.labels.specs.Below.{array_name, expr_tree}
use Rattle.labels.proofs.clashes.array_name.Goals as goal

pub returns-in-Array : goal.returns-in-Array
returns-in-Array c = c.bare_name.ensures c.in-Array.field-0
    ∙ ap (λ type. array_name type (expr_tree c.args.argument.now)) (sym c.in-Array.is)
