use Rattle.std.proofs.Common.{length, ap, ap₂, ◌∙◌}
use Rattle.labels.specs.Below.{declared, Procedure, procedure_tree, shortened}
use Rattle.labels.proofs.TreeLemmas.{scope_before_body}
use Rattle.labels.proofs.procedures.procedure.Goals as goal

pub returns-clause-names : goal.returns-clause-names
returns-clause-names c =
    c.truncate.ensures
    ∙ ap (shortened c.len-outside.result) c.in_ok-inside.ensures.names
    ∙ scope_before_body c.len-outside.result c.declare.new.self (procedure_tree c.args.procedure.now).parameters
    (procedure_tree c.args.procedure.now).body c.len-outside.ensures.names c.len-outside.ensures.places
    ∙ c.in_ok-taken.ensures.ok
    ∙ ap₂ (λ text assigns. declared c.args.names.now c.args.procedure.now.place text
    (Procedure (record { number = length c.args.earlier.now; assigns_public = assigns })))
    c.as_str.ensures c.assigns_public.ensures
