use Rattle.std.proofs.Common.{ℕ, List, ◌++◌, ap, ◌∙◌}
use Rattle.std.proofs.lemmas.Result.{IfOk-weaker, IfErr-weaker}
use Rattle.functions.specs.function_text.Functions.{parts_of}
use Rattle.functions.proofs.function_text_lemmas.FunctionLemmas.{has_export, made, fault_of}
use Rattle.functions.proofs.function_text.function.function_of.Goals as goal

pub export_of-export-requires : goal.export_of-export-requires
export_of-export-requires c =
    let is = c.in_ok-compiled.ensures.started in (
      is.0,
      is.1,
      has_export c.args.optimisation c.args.profile c.args.prefix.now c.args.source.now _ is.0 is.1
          is.2.judged,
    )

pub returns-clause-made : goal.returns-clause-made
returns-clause-made c =
    let is = c.in_ok-compiled.ensures.started in
    let at = c.export_of-export.ensures in
    IfOk-weaker c.of_export.result _ _
    (λ f of. made c.args.optimisation c.args.profile c.args.prefix.now c.args.source.now _ is.0 is.1 _ _ is.2 is.3
    is.4 at.0 _ at.1 _
    (c.as_str-2.ensures.value ∙ c.in_ok-name.ensures
    ∙ ap (λ (n : List ℕ). c.args.prefix.now ++ n) c.as_str.ensures) _ c.pace_of.ensures (parts_of f) of)
    c.of_export.ensures.made

pub returns-clause-fault : goal.returns-clause-fault
returns-clause-fault c =
    let is = c.in_ok-compiled.ensures.started in
    let at = c.export_of-export.ensures in
    IfErr-weaker c.of_export.result _ _
    (fault_of c.args.optimisation c.args.profile c.args.prefix.now c.args.source.now _ is.0 is.1 _ _ is.2 is.3 is.4
    at.0 _ at.1 _
    (c.as_str-2.ensures.value ∙ c.in_ok-name.ensures
    ∙ ap (λ (n : List ℕ). c.args.prefix.now ++ n) c.as_str.ensures))
    c.of_export.ensures.fault
