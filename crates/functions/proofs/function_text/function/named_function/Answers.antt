use Rattle.std.proofs.Common.{ℕ, List, map, refl, ap, ◌∙◌}
use Rattle.functions.specs.function_text.Functions.{written_parameter}
use Rattle.functions.specs.Below.{parameter_tree}
use Rattle.language.specs.declared.tree.Parameter.{Parameter}
use Rattle.functions.proofs.function_text.function.named_function.Goals as goal

pub returns-clause-made : goal.returns-clause-made
returns-clause-made c =
    let given = c.as_slice.result.now in
    record {
      image = c.into_fields.ensures;
      needs_are = refl;
      pace_is = refl;
      named = c.in_ok-name.ensures;
      free = c.requires;
      parameters =
          c.in_ok-parameters.ensures
          ∙ ap (λ (name : List ℕ). map (written_parameter name) (map parameter_tree given)) c.in_ok-macros.ensures
          ∙ ap (λ (ps : List Parameter). map (written_parameter c.args.name.now) (map parameter_tree ps))
          c.as_slice.ensures.value;
    }
