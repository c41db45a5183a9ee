use Rattle.std.proofs.Common.{◌+◌, ◌∷◌, ◌∙◌, ap, ap₂, drop, map, refl, sym}
use Rattle.std.proofs.lemmas.List.{map-append}
use Rattle.functions.specs.Below.{parameter_tree}
use Rattle.functions.specs.function_text.Functions.{named, written_parameter}
use Rattle.functions.specs.function_text.Names.{written_name}
use Rattle.functions.proofs.Steps.{all_made, next_item, one_more}
use Rattle.functions.proofs.function_text.function.named_params.Goals as goal

pub loop-parameter-preserved : goal.loop-parameter-preserved
loop-parameter-preserved c =
    let l = c.loop-parameter in
    let parameters = c.args.parameters.now in
    let parameter = c.parameter-item.result in
    let written = written_parameter c.args.macros.now.function.now in
    let rest = map written (map parameter_tree (drop (l.parameter-index + 1) parameters)) in
    let name = c.in_ok-name.ensures ∙ ap (written_name c.args.macros.now.function.now) c.as_str.ensures in
    one_more (λ ps. map written (map parameter_tree ps)) parameters l.parameter-index parameter _ rest
    (map named l.params.items) _ _
    (next_item parameters l.parameter-index parameter c.loop-parameter-test.true c.parameter-item.is)
    (ap₂ (λ name param. record { name = name; param = param } ∷ rest) (sym name) (sym c.param.ensures))
    (ap (map named) c.in_ok-push.ensures.items ∙ map-append named l.params.items _) l.invariant

pub returns : goal.returns
returns c =
    let l = c.loop-parameter in
    all_made (λ ps. map (written_parameter c.args.macros.now.function.now) (map parameter_tree ps))
    c.args.parameters.now l.parameter-index (map named l.params.items) _ refl c.loop-parameter-test.false l.invariant
