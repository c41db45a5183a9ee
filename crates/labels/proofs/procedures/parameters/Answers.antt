use Rattle.std.proofs.Common.{◌≡◌, ◌∙◌, ◌∷◌, ◌+◌, ap, ap₂, drop, fold, is_some, map, sym}
use Rattle.std.proofs.lemmas.List.{drop_more}
use Rattle.std.proofs.lemmas.List.Sums.{fold-append}
use Rattle.labels.specs.Below.{at, declared, found, NameDeclaredTwice, parameter_as, parameter_tree}
use Rattle.labels.specs.Below.{parameter_violations, noted, when, with_parameters}
use Rattle.labels.proofs.procedures.parameters.Goals as goal

pub loop-parameter-preserved : goal.loop-parameter-preserved
loop-parameter-preserved c =
    let names = c.loop-parameter.names in
    let i = c.loop-parameter.parameter-index in
    let all = c.args.parameters.now in
    let p = c.parameter-item.result in
    let rest = map parameter_tree (drop (i + 1) all) in
    let left : map parameter_tree (drop i all) ≡ parameter_tree p ∷ rest =
    ap (map parameter_tree) (drop_more all i p c.loop-parameter-test.true
    ∙ ap (λ x. x ∷ drop (i + 1) all) (sym c.parameter-item.is)) in
    let scope : c.declare.new.self ≡ declared names p.place p.name (parameter_as (parameter_tree p)) =
    rw (c.as_str.ensures, c.parameter_value.ensures, c.is_mutable.ensures) at c.in_ok-taken.ensures.ok in
    let taken : c.in_ok-taken.taken ≡ is_some (found names p.name) =
    c.in_ok-taken.ensures.taken ∙ ap (λ text. is_some (found names text)) c.as_str.ensures in
    let clash = at p.place (when (is_some (found names p.name)) NameDeclaredTwice) in
    let after = parameter_violations (declared names p.place p.name (parameter_as (parameter_tree p))) rest in
    record {
      names = ap (λ s. with_parameters s rest) scope ∙ ap (with_parameters names) (sym left)
          ∙ c.loop-parameter.invariant.names;
      findings = ap₂ (λ seen s. fold noted seen (parameter_violations s rest)) c.note_if.ensures scope
          ∙ ap (λ b. fold noted (fold noted c.loop-parameter.findings (at p.place (when b NameDeclaredTwice))) after)
          taken
          ∙ sym (fold-append noted c.loop-parameter.findings clash after)
          ∙ ap (λ ps. fold noted c.loop-parameter.findings (parameter_violations names ps)) (sym left)
          ∙ c.loop-parameter.invariant.findings;
    }
