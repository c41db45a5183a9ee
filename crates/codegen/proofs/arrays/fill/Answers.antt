use Rattle.std.proofs.Common.{◌≡◌, ◌+◌, ◌∷◌, ◌∙◌, ap, drop, List, map, subst, sym}
use Rattle.std.proofs.lemmas.List.{drop_more}
use Rattle.codegen.proofs.Language.{Term, term_tree}
use Rattle.codegen.proofs.Machine.{ArePlacedTerms}
use Rattle.codegen.proofs.arrays.fill.Goals as goal

-- what is put has the place of the value
pub into_element-requires : goal.into_element-requires
into_element-requires c =
    let layout = c.args.layout.now in
    let values = c.args.values.now in
    let i = c.loop-value.value-index in
    let value = c.value-item.result in
    let here : drop i values ≡ value ∷ drop (i + 1) values = drop_more values i value c.loop-value-test.true
    ∙ ap (λ x. x ∷ drop (i + 1) values) (sym c.value-item.is) in
    c.stored_value-value.ensures.placed layout 0
    (subst (λ (xs : List Term). ArePlacedTerms layout (map term_tree xs)) here
    c.loop-value.invariant.placed).0
