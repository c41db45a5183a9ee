use Rattle.std.proofs.Common.{◌≡◌, ◌+◌, ◌∷◌, ◌∙◌, ap, drop, fold, map, sym}
use Rattle.std.proofs.lemmas.List.{drop_more}
use Rattle.std.proofs.lemmas.List.Sums.{fold-append}
use Rattle.labels.specs.Below.{expr_tree, expr_violations, exprs_violations, noted, typed_of_all, with_typed}
use Rattle.labels.proofs.TypeLemmas.{count_more, found_before, found_more}
use Rattle.labels.proofs.expressions.expressions.Goals as goal

pub loop-expr-preserved : goal.loop-expr-preserved
loop-expr-preserved c =
    let l = c.loop-expr in
    let n = c.args.names.now in
    let e = c.expr-item.result in
    let kept = c.in_ok-typed.ensures in
    let rest = map expr_tree (drop (l.expr-index + 1) c.args.exprs.now) in
    let here : drop l.expr-index c.args.exprs.now ≡ e ∷ drop (l.expr-index + 1) c.args.exprs.now =
    drop_more c.args.exprs.now l.expr-index e c.loop-expr-test.true
    ∙ ap (λ x. x ∷ drop (l.expr-index + 1) c.args.exprs.now) (sym c.expr-item.is) in
    record {
      count = count_more l.typed _ l.types.items _ c.expression-one.result l.expr-index kept.kept kept.types
          l.invariant.count;
      typed = found_more l.typed _ l.types.items _ c.expression-one.result (typed_of_all n rest) kept.kept kept.types
          ∙ ap (λ one. found_before l.typed l.types.items (with_typed one (typed_of_all n rest)))
          c.expression-one.ensures.typed
          ∙ ap (λ xs. found_before l.typed l.types.items (typed_of_all n (map expr_tree xs))) (sym here)
          ∙ l.invariant.typed;
      findings = ap (λ seen. fold noted seen (exprs_violations n rest)) c.expression-one.ensures.findings
          ∙ sym (fold-append noted l.findings (expr_violations n (expr_tree e)) (exprs_violations n rest))
          ∙ ap (λ xs. fold noted l.findings (exprs_violations n (map expr_tree xs))) (sym here)
          ∙ l.invariant.findings;
    }
