use Rattle.std.proofs.Common.{◌≡◌, true, length, map, drop, fold}
use Rattle.labels.specs.Below.{expr_tree, exprs_violations, noted, typed_of_all}
use Rattle.labels.proofs.TypeLemmas.{found_before}
use Rattle.labels.proofs.expressions.expressions.Given as goal

-- what is left of the expressions leads to the same types and the same findings as all of them
abbrev pub invariant-loop-expr : goal.invariant-loop-expr
invariant-loop-expr l =
    let rest = map expr_tree (drop l.expr-index l.exprs) in
    let all = map expr_tree l.exprs in
    record {
      count : l.typed ≡ true → length l.types.items ≡ l.expr-index;
      typed : found_before l.typed l.types.items (typed_of_all l.names rest) ≡ typed_of_all l.names all;
      findings : fold noted l.findings (exprs_violations l.names rest)
          ≡ fold noted l.fn.findings (exprs_violations l.names all);
    }
