-- What is passed to a call past its last argument.
use Rattle.std.proofs.Common.{◌≡◌, ℕ, ◌≤◌, false, nat_lt, List, [], ◌∷◌, length, drop, map, refl, arith}
use Rattle.std.proofs.lemmas.Bool.Decides.{nat_tests}
use Rattle.std.proofs.lemmas.List.{drop_all}
use Rattle.inline.specs.Below.{Expr, expr_tree, nodes_passed, ParameterTree, word_arguments}

no_word_arguments : (ps : List ParameterTree) → word_arguments ps [] ≡ []
no_word_arguments [] = refl
no_word_arguments (p ∷ ps) = refl

-- nothing
pub no_arguments : (ps : List ParameterTree) (es : List Expr) (n : ℕ) → false ≡ nat_lt n (length es)
    → nodes_passed (word_arguments ps (map expr_tree (drop n es))) ≡ 0
no_arguments ps es n past =
    let end : length es ≤ n = grind (arith, nat_tests) in
    rw (drop_all n es end, no_word_arguments ps) refl
