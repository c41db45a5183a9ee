-- The arguments of a call, passed one by one.
use Rattle.std.proofs.Common.{◌≡◌, ℕ, ◌+◌, false, ◌⊎◌, inl, inr, List, [], ◌∷◌, ◌++◌, length, get_or}
use Rattle.std.proofs.Common.{drop, map, nat_lt, ◌<◌, ◌≤◌, arith, sym, ap, ◌∙◌, length-append}
use Rattle.std.proofs.lemmas.List.{append_assoc, append-nil, drop_all, drop_more}
use Rattle.std.proofs.lemmas.Bool.{cases_Bool}
use Rattle.std.proofs.lemmas.Bool.Decides.{nat_tests}
use Rattle.inline.proofs.BlockLemmas.{chain_chain, chain_nothing}
use Rattle.inline.specs.declared.flat.FlatVariable.{FlatVariable}
use Rattle.inline.specs.Flat.{FlatBlock, chain}
use Rattle.inline.specs.Numbering.{Numbers, begun, passed, passed_variables}
use Rattle.inline.specs.Below.{Expr, expr_tree, ExprTree, is_word, parameter_tree, ParameterTree}
use Rattle.language.specs.declared.tree.Parameter.{Parameter}

-- what is done and what is left come to all of it
pub record Passes (names : Numbers) (done : FlatBlock) (own : Numbers) (now : List FlatVariable)
    (ps : List ParameterTree) (es : List ExprTree)
    (whole : FlatBlock) (names_begun : Numbers) (variables : List FlatVariable) : Type 0 where
  pub block : chain done (passed names (length now) ps es) ≡ whole
  pub begins : begun names own (length now) ps es ≡ names_begun
  pub declared : now ++ passed_variables ps es ≡ variables

-- one more argument
passes_more : {names own next names_begun : Numbers} {done between whole : FlatBlock}
    {old new variables : List FlatVariable} {p : ParameterTree} {ps : List ParameterTree} {e : ExprTree}
    {es : List ExprTree} → between ≡ chain done (passed names (length old) (p ∷ []) (e ∷ []))
    → next ≡ begun names own (length old) (p ∷ []) (e ∷ []) → new ≡ old ++ passed_variables (p ∷ []) (e ∷ [])
    → Passes names done own old (p ∷ ps) (e ∷ es) whole names_begun variables
    → Passes names between next new ps es whole names_begun variables
passes_more {old = old} {new = new} {p = p} is starts more all = elim (cases_Bool (is_word p.form)) [
  | inl word ↦ record {
    block = rw (is, more, length-append, chain_chain, word) (rw word at all.block);
    begins = rw (starts, more, length-append, word) (rw word at all.begins);
    declared = rw (more, append_assoc, word) (rw word at all.declared);
  }
  | inr array ↦ (
      let same : new ≡ old = (rw array at more) ∙ append-nil old in
      record {
        block = rw (is, same, chain_chain, array) (rw array at all.block);
        begins = rw (starts, same, array) (rw array at all.begins);
        declared = rw same (rw array at all.declared);
      })
]

-- so it is for lists and an index into them
pub passes_next : {names own next names_begun : Numbers} {done between whole : FlatBlock}
    {old new variables : List FlatVariable} (ps : List Parameter) (es : List Expr) (i : ℕ) (p : Parameter) {e : Expr}
    → i < length ps → i < length es → p ≡ get_or ps i p → e ≡ get_or es i e
    → between ≡ chain done (passed names (length old) (parameter_tree p ∷ []) (expr_tree e ∷ []))
    → next ≡ begun names own (length old) (parameter_tree p ∷ []) (expr_tree e ∷ [])
    → new ≡ old ++ passed_variables (parameter_tree p ∷ []) (expr_tree e ∷ [])
    → Passes names done own old (map parameter_tree (drop i ps)) (map expr_tree (drop i es)) whole names_begun variables
    → Passes names between next new (map parameter_tree (drop (i + 1) ps)) (map expr_tree (drop (i + 1) es)) whole
    names_begun variables
passes_next ps es i p {e = e} inside_ps inside_es is_p is_e is starts more all = passes_more is starts more
    (rw (drop_more ps i p inside_ps, drop_more es i e inside_es, ← is_p, ← is_e) at all)

-- no argument is left, or no parameter
passes_end : {names own names_begun : Numbers} {done whole : FlatBlock} {now variables : List FlatVariable}
    (ps : List ParameterTree) (es : List ExprTree) → (ps ≡ []) ⊎ (es ≡ [])
    → Passes names done own now ps es whole names_begun variables
    → (done ≡ whole) × (own ≡ names_begun) × (now ≡ variables)
passes_end {done = done} {now = now} [] es none all =
    (sym (chain_nothing done) ∙ all.block, all.begins, sym (append-nil now) ∙ all.declared)
passes_end {done = done} {now = now} (p ∷ ps) [] none all =
    (sym (chain_nothing done) ∙ all.block, all.begins, sym (append-nil now) ∙ all.declared)
passes_end (p ∷ ps) (e ∷ es) (inl none) all = absurd cc
passes_end (p ∷ ps) (e ∷ es) (inr none) all = absurd cc

module _ {names own names_begun : Numbers} {done whole : FlatBlock} {now variables : List FlatVariable}
    (ps : List Parameter) (es : List Expr) (i : ℕ) where
  pub passes_parameters : length ps ≤ i
      → Passes names done own now (map parameter_tree (drop i ps)) (map expr_tree (drop i es)) whole names_begun
      variables → (done ≡ whole) × (own ≡ names_begun) × (now ≡ variables)
  passes_parameters most all = passes_end _ _ (inl (ap (map parameter_tree) (drop_all i ps most))) all

  pub passes_arguments : false ≡ nat_lt i (length es)
      → Passes names done own now (map parameter_tree (drop i ps)) (map expr_tree (drop i es)) whole names_begun
      variables → (done ≡ whole) × (own ≡ names_begun) × (now ≡ variables)
  passes_arguments past all =
      let most : length es ≤ i = grind (arith, nat_tests) in
      passes_end _ _ (inr (ap (map expr_tree) (drop_all i es most))) all
