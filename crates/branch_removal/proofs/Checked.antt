-- What passes the test is straight.
use Rattle.std.proofs.Common.{◌≡◌, ◌+◌, ◌*◌, true, List, Option, None, map}
use Rattle.std.proofs.Common.{Some, Bool, false, if◌then◌else◌, IfSome, Bor, option_copied, option_map, unwrap_or, refl, ap₂, ap, ◌∙◌, subst, sym}
use Rattle.std.proofs.lemmas.Option.{none-some, same_Some}
use Rattle.std.proofs.lemmas.Bool.{cond-false, cond-true, leb-true}
use Rattle.std.proofs.lemmas.List.{length-map}
use Rattle.branch_removal.specs.Below.{declaration_of, declared_words, FlatVariable, most_variable_bytes, Term}
use Rattle.branch_removal.specs.Below.{term_tree, TermTree, types_of, value_nodes}
use Rattle.branch_removal.specs.Bounds.{block_work}
use Rattle.branch_removal.specs.Checked.{checked, is_checked, redeclared}
use Rattle.branch_removal.specs.Heights.{depth_in_all, program_height}
use Rattle.branch_removal.specs.Kept.{IsStraight}
use Rattle.branch_removal.specs.declared.straight.StraightStatement.{StraightStatement}
use Rattle.branch_removal.specs.Straight.{StraightBlock, StraightProgram, straight_block, with_variables}
use Rattle.branch_removal.proofs.CheckedTypes.{all_fit, both, it_results, they_come_first}

module _ (p : StraightProgram) (declared : List FlatVariable) (body : StraightBlock) (value : Option TermTree) where
  abbrev made : StraightProgram
  made = with_variables p declared body value

  pub made_straight : IsStraight p → is_checked made ≡ true → IsStraight made
  made_straight is h =
      let parameters = map declaration_of p.parameters in
      let all = both (both (both (they_come_first parameters declared) (all_fit p.profile declared p.controls body))
      (it_results (types_of p.profile declared) p.returned value))
      (both (both (leb-true (4 * declared_words declared) most_variable_bytes)
      (leb-true (block_work p.iterations body + value_nodes value) p.work))
      (leb-true (p.controls + 2 * depth_in_all body + program_height made) p.nodes)) h in
      let code = all.0.0.1 in
      record {
        typed = record {
          parameters = rw (sym (length-map p.parameters declaration_of)) all.0.0.0;
          body = code.typed;
          hidden = code.hidden;
          result = all.0.1;
        };
        bounded = record {
          lengths = is.bounded.lengths;
          parameters = is.bounded.parameters;
          declared = all.1.0.0;
          nodes = is.bounded.nodes;
          worked = all.1.0.1;
          work_fits = is.bounded.work_fits;
          framed = all.1.1;
        };
      }

-- what holds of a program that is straight holds of what is checked
pub where_checked : (R : StraightProgram → Type 0) (o : Option StraightProgram) (p : StraightProgram) → o ≡ checked p
    → IfSome o IsStraight → (IsStraight p → R p) → IfSome o R
unfolding checked
where_checked R None p is straight so = tt
where_checked R (Some q) p is straight so = by_test (is_checked p) is
  where
    by_test : (b : Bool) → Some q ≡ (if b then Some p else None) → R q
    by_test true same = let one = same_Some q p same in subst R (sym one) (so (subst IsStraight one straight))
    by_test false same = absurd (none-some q (sym same))

-- the test of what references lead to is that of the values
pub same_test : (p : StraightProgram) (declared : List FlatVariable) (items seen : List StraightStatement)
    (value : Option Term) (read : Option (Bor Term)) (result : Bool)
    → result ≡ is_checked (with_variables p declared (straight_block seen)
    (option_map (λ (term : Bor Term). term_tree term.now) read))
    → seen ≡ items → option_copied read ≡ value
    → is_checked (with_variables p declared (straight_block items) (option_map term_tree value)) ≡ result
same_test p declared items seen value read result is whole copied =
    sym (is
    ∙ ap₂ (λ (b : StraightBlock) (v : Option TermTree). is_checked (with_variables p declared b v))
    (ap straight_block whole) (led read ∙ ap (option_map term_tree) copied))
  where
    led : (o : Option (Bor Term))
        → option_map (λ (term : Bor Term). term_tree term.now) o ≡ option_map term_tree (option_copied o)
    led None = refl
    led (Some term) = refl

-- a program that passes, and one that does not
pub is_made : (p : StraightProgram) → is_checked p ≡ true → Some p ≡ checked p
unfolding checked
is_made p is = sym (cond-true (is_checked p) (Some p) None is)

pub none_made : (p : StraightProgram) → is_checked p ≡ false → None ≡ checked p
unfolding checked
none_made p is = sym (cond-false (is_checked p) (Some p) None is)

-- other variables that pass, and those that do not
pub redeclared_where : (p : StraightProgram) (declared : List FlatVariable)
    → is_checked (with_variables p declared p.body p.value) ≡ true
    → with_variables p declared p.body p.value ≡ redeclared p declared
unfolding redeclared
redeclared_where p declared is =
    ap (λ (o : Option StraightProgram). unwrap_or o p) (is_made (with_variables p declared p.body p.value) is)

pub redeclared_else : (p : StraightProgram) (declared : List FlatVariable)
    → is_checked (with_variables p declared p.body p.value) ≡ false → p ≡ redeclared p declared
unfolding redeclared
redeclared_else p declared is =
    ap (λ (o : Option StraightProgram). unwrap_or o p) (none_made (with_variables p declared p.body p.value) is)
