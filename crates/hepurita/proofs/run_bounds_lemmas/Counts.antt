-- How many nodes the run of an expression evaluates, and how many are counted for what it becomes.
use Rattle.std.proofs.Common.{◌≡◌, ℕ, ◌+◌, ◌≤◌, List, [], ◌∷◌, Option, Some, None}
use Rattle.std.proofs.Common.{inl, inr, refl, sym, ◌∙◌, subst, arith}
use Rattle.std.proofs.lemmas.Bool.{cases_Bool}
use Rattle.hepurita.specs.Below.{after, after_all, andthen, binary, chain, continued, convert, element, ended}
use Rattle.hepurita.specs.Below.{evaluated_all, ExprTree, faults, FlatBlock, gives, inside, is_word, name, nodes_in}
use Rattle.hepurita.specs.Below.{nodes_in_all, nodes_passed, number, Numbers, ParameterTree, passed as passed_block}
use Rattle.hepurita.specs.Below.{Place, prefix, return_run, ReturnTree, rotate, Run, select, term_nodes, tick}
use Rattle.language.specs.State.{State}
use Rattle.hepurita.specs.Below.{truth, value, value_given, value_nodes, value_of, Values, values, word_arguments}
use Rattle.inline.specs.Flat.{nothing, first}
use Rattle.inline.specs.Flat as flat
use Rattle.hepurita.proofs.run_bounds_lemmas.Below.{same_nodes, Comes, well, fails, mismatch}
use Rattle.language.specs.Evaluation.{passed}
use Rattle.language.specs.Meaning.{Ending}

-- Parts.

-- a run evaluates no more nodes than so many
pub record RunIsWithin {A : Type 0} (r : Run A) (most : ℕ) : Type 0 where
  pub nodes : r.nodes ≤ most

pub fits : {A : Type 0} {r : Run A} {few most : ℕ} → RunIsWithin r few → few ≤ most → RunIsWithin r most
fits within less = record { nodes = omega arith }

pub none : {A : Type 0} {ending : Ending A} → RunIsWithin (ended ending) 0
none = record { nodes = omega arith }

-- one node more
pub ticked : {A : Type 0} {r : Run A} {most : ℕ} → RunIsWithin r most → RunIsWithin (tick r) (most + 1)
unfolding tick
ticked within = record { nodes = omega arith }

pub inside_within : {A : Type 0} {r : Run A} {most : ℕ} → RunIsWithin r most → RunIsWithin (inside r) most
unfolding inside
inside_within within = record { nodes = within.nodes }

-- a part, and a next one where it gives something
pub then_within : {A B : Type 0} {r : Run A} {next : A → Run B} {one more : ℕ} → RunIsWithin r one
    → ((a : A) → r.ends ≡ gives a → RunIsWithin (next a) more) → RunIsWithin (andthen r next) (one + more)
unfolding andthen
then_within {A} {B} {r} {next} {one} {more} within later = record { nodes = by r.ends refl }
  where
    by : (ending : Ending A) → r.ends ≡ ending → (continued r.nodes r.bodies ending next).nodes ≤ one + more
    by (gives a) is = omega (arith, (later a is).nodes)
    by (faults place) is = omega arith

same_result : {A : Type 0} (a b : A) → gives a ≡ gives b → a ≡ b
same_result a b h = cc

-- what a part gives is as it should be
pub reached : {A : Type 0} {Is : Ending A → Type 0} {Good : A → Type 0} {fault : Option Place} → Comes Is Good fault
    → (ending : Ending A) → ((other : Ending A) → Is other → ending ≡ other) → (a : A) → ending ≡ gives a → Good a
reached {Good = Good} (well t is good) ending worked a gave =
    subst Good (same_result t a (sym (worked (gives t) is) ∙ gave)) good
reached (fails at is) ending worked a gave = absurd (mismatch a at (sym gave ∙ worked (faults at) is))

-- Expressions.

pub value_spends : (s : State) (e : ExprTree) → RunIsWithin (value s e) (nodes_in e)
value_spends s (number place v kind) = fits (ticked none) (omega arith)
value_spends s (truth place v) = fits (ticked none) (omega arith)
value_spends s (name place text) = fits (ticked none) (omega arith)
value_spends s (prefix place operator a) =
    fits (ticked (then_within (value_spends s a) (λ v is. none))) (omega arith)
value_spends s (binary place operator a b) =
    fits (ticked (then_within (value_spends s a) (λ v is. then_within (value_spends s b) (λ w is'. none))))
    (omega arith)
value_spends s (rotate place a amount) =
    fits (ticked (then_within (value_spends s a) (λ v is. none))) (omega arith)
value_spends s (convert place kind a) =
    fits (ticked (then_within (value_spends s a) (λ v is. none))) (omega arith)
value_spends s (select place a b c) =
    fits
    (ticked (then_within (value_spends s a) (λ u is. then_within (value_spends s b) (λ v is'.
    then_within (value_spends s c) (λ w is''. none)))))
    (omega arith)
value_spends s (element place target text a) =
    fits (ticked (then_within (value_spends s a) (λ v is. none))) (omega arith)

pub values_spend : (s : State) (es : List ExprTree) → RunIsWithin (values s es) (nodes_in_all es)
values_spend s [] = none
values_spend s (e ∷ es) =
    fits (then_within (value_spends s e) (λ v is. then_within (values_spend s es) (λ vs is'. none))) (omega arith)

pub passed_spends : (s : State) (es : List ExprTree) → RunIsWithin (passed s es) (nodes_passed es)
passed_spends s [] = none
passed_spends s (e ∷ es) =
    fits (ticked (then_within (value_spends s e) (λ v is. then_within (passed_spends s es) (λ vs is'. none))))
    (omega arith)

-- the end of a body
pub return_spends : (t : State) (o : Option ReturnTree) (names : Numbers)
    → RunIsWithin (return_run t o) (value_nodes (value_of names o))
return_spends t None names = none
return_spends t (Some r) names =
    fits (ticked (then_within (value_spends t r.value) (λ w is. none))) (omega (arith, same_nodes names r.value))

pub given_nodes : (value : Option flat.TermTree) → value_nodes value ≤ 1 + term_nodes (value_given value)
given_nodes None = omega arith
given_nodes (Some value) = omega arith

-- Blocks.

pub evaluated_chain : (a b : FlatBlock) (m : Values)
    → evaluated_all m (chain a b) ≡ evaluated_all m a + evaluated_all (after_all m a) b
evaluated_chain nothing b m = omega arith
evaluated_chain (first s a) b m = omega (arith, evaluated_chain a b (after m s))

-- word arguments that are put into variables
pub passed_evaluated : (names : Numbers) (ps : List ParameterTree) (es : List ExprTree) (n : ℕ) (m : Values)
    → evaluated_all m (passed_block names n ps es) ≡ nodes_passed (word_arguments ps es)
passed_evaluated names [] es n m = refl
passed_evaluated names (p ∷ ps) [] n m = refl
passed_evaluated names (p ∷ ps) (e ∷ es) n m = elim (cases_Bool (is_word p.form)) [
  | inl is ↦ rw is (simp (passed_evaluated names ps es) (omega (arith, same_nodes names e)))
  | inr is ↦ rw is (passed_evaluated names ps es n m)
]
