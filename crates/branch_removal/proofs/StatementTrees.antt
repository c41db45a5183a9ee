-- The tree of a statement that holds others, by the lists of its arms or its body.
use Rattle.std.proofs.Common.{◌≡◌, ℕ, zero, suc, ◌+◌, ◌≤◌, ◌<◌, ◌++◌, List, [], ◌∷◌}
use Rattle.std.proofs.Common.{drop, get_or, length, Vec, Global, refl, sym, ap, ap₂, ◌∙◌, arith}
use Rattle.std.proofs.lemmas.List.{drop_more}
use mathlib.Core.Former.{Count}
use Rattle.branch_removal.specs.Below.{Term, term_tree}
use Rattle.branch_removal.specs.Bounds.{statement_nodes, block_nodes}
use Rattle.branch_removal.specs.declared.straight.StraightStatement.{StraightStatement}
use Rattle.branch_removal.specs.declared.straight.StraightStatement as code
use Rattle.branch_removal.specs.Straight.{StraightTree, StraightBlock, nothing, first, chain, branch, repeats}
use Rattle.branch_removal.specs.Straight.{straight_tree, straight_row, straight_block}

rows : (n : _) (row : code.Row_of-StraightStatement n)
    → straight_row row ≡ straight_block (code.items-the_row-StraightStatement n row)
rows n code.end_of-StraightStatement = refl
rows n (code.more_of-StraightStatement s rest) = ap (first (straight_tree s)) (rows _ rest)

abbrev arms : StraightStatement → ((n : Count) × code.Row_of-StraightStatement n)
    × ((n : Count) × code.Row_of-StraightStatement n)
arms (code.Branch' condition shape accepted shape' otherwise) = ((_, accepted), (_, otherwise))
arms _ = ((_, code.end_of-StraightStatement), (_, code.end_of-StraightStatement))

abbrev body_of : StraightStatement → (n : Count) × code.Row_of-StraightStatement n
body_of (code.Repeat' x low high shape body) = (_, body)
body_of _ = (_, code.end_of-StraightStatement)

pub branch_tree : (condition : Term) (accepted otherwise : Vec StraightStatement Global) →
    straight_tree (code.Branch condition accepted otherwise)
    ≡ branch (term_tree condition) (straight_block accepted.items) (straight_block otherwise.items)
branch_tree condition accepted otherwise =
    let both = arms (code.Branch condition accepted otherwise) in
    ap₂ (branch (term_tree condition))
    (rows both.0.0 both.0.1 ∙ ap straight_block (code.items_hidden-the_row-StraightStatement-0 accepted))
    (rows both.1.0 both.1.1 ∙ ap straight_block (code.items_hidden-the_row-StraightStatement-0 otherwise))

pub loop_tree : (x : ℕ) (low high : Term) (body : Vec StraightStatement Global) →
    straight_tree (code.Repeat x low high body)
    ≡ repeats x (term_tree low) (term_tree high) (straight_block body.items)
loop_tree x low high body =
    let inner = body_of (code.Repeat x low high body) in
    ap (repeats x (term_tree low) (term_tree high)) (rows inner.0 inner.1
    ∙ ap straight_block (code.items_hidden-the_row-StraightStatement-0 body))

module _ {statement : StraightStatement} {condition : Term} (accepted otherwise : Vec StraightStatement Global)
    (is : statement ≡ code.Branch condition accepted otherwise)
    {ones others : List StraightStatement} (one : ones ≡ accepted.items) (other : others ≡ otherwise.items) where
  pub tree_of_branch : straight_tree statement
      ≡ branch (term_tree condition) (straight_block ones) (straight_block others)
  tree_of_branch = ap straight_tree is
      ∙ (branch_tree condition accepted otherwise
      ∙ ap₂ (λ xs ys. branch (term_tree condition) (straight_block xs) (straight_block ys)) (sym one) (sym other))

  -- both arms have fewer nodes
  pub arms_smaller : 1 + block_nodes (straight_block ones) + block_nodes (straight_block others)
      ≤ statement_nodes (straight_tree statement)
  arms_smaller = omega (arith, ap statement_nodes tree_of_branch)

  pub accepted_smaller : block_nodes (straight_block ones) < statement_nodes (straight_tree statement)
  accepted_smaller = omega (arith, ap statement_nodes tree_of_branch)

  pub otherwise_smaller : block_nodes (straight_block others) < statement_nodes (straight_tree statement)
  otherwise_smaller = omega (arith, ap statement_nodes tree_of_branch)

module _ {statement : StraightStatement} {x : ℕ} {low high : Term} (body : Vec StraightStatement Global)
    (is : statement ≡ code.Repeat x low high body)
    {inner : List StraightStatement} (items : inner ≡ body.items) where
  pub tree_of_loop : straight_tree statement ≡ repeats x (term_tree low) (term_tree high) (straight_block inner)
  tree_of_loop = ap straight_tree is
      ∙ (loop_tree x low high body
      ∙ ap (λ xs. repeats x (term_tree low) (term_tree high) (straight_block xs)) (sym items))

  pub body_smaller : block_nodes (straight_block inner) < statement_nodes (straight_tree statement)
  body_smaller = omega (arith, ap statement_nodes tree_of_loop)

-- Lists of statements.

pub chain-assoc : (these those more : StraightBlock) → chain (chain these those) more ≡ chain these (chain those more)
chain-assoc nothing those more = refl
chain-assoc (first statement these) those more = ap (first statement) (chain-assoc these those more)

pub chain-nothing : (these : StraightBlock) → chain these nothing ≡ these
chain-nothing nothing = refl
chain-nothing (first statement these) = ap (first statement) (chain-nothing these)

-- one statement more, with what follows it
pub chain-push : (xs : List StraightStatement) (x : StraightStatement) (rest : StraightBlock)
    → chain (straight_block (xs ++ x ∷ [])) rest ≡ chain (straight_block xs) (first (straight_tree x) rest)
chain-push [] x rest = refl
chain-push (y ∷ xs) x rest = ap (first (straight_tree y)) (chain-push xs x rest)

-- and with nothing behind it
pub pushed : (old new : List StraightStatement) (x : StraightStatement) (tree : StraightTree) → new ≡ old ++ x ∷ []
    → straight_tree x ≡ tree
    → straight_block new ≡ chain (straight_block old) (first tree nothing)
pushed old new x tree items is = ap straight_block items
    ∙ (sym (chain-nothing (straight_block (old ++ x ∷ []))) ∙ chain-push old x nothing
    ∙ ap (λ t. chain (straight_block old) (first t nothing)) is)

nodes_behind : (statements : List StraightStatement) (i : ℕ)
    → block_nodes (straight_block (drop i statements)) ≤ block_nodes (straight_block statements)
nodes_behind [] zero = omega arith
nodes_behind [] (suc i) = omega arith
nodes_behind (s ∷ rest) zero = omega arith
nodes_behind (s ∷ rest) (suc i) = omega (arith, nodes_behind rest i)

-- the next item
pub item_here : (statements : List StraightStatement) (i : ℕ) (item : StraightStatement) → i < length statements
    → item ≡ get_or statements i item → drop i statements ≡ item ∷ drop (i + 1) statements
item_here statements i item below is = drop_more statements i item below
    ∙ ap (λ x. x ∷ drop (i + 1) statements) (sym is)

pub smaller_here : (statements : List StraightStatement) (i : ℕ) (item : StraightStatement)
    → drop i statements ≡ item ∷ drop (i + 1) statements
    → statement_nodes (straight_tree item) ≤ block_nodes (straight_block statements)
smaller_here statements i item here =
    omega (arith, ap (λ xs. block_nodes (straight_block xs)) here, nodes_behind statements i)
