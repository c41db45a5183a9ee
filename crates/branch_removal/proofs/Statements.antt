-- How a statement that holds others loses its branches on secrets, by the lists of its arms or its body.
use Rattle.std.proofs.Common.{◌≡◌, ℕ, zero, suc, ◌+◌, ◌≤◌, ◌<◌, max, List, [], ◌∷◌, drop, Vec, Global}
use Rattle.std.proofs.Common.{Option, Some, refl, sym, ap, ap₂, ◌∙◌, arith}
use Rattle.std.proofs.Math.Nat.{le-max_left, le-max_right}
use Rattle.inline.proofs.RowLemmas as rows
use Rattle.branch_removal.specs.Below.{body_nodes, Branch, flat_block, flat_tree, FlatBlock, FlatStatement, Label, Loop}
use Rattle.branch_removal.specs.Below.{Secret, Term, term_tree, TermTree, tree_nodes}
use Rattle.inline.specs.Flat as flat
use Rattle.branch_removal.specs.private.Removal.{take_within, controls_in, controls_in_all, own_controls, removed}
use Rattle.branch_removal.specs.private.Removal.{removed_all, single}
use Rattle.branch_removal.specs.Straight.{StraightTree, StraightBlock, chain, take, repeats}
use Rattle.branch_removal.proofs.StatementTrees.{chain-assoc}

-- Lists of statements.

nodes_behind : (body : List FlatStatement) (i : ℕ)
    → body_nodes (flat_block (drop i body)) ≤ body_nodes (flat_block body)
nodes_behind [] zero = omega arith
nodes_behind [] (suc i) = omega arith
nodes_behind (s ∷ body) zero = omega arith
nodes_behind (s ∷ body) (suc i) = omega (arith, nodes_behind body i)

-- of some statements one more
pub passed : (within : Option ℕ) (control : ℕ) (body : List FlatStatement) (i : ℕ) (item : FlatStatement)
    → drop i body ≡ item ∷ drop (i + 1) body
    → (before after whole : StraightBlock)
    → chain before (removed_all within control (flat_block (drop i body))) ≡ whole
    → after ≡ chain before (removed within control (flat_tree item))
    → chain after (removed_all within control (flat_block (drop (i + 1) body))) ≡ whole
passed within control body i item here before after whole so_far one =
    let rest = removed_all within control (flat_block (drop (i + 1) body)) in
    ap (λ front. chain front rest) one ∙ (chain-assoc before (removed within control (flat_tree item)) rest
    ∙ (ap (λ xs. chain before (removed_all within control (flat_block xs))) (sym here) ∙ so_far))

-- the control values of that one, and of those behind it
pub fewer_here : (control most : ℕ) (body : List FlatStatement) (i : ℕ) (item : FlatStatement)
    → drop i body ≡ item ∷ drop (i + 1) body
    → control + controls_in_all (flat_block (drop i body)) < most → control + controls_in (flat_tree item) < most
fewer_here control most body i item here below =
    let both = ap (λ xs. controls_in_all (flat_block xs)) here in
    omega (
      arith,
      both,
      below,
      le-max_left (controls_in (flat_tree item))
          (controls_in_all (flat_block (drop (i + 1) body))),
    )

-- no statement has more nodes than all
pub smaller_here : (body : List FlatStatement) (i : ℕ) (item : FlatStatement) → drop i body ≡ item ∷ drop (i + 1) body
    → tree_nodes (flat_tree item) ≤ body_nodes (flat_block body)
smaller_here body i item here =
    omega (arith, ap (λ xs. body_nodes (flat_block xs)) here, nodes_behind body i)

pub fewer_behind : (control most : ℕ) (body : List FlatStatement) (i : ℕ) (item : FlatStatement)
    → drop i body ≡ item ∷ drop (i + 1) body
    → control + controls_in_all (flat_block (drop i body)) < most
    → control + controls_in_all (flat_block (drop (i + 1) body)) < most
fewer_behind control most body i item here below =
    let both = ap (λ xs. controls_in_all (flat_block xs)) here in
    omega (
      arith,
      both,
      below,
      le-max_right (controls_in (flat_tree item))
          (controls_in_all (flat_block (drop (i + 1) body))),
    )

-- Branches.

module _ (statement : FlatStatement) (label : Label) (condition : Term)
    (accepted otherwise : Vec FlatStatement Global)
    (is : statement ≡ Branch label condition accepted otherwise) where
  tree_of_branch : (ones others : List FlatStatement) → ones ≡ accepted.items → others ≡ otherwise.items
      → flat_tree statement ≡ flat.branch label (term_tree condition) (flat_block ones) (flat_block others)
  tree_of_branch ones others one other =
      ap flat_tree is ∙ (rows.branch_tree label condition accepted otherwise
      ∙ ap₂ (λ (xs ys : List FlatStatement). flat.branch label (term_tree condition) (flat_block xs) (flat_block ys))
      (sym one) (sym other))

  -- a branch takes its own control values, and those of its larger arm
  pub controls_of_branch : (ones others : List FlatStatement) → ones ≡ accepted.items → others ≡ otherwise.items
      → controls_in (flat_tree statement) ≡ own_controls label
      + max (controls_in_all (flat_block ones)) (controls_in_all (flat_block others))
  controls_of_branch ones others one other = ap controls_in (tree_of_branch ones others one other)

  -- so each arm takes fewer
  pub accepted_fewer : (ones : List FlatStatement) → ones ≡ accepted.items
      → own_controls label + controls_in_all (flat_block ones) ≤ controls_in (flat_tree statement)
  accepted_fewer ones one =
      omega (
        arith,
        controls_of_branch ones otherwise.items one refl,
        le-max_left (controls_in_all (flat_block ones)) (controls_in_all (flat_block otherwise.items)),
      )

  pub otherwise_fewer : (others : List FlatStatement) → others ≡ otherwise.items
      → own_controls label + controls_in_all (flat_block others) ≤ controls_in (flat_tree statement)
  otherwise_fewer others other =
      omega (
        arith,
        controls_of_branch accepted.items others refl other,
        le-max_right (controls_in_all (flat_block accepted.items)) (controls_in_all (flat_block others)),
      )

  -- both arms have fewer nodes
  pub arms_smaller : (ones others : List FlatStatement) → ones ≡ accepted.items → others ≡ otherwise.items
      → body_nodes (flat_block ones) + body_nodes (flat_block others) < tree_nodes (flat_tree statement)
  arms_smaller ones others one other = omega (arith, ap tree_nodes (tree_of_branch ones others one other))

  pub code_of_branch : (which : Label) → label ≡ which
      → (within : Option ℕ) (control : ℕ) (ones others : List FlatStatement)
      → ones ≡ accepted.items → others ≡ otherwise.items
      → removed within control (flat.branch which (term_tree condition) (flat_block ones) (flat_block others))
      ≡ removed within control (flat_tree statement)
  code_of_branch which here within control ones others one other =
      ap (λ l. removed within control (flat.branch l (term_tree condition) (flat_block ones) (flat_block others)))
      (sym here)
      ∙ sym (ap (removed within control) (tree_of_branch ones others one other))

-- of a branch on a secret: the condition is taken, and both arms follow
pub code_of_secret : (within : Option ℕ) (control : ℕ) (condition made : TermTree) (ones others : FlatBlock)
    (old taken one_arm : StraightBlock)
    → made ≡ condition
    → taken ≡ chain old (single (take control within made))
    → one_arm ≡ chain taken (removed_all (Some control) (control + 2) ones)
    → chain one_arm (removed_all (Some (control + 1)) (control + 2) others)
    ≡ chain old (removed within control (flat.branch Secret condition ones others))
code_of_secret within control condition made ones others old taken one_arm same t a =
    let first_arm = removed_all (Some control) (control + 2) ones in
    let second_arm = removed_all (Some (control + 1)) (control + 2) others in
    let condition_taken : StraightBlock = single (take_within within control condition) in
    let here : taken ≡ chain old condition_taken =
    t ∙ ap (λ e. chain old (single (take_within within control e))) same in
    ap (λ front. chain front second_arm) (a ∙ ap (λ front. chain front first_arm) here)
    ∙ (chain-assoc (chain old condition_taken) first_arm second_arm
    ∙ chain-assoc old condition_taken (chain first_arm second_arm))

-- Loops.

module _ (statement : FlatStatement) (x : ℕ) (low high : Term) (body : Vec FlatStatement Global)
    (is : statement ≡ Loop x low high body) where
  tree_of_loop : (inner : List FlatStatement) → inner ≡ body.items
      → flat_tree statement ≡ flat.loop x (term_tree low) (term_tree high) (flat_block inner)
  tree_of_loop inner items = ap flat_tree is
      ∙ (rows.loop_tree x low high body
      ∙ ap (λ (xs : List FlatStatement). flat.loop x (term_tree low) (term_tree high) (flat_block xs)) (sym items))

  -- a loop takes the control values of its body
  pub controls_of_loop : (inner : List FlatStatement) → inner ≡ body.items
      → controls_in (flat_tree statement) ≡ controls_in_all (flat_block inner)
  controls_of_loop inner items = ap controls_in (tree_of_loop inner items)

  -- its body has fewer nodes
  pub body_smaller : (inner : List FlatStatement) → inner ≡ body.items
      → body_nodes (flat_block inner) < tree_nodes (flat_tree statement)
  body_smaller inner items = omega (arith, ap tree_nodes (tree_of_loop inner items))

  pub code_of_loop : (within : Option ℕ) (control : ℕ) (iteration : StraightBlock) (one : StraightTree)
      (inner : List FlatStatement)
      → inner ≡ body.items
      → iteration ≡ removed_all within control (flat_block inner)
      → one ≡ repeats x (term_tree low) (term_tree high) iteration
      → single one ≡ removed within control (flat_tree statement)
  code_of_loop within control iteration one inner items t o =
      ap (λ s. single s) (o ∙ ap (repeats x (term_tree low) (term_tree high)) t)
      ∙ sym (ap (removed within control) (tree_of_loop inner items))
