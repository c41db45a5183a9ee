-- The statements of an arm of a flat body, as a row and as a list, are one block.
use Rattle.std.proofs.Common.{◌≡◌, ℕ, Vec, Global, refl, ap, ap₂, ◌∙◌}
use mathlib.Core.Former.{Count}
use Rattle.inline.specs.declared.flat.FlatStatement.{FlatStatement, Branch, Branch', Loop, Loop'}
use Rattle.inline.specs.declared.flat.FlatStatement.{Row_of-FlatStatement, end_of-FlatStatement}
use Rattle.inline.specs.declared.flat.FlatStatement.{more_of-FlatStatement, items-the_row-FlatStatement}
use Rattle.inline.specs.declared.flat.FlatStatement.{items_hidden-the_row-FlatStatement-0}
use Rattle.inline.specs.declared.flat.Term.{Term}
use Rattle.inline.specs.Flat.{term_tree, flat_tree, flat_block, branch, loop}
use Rattle.inline.specs.Flat as flat
use Rattle.inline.specs.Below.{Label}

flat_rows : (n : _) (row : Row_of-FlatStatement n)
    → flat.row_tree row ≡ flat_block (items-the_row-FlatStatement n row)
flat_rows n end_of-FlatStatement = refl
flat_rows n (more_of-FlatStatement s rest) = ap (flat.first (flat_tree s)) (flat_rows _ rest)

abbrev flat_arms : FlatStatement → ((n : Count) × Row_of-FlatStatement n) × ((n : Count) × Row_of-FlatStatement n)
flat_arms (Branch' label condition shape accepted shape' otherwise) = ((_, accepted), (_, otherwise))
flat_arms (Loop' x low high shape body) = ((_, body), (_, end_of-FlatStatement))
flat_arms _ = ((_, end_of-FlatStatement), (_, end_of-FlatStatement))

pub branch_tree : (label : Label) (condition : Term) (accepted otherwise : Vec FlatStatement Global) →
    flat_tree (Branch label condition accepted otherwise) ≡ branch label (term_tree condition)
    (flat_block accepted.items) (flat_block otherwise.items)
branch_tree label condition accepted otherwise =
    let both = flat_arms (Branch label condition accepted otherwise) in
    ap₂ (branch label (term_tree condition))
    (flat_rows both.0.0 both.0.1 ∙ ap flat_block (items_hidden-the_row-FlatStatement-0 accepted))
    (flat_rows both.1.0 both.1.1 ∙ ap flat_block (items_hidden-the_row-FlatStatement-0 otherwise))

pub loop_tree : (x : ℕ) (low high : Term) (body : Vec FlatStatement Global)
    → flat_tree (Loop x low high body) ≡ loop x (term_tree low) (term_tree high) (flat_block body.items)
loop_tree x low high body =
    let both = flat_arms (Loop x low high body) in
    ap (loop x (term_tree low) (term_tree high)) (flat_rows both.0.0 both.0.1
    ∙ ap flat_block (items_hidden-the_row-FlatStatement-0 body))
