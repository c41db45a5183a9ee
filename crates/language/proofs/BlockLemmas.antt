-- The rows of conditionals and loops, seen as lists of statements.
use Rattle.std.proofs.Common.{◌≡◌, Vec, Global, refl, ap, ap₂, ◌∙◌}
use mathlib.Core.Former.{Count}
use Rattle.word.specs.declared.place.Place.{Place}
use Rattle.language.specs.declared.tree.Counter.{Counter}
use Rattle.language.specs.declared.tree.Expr.{Expr}
use Rattle.language.specs.declared.tree.Statement.{Statement, If, If', For, For', Row_of-Statement, end_of-Statement}
use Rattle.language.specs.declared.tree.Statement.{more_of-Statement, items-the_row-Statement}
use Rattle.language.specs.declared.tree.Statement.{items_hidden-the_row-Statement-0}
use Rattle.language.specs.Blocks.{RowsAreBlocks}
use Rattle.language.specs.Tree.{conditional, loop, first, expr_tree, statement_tree, row_tree, block_tree}

rows : (n : _) (row : Row_of-Statement n) → row_tree row ≡ block_tree (items-the_row-Statement n row)
rows n end_of-Statement = refl
rows n (more_of-Statement s rest) = ap (first (statement_tree s)) (rows _ rest)

abbrev arms : Statement → ((n : Count) × Row_of-Statement n) × ((n : Count) × Row_of-Statement n)
arms (If' place condition shape accepted shape' otherwise) = ((_, accepted), (_, otherwise))
arms (For' place counter low high shape body) = ((_, body), (_, end_of-Statement))
arms _ = ((_, end_of-Statement), (_, end_of-Statement))

-- the trees of conditionals and loops, by the lists of what they run
pub conditional_tree : (place : Place) (condition : Expr) (accepted otherwise : Vec Statement Global) →
    statement_tree (If place condition accepted otherwise)
    ≡ conditional place (expr_tree condition) (block_tree accepted.items) (block_tree otherwise.items)
conditional_tree place condition accepted otherwise =
    let both = arms (If place condition accepted otherwise) in
    ap₂ (conditional place (expr_tree condition))
    (rows both.0.0 both.0.1 ∙ ap block_tree (items_hidden-the_row-Statement-0 accepted))
    (rows both.1.0 both.1.1 ∙ ap block_tree (items_hidden-the_row-Statement-0 otherwise))

pub loop_tree : (place : Place) (counter : Counter) (low high : Expr) (body : Vec Statement Global) →
    statement_tree (For place counter low high body)
    ≡ loop place counter.place counter.name (expr_tree low) (expr_tree high) (block_tree body.items)
loop_tree place counter low high body =
    let both = arms (For place counter low high body) in
    ap (loop place counter.place counter.name (expr_tree low) (expr_tree high))
    (rows both.0.0 both.0.1 ∙ ap block_tree (items_hidden-the_row-Statement-0 body))

pub row_trees : RowsAreBlocks
row_trees = record { arms = conditional_tree; bodies = loop_tree }
