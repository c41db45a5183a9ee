-- What a conditional or a loop runs lies in memory as a row, and its statements are a list.
use Rattle.std.specs.Prelude.{◌≡◌}
use Rattle.std.specs.Global.{Vec}
use Rattle.word.specs.declared.place.Place.{Place}
use Rattle.language.specs.declared.tree.Counter.{Counter}
use Rattle.language.specs.declared.tree.Expr.{Expr}
use Rattle.language.specs.declared.tree.Statement.{Statement, If, For}
use Rattle.language.specs.Tree.{expr_tree, statement_tree, block_tree, conditional, loop}

-- the tree of a conditional, by the lists of its arms, and the tree of a loop, by the list of its body
pub record RowsAreBlocks : Type 0 where
  pub arms : (place : Place) (condition : Expr) (accepted otherwise : Vec Statement)
      → statement_tree (If place condition accepted otherwise)
      ≡ conditional place (expr_tree condition) (block_tree accepted.items) (block_tree otherwise.items)
  pub bodies : (place : Place) (counter : Counter) (low high : Expr) (body : Vec Statement)
      → statement_tree (For place counter low high body)
      ≡ loop place counter.place counter.name (expr_tree low) (expr_tree high) (block_tree body.items)
