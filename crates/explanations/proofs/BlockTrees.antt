-- The trees of a conditional and of a loop, by the lists of their statements.
use Rattle.std.proofs.Common.{◌≡◌, Vec, Global, ap, ◌∙◌}
use Rattle.language.proofs.BlockLemmas.{conditional_tree, loop_tree}
use Rattle.language.specs.declared.tree.Counter.{Counter}
use Rattle.explanations.specs.Below.{block_tree, conditional, Expr, expr_tree, loop, Place, statement_tree}
use Rattle.language.specs.declared.tree.Statement.{Statement, If, For}

pub conditional_is : {s : Statement} {place : Place} {condition : Expr} (accepted otherwise : Vec Statement Global)
    → s ≡ If place condition accepted otherwise
    → statement_tree s
    ≡ conditional place (expr_tree condition) (block_tree accepted.items) (block_tree otherwise.items)
conditional_is accepted otherwise is = ap statement_tree is ∙ conditional_tree _ _ accepted otherwise

pub loop_is : {s : Statement} {place : Place} {counter : Counter} {low high : Expr} (body : Vec Statement Global)
    → s ≡ For place counter low high body
    → statement_tree s
    ≡ loop place counter.place counter.name (expr_tree low) (expr_tree high) (block_tree body.items)
loop_is {s} {place} {counter} {low} {high} body is = ap statement_tree is ∙ loop_tree place counter low high body
