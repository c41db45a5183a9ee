-- Whether a conditional or a loop may assign to something public, by the lists of its statements.
use Rattle.std.proofs.Common.{◌≡◌, Bool, true, false, ◌||◌, List, Vec, Global, sym, ap, ap₂, ◌∙◌}
use Rattle.word.specs.declared.place.Place.{Place}
use Rattle.language.proofs.BlockLemmas.{conditional_tree, loop_tree}
use Rattle.language.specs.declared.tree.Counter.{Counter}
use Rattle.language.specs.declared.tree.Expr.{Expr}
use Rattle.language.specs.declared.tree.Statement.{Statement, If, For}
use Rattle.language.specs.Tree.{statement_tree, block_tree}
use Rattle.language.specs.Types.{Scope}
use Rattle.language.specs.Typing.{block_assigns, statement_assigns}

-- whether a conditional or a loop may assign to something public, by the lists of its statements
pub conditional_assigns : (scope : Scope) (statement : Statement) (place : Place) (condition : Expr)
    (accepted otherwise : Vec Statement Global) (ones others : List Statement)
    → statement ≡ If place condition accepted otherwise → ones ≡ accepted.items → others ≡ otherwise.items →
    (block_assigns scope (block_tree ones) || block_assigns scope (block_tree others))
    ≡ statement_assigns scope (statement_tree statement)
conditional_assigns scope statement place condition accepted otherwise ones others is first_arm second_arm =
    ap₂ (λ a b. block_assigns scope (block_tree a) || block_assigns scope (block_tree b)) first_arm second_arm
    ∙ sym (ap (statement_assigns scope) (ap statement_tree is ∙ conditional_tree place condition accepted otherwise))

pub loop_assigns : (scope : Scope) (statement : Statement) (place : Place) (counter : Counter) (low high : Expr)
    (body : Vec Statement Global) (ones : List Statement) → statement ≡ For place counter low high body
    → ones ≡ body.items →
    block_assigns scope (block_tree ones) ≡ statement_assigns scope (statement_tree statement)
loop_assigns scope statement place counter low high body ones is items =
    ap (λ a. block_assigns scope (block_tree a)) items
    ∙ sym (ap (statement_assigns scope) (ap statement_tree is ∙ loop_tree place counter low high body))

pub first_does : (result one other : Bool) → result ≡ one → result ≡ true → result ≡ (one || other)
first_does result true other same does = same
first_does result false other same does = cc

pub second_does : (result none one other : Bool) → none ≡ one → none ≡ false → result ≡ other
    → result ≡ (one || other)
second_does result none true other fails does_not same = cc
second_does result none false other fails does_not same = same
