-- How a block grows, statement by statement.
use Rattle.std.proofs.Common.{◌≡◌, List, [], ◌∷◌, ◌++◌, refl, ap, sym}
use Rattle.std.proofs.Math.Path.{fun_ext}
use Rattle.syntax.specs.declared.parser.Parser.{Parser}
use Rattle.language.specs.declared.tree.Statement.{Statement}
use Rattle.syntax.specs.private.Machine.{ParserState, statements}
use Rattle.syntax.specs.private.ParserViews.{ahead}
use Rattle.syntax.specs.Below.{block_tree, BlockTree, first, nothing, statement_tree}

-- some statements, and then a block
abbrev pub followed_by : List Statement → BlockTree → BlockTree
followed_by [] b = b
followed_by (s ∷ ss) b = first (statement_tree s) (followed_by ss b)

followed-push : (ss : List Statement) (s : Statement) (b : BlockTree)
    → followed_by (ss ++ s ∷ []) b ≡ followed_by ss (first (statement_tree s) b)
followed-push [] s b = refl
followed-push (x ∷ ss) s b = ap (first (statement_tree x)) (followed-push ss s b)

pub followed-nothing : (ss : List Statement) → followed_by ss nothing ≡ block_tree ss
followed-nothing [] = refl
followed-nothing (x ∷ ss) = ap (first (statement_tree x)) (followed-nothing ss)

-- the machine after one statement more
pub ahead-push : (k : BlockTree → ParserState) (ss : List Statement) (s : Statement) (p : Parser)
    → ahead (statements (λ b. k (followed_by ss (first (statement_tree s) b)))) p
    ≡ ahead (statements (λ b. k (followed_by (ss ++ s ∷ []) b))) p
ahead-push k ss s p = ap (λ (f : BlockTree → BlockTree). ahead (statements (λ b. k (f b))) p)
    (fun_ext (λ b. sym (followed-push ss s b)))
