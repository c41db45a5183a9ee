-- Statements from the last one to the first, as the code goes over them.
use Rattle.std.proofs.Common.{◌≡◌, ◌++◌, List, [], ◌∷◌, refl}
use Rattle.branch_removal.specs.declared.straight.StraightStatement.{StraightStatement}
use Rattle.straight_words.specs.Below.{first, straight_block, straight_tree, StraightBlock}
use Rattle.straight_words.specs.live_words.private.Sharing.{onto}

pub onto-push : (xs : List StraightStatement) (x : StraightStatement) (rest : StraightBlock)
    → onto (straight_block (xs ++ x ∷ [])) rest ≡ first (straight_tree x) (onto (straight_block xs) rest)
onto-push [] x rest = refl
onto-push (y ∷ xs) x rest = onto-push xs x (first (straight_tree y) rest)
