use Rattle.branch_removal.proofs.StatementTrees.{branch_tree}
use Rattle.branch_removal.proofs.nesting.branch_of.Goals as goal

pub returns : goal.returns
returns c = branch_tree c.args.condition c.args.accepted c.args.otherwise
