use Rattle.branch_removal.proofs.StatementTrees.{loop_tree}
use Rattle.branch_removal.proofs.nesting.loop_of.Goals as goal

pub returns : goal.returns
returns c = loop_tree c.args.counter c.args.low c.args.high c.args.body
