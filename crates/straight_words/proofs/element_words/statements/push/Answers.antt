use Rattle.std.proofs.Common.{refl}
use Rattle.branch_removal.proofs.StatementTrees.{pushed}
use Rattle.straight_words.proofs.element_words.statements.push.Goals as goal

pub returns : goal.returns
returns c = pushed c.args.code.now.items c.push.new.self.items c.args.statement _ c.in_ok-push.ensures.items refl
