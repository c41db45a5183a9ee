use Rattle.std.proofs.Common.{rules}
use Rattle.source_eval.proofs.LoopLemmas.{first_values}
use Rattle.source_eval.proofs.statements.array_of.Goals as goal

pub returns-clause-ok : goal.returns-clause-ok
returns-clause-ok c = first_values c.args.kind c.args.length c.args.words.now _ (search rules) (search rules)
