use Rattle.std.proofs.Common.{arith}
use Rattle.intervals.proofs.CostLemmas.{first_taken, left_behind}
use Rattle.intervals.proofs.costs.split.Goals as goal

pub returns-clause-own : goal.returns-clause-own
returns-clause-own c =
    first_taken c.min-length.result c.args.count c.args.body.now (omega (arith, c.min-length.ensures))

pub returns-clause-rest : goal.returns-clause-rest
returns-clause-rest c =
    left_behind c.min-length.result c.args.count c.args.body.now (omega (arith, c.min-length.ensures))
