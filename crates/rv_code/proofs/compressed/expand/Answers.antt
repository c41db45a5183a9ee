use Rattle.std.proofs.Common.{arith}
use Rattle.rv_code.proofs.HalfwordLaws.{only}
use Rattle.rv_code.proofs.HalfwordRange.{found}
use Rattle.rv_code.proofs.compressed.expand.Goals as goal

pub returns-clause-found : goal.returns-clause-found
returns-clause-found c = rw (c.expansion.ensures, c.from.ensures) (found c.args.halfword (omega arith))

pub returns-clause-only : goal.returns-clause-only
returns-clause-only c = λ i means. rw (c.expansion.ensures, c.from.ensures) (only c.args.halfword i means)
