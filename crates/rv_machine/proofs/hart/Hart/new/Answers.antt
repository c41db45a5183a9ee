-- The array that was made holds x2 at its place, and 0 elsewhere.
use Rattle.std.proofs.Math.Path.{fun_ext}
use Rattle.rv_machine.proofs.Fresh.{fresh_at}
use Rattle.rv_machine.proofs.hart.Hart.new.Goals as goal

pub returns-clause-registers : goal.returns-clause-registers
returns-clause-registers c = fun_ext (fresh_at c.args.x2)
