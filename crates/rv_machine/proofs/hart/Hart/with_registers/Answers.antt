-- The array that was made holds 0 at x0's place, and elsewhere what was given.
use Rattle.std.proofs.Math.Path.{fun_ext}
use Rattle.rv_machine.proofs.Fresh.{zeroed_at}
use Rattle.rv_machine.proofs.hart.Hart.with_registers.Goals as goal

pub returns-clause-registers : goal.returns-clause-registers
returns-clause-registers c = fun_ext (zeroed_at c.args.registers)
