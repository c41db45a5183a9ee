-- The exit status of a run.
use Rattle.std.specs.Prelude.{ℕ}
use Rattle.commands.specs.Below.{AccessFault, Break, Budget, Ecall, FunctionStop, Illegal, Misaligned, RecorderRefused}
use Rattle.commands.specs.Below.{Stop}
use Rattle.elf_memory.specs.declared.stops.FunctionStop.TheVariants.{Returned, Stopped}

-- 0 where it stops by ECALL, else 5
abbrev pub status_of : Stop → ℕ
status_of Ecall = 0
status_of Break = 5
status_of Illegal = 5
status_of AccessFault = 5
status_of Misaligned = 5
status_of Budget = 5
status_of RecorderRefused = 5

-- of a function: 0 where it returns, else 5
abbrev pub function_stop_status : FunctionStop → ℕ
function_stop_status Returned = 0
function_stop_status (Stopped stop) = 5
