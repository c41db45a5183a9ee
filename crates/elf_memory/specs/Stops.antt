-- How the run of a function has stopped.
use Rattle.std.specs.Prelude.{ℕ, ◌==◌, List, codes, if◌then◌else◌}
use Rattle.elf_memory.specs.Below.{AccessFault, machine_stop_name, Stop}
use Rattle.elf_memory.specs.Arguments.{return_address}
use Rattle.elf_memory.specs.declared.stops.FunctionStop.{FunctionStop}
use Rattle.elf_memory.specs.declared.stops.FunctionStop.TheVariants.{Returned, Stopped}

-- how the run of a function has stopped at an address: it came back to its caller where that is the address in ra, at
-- which no code stands
abbrev pub function_stop : Stop → ℕ → FunctionStop
function_stop AccessFault address = if address == return_address then Returned else Stopped AccessFault
function_stop stop address = Stopped stop

-- how it is printed
abbrev pub stop_name : FunctionStop → List ℕ
stop_name Returned = codes "Return"
stop_name (Stopped stop) = machine_stop_name stop
