-- The names of stops.
use Rattle.std.specs.Prelude.{ℕ, List, codes}
use Rattle.rv_machine.specs.declared.stops.Stop.{Stop}
use Rattle.rv_machine.specs.declared.stops.Stop.TheVariants.{Ecall, Break, Illegal, AccessFault, Misaligned, Budget}
use Rattle.rv_machine.specs.declared.stops.Stop.TheVariants.{RecorderRefused}

abbrev pub stop_name : Stop → List ℕ
stop_name Ecall = codes "Ecall"
stop_name Break = codes "Break"
stop_name Illegal = codes "Illegal"
stop_name AccessFault = codes "AccessFault"
stop_name Misaligned = codes "Misaligned"
stop_name Budget = codes "Budget"
stop_name RecorderRefused = codes "RecorderRefused"
