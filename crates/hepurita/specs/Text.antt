-- How faults of a run are printed.
use Rattle.std.specs.Prelude.{ℕ, List, None, codes}
use Rattle.language.specs.arguments.Text.{fault_text}
use Rattle.rv_machine.specs.Stops.{stop_name}
use Rattle.hepurita.specs.declared.fault.RunFault.{RunFault}
use Rattle.hepurita.specs.declared.fault.RunFault.TheVariants.{Argument, Memory, Stopped}
use Rattle.hepurita.specs.Below.{OutOfMemory, refusal_text}

abbrev pub run_fault_text : RunFault → List ℕ
run_fault_text (Argument rule index) = fault_text (record { rule = rule; index = index })
run_fault_text Memory = refusal_text OutOfMemory None
run_fault_text (Stopped stop) = stop_name stop
