-- What is answered to arguments, case by case.
use Rattle.std.proofs.Common.{◌≡◌, ℕ, Bool, List, Some, None, Result, Err}
use Rattle.hepurita.specs.Below.{Arg, ArgumentFault, MachineCode, code_at, fault_of, Fields, loaded_at, Observation}
use Rattle.hepurita.specs.Below.{params_of, Ran, Results, State, Stop}
use Rattle.hepurita.specs.declared.fault.RunFault.{RunFault}
use Rattle.hepurita.specs.declared.fault.RunFault.TheVariants.{Argument, Memory}
use Rattle.hepurita.specs.Bases.{code_base, frame_base}
use Rattle.hepurita.specs.Executed.{Executed, refused, out_of_memory, ran, answer_at}

-- out of memory, where there is no fault
pub memory_executed : (image : Fields) (args : List Arg) (keeps : Bool) (list : List Observation)
    (r : Result Results RunFault) → fault_of (params_of image) args ≡ None → r ≡ Err Memory
    → Executed image args keeps list r list
memory_executed image args keeps list r none is = rw is (out_of_memory none)

-- the first fault
pub refused_executed : (image : Fields) (args : List Arg) (keeps : Bool) (list : List Observation)
    (fault : ArgumentFault) (e : RunFault) → e ≡ Argument fault.rule fault.index
    → fault_of (params_of image) args ≡ Some fault → Executed image args keeps list (Err e) list
refused_executed image args keeps list fault e is first = rw is (refused first)

-- a run
pub ran_executed : (image : Fields) (args : List Arg) (keeps : Bool) (list after : List Observation)
    (r : Result Results RunFault) (code : MachineCode) (steps : ℕ) (s t : State) (stop : Stop)
    → fault_of (params_of image) args ≡ None → code ≡ code_at code_base image → steps ≡ image.max_steps
    → s ≡ loaded_at code_base frame_base image args → Ran code keeps steps s list stop t after
    → r ≡ answer_at frame_base image stop t.bytes → Executed image args keeps list r after
ran_executed image args keeps list after r code steps s t stop none code_is steps_is s_is run answer =
    ran none (rw (code_is, steps_is, s_is) at run) answer
