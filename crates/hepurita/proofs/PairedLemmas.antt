-- What is answered to two lists of arguments, case by case.
use Rattle.std.proofs.Common.{◌≡◌, ℕ, List, Some, None, Result, Err}
use Rattle.hepurita.specs.Below.{Arg, ArgumentFault, MachineCode, code_at, Fields, IsShown, loaded_at, Observation}
use Rattle.hepurita.specs.Below.{Pairing, params_of, State}
use Rattle.hepurita.specs.declared.fault.RunFault.{RunFault}
use Rattle.hepurita.specs.declared.fault.RunFault.TheVariants.{Argument, Memory}
use Rattle.hepurita.specs.Bases.{code_base, frame_base}
use Rattle.hepurita.specs.Paired.{Observed, Paired, pair_fault, refused, out_of_memory}

pub memory_paired : (image : Fields) (one other : List Arg) (r : Result Pairing RunFault)
    → pair_fault (params_of image) one other ≡ None → r ≡ Err Memory → Paired image one other r
memory_paired image one other r none is = rw is (out_of_memory none)

pub refused_paired : (image : Fields) (one other : List Arg) (fault : ArgumentFault) (e : RunFault)
    → e ≡ Argument fault.rule fault.index → pair_fault (params_of image) one other ≡ Some fault
    → Paired image one other (Err e)
refused_paired image one other fault e is first = rw is (refused first)

-- what a run shows as it was loaded
pub observed_from : (image : Fields) (args : List Arg) (code : MachineCode) (steps : ℕ) (s : State)
    (seen : List Observation)
    → code ≡ code_at code_base image → steps ≡ image.max_steps → s ≡ loaded_at code_base frame_base image args
    → IsShown code steps s seen → Observed image args seen
observed_from image args code steps s seen code_is steps_is s_is shown =
    let there = rw (code_is, steps_is, s_is) at shown in
    (there.0, (there.1, (there.2, there.3)))
