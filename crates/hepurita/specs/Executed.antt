-- What a run of an image gives.
use Rattle.std.specs.Prelude.{◌≡◌, ◌⊎◌, ℕ, Bool, List, Option, Some, None, Result, Ok, Err}
use Rattle.hepurita.specs.Below.{AccessFault, Arg, ArgumentFault, Break, Budget, ByteMap, code_at, count_after, Ecall}
use Rattle.hepurita.specs.Below.{fault_of, Fields, Illegal, loaded_at, Misaligned, Observation, params_of, Ran}
use Rattle.hepurita.specs.Below.{RecorderRefused, Results, results_in, State, Stop}
use Rattle.hepurita.specs.declared.fault.RunFault.{RunFault}
use Rattle.hepurita.specs.declared.fault.RunFault.TheVariants.{Argument, Memory, Stopped}
use Rattle.hepurita.specs.Bases.{code_base, frame_base}

-- what is answered where the machine stops so
abbrev pub answer_at : ℕ → Fields → Stop → ByteMap → Result Results RunFault
answer_at frame image Ecall bytes = Ok (results_in frame image bytes)
answer_at frame image Break bytes = Err (Stopped Break)
answer_at frame image Illegal bytes = Err (Stopped Illegal)
answer_at frame image AccessFault bytes = Err (Stopped AccessFault)
answer_at frame image Misaligned bytes = Err (Stopped Misaligned)
answer_at frame image Budget bytes = Err (Stopped Budget)
answer_at frame image RecorderRefused bytes = Err (Stopped RecorderRefused)

-- memory was refused, to the call or to its recorder
abbrev pub WantsMemory : Result Results RunFault → Type 0
WantsMemory answer = (answer ≡ Err Memory) ⊎ (answer ≡ Err (Stopped RecorderRefused))

-- the stop that an answer names
abbrev pub stop_named : Result Results RunFault → Option Stop
stop_named (Ok results) = None
stop_named (Err (Argument rule index)) = None
stop_named (Err Memory) = None
stop_named (Err (Stopped stop)) = Some stop

-- the count of a recorder's refusals after this answer: one more where that is what stopped the run
abbrev pub refusals_after : Result Results RunFault → ℕ → ℕ
refusals_after answer count = count_after (stop_named answer) count

-- what is answered, and the recorder's list after it: arguments are refused by their first fault; else memory may be
-- wanting, or the image runs as loaded
pub data Executed (image : Fields) (args : List Arg) (keeps : Bool) (list : List Observation) : Result Results
    RunFault → List Observation → Type 0 where
  refused : {fault : ArgumentFault} → fault_of (params_of image) args ≡ Some fault
      → Executed image args keeps list (Err (Argument fault.rule fault.index)) list
  out_of_memory : fault_of (params_of image) args ≡ None → Executed image args keeps list (Err Memory) list
  ran : {stop : Stop} {end : State} {after : List Observation} {answer : Result Results RunFault}
      → fault_of (params_of image) args ≡ None
      → Ran (code_at code_base image) keeps image.max_steps (loaded_at code_base frame_base image args) list stop end
      after → answer ≡ answer_at frame_base image stop end.bytes → Executed image args keeps list answer after
