-- What it is for an image to be a compiled procedure: its outcome is the source's, and it shows only what is public.
use Rattle.std.specs.Prelude.{◌≡◌, ℕ, ◌+◌, ◌*◌, ◌≤◌, List, length, map, All}
use Rattle.std.specs.Option.{option_map}
use Rattle.hepurita.specs.Below.{Agree, AgreeInPublic, AreBases, AreWithin, Arg, MachineCode, code_at, Ecall}
use Rattle.hepurita.specs.Below.{extents_of, Fields, Halts, IsInside, IsLoaded, IsPlaced, loaded_at}
use Rattle.hepurita.specs.Below.{most_frame_bytes, nodes_of, Observation, param_of, params_of, ProcedureTree}
use Rattle.hepurita.specs.Below.{ProgramTree, results_in, State}
use Rattle.hepurita.specs.source_work.SourceWork.{source_work}
use Rattle.hepurita.specs.Below.{type_in}
use Rattle.hepurita.specs.Linked.{IsLinked}
pub use Rattle.hepurita.specs.Meant.{Means}

-- the image's run on arguments, at these bases: from where it is loaded to the ECALL that stops it
pub record WholeRun (image : Fields) (code frame : ℕ) (args : List Arg) : Type 0 where
  pub step_count : ℕ
  pub seen : List Observation
  pub end : State
  pub halts : Halts (code_at code image) step_count (loaded_at code frame image args) seen Ecall end

-- a run that gives what the source means, within the stated steps and the frame
pub record RunsTo (program : ProgramTree) (image : Fields) (code frame : ℕ) (args : List Arg) : Type 0 where
  pub run : WholeRun image code frame args
  pub within_steps : run.step_count ≤ image.max_steps
  pub within_frame : All (λ (o : Observation). IsInside frame image.frame_bytes o.event) run.seen
  pub outcome : Means program args (results_in frame image run.end.bytes)

-- two runs of the image, at the same bases, on two lists of arguments that agree
pub record TwoRuns (image : Fields) : Type 0 where
  pub code : ℕ
  pub frame : ℕ
  pub bases : AreBases image code frame
  pub args : List Arg
  pub args' : List Arg
  pub agree : Agree (params_of image) args args'
  pub one : WholeRun image code frame args
  pub other : WholeRun image code frame args'

-- the image is the program's exported procedure, with the bodies of those before it where it calls them
pub record IsCompiled (program : ProgramTree) (before : List ProcedureTree) (p : ProcedureTree) (image : Fields) :
    Type 0 where
  pub params : params_of image ≡ map param_of p.parameters
  pub result : option_map type_in image.returned ≡ p.result
  pub max_steps : image.max_steps ≡ 32 * source_work before p + 64
  pub frame_size : image.frame_bytes ≤ most_frame_bytes
  pub word_count : length image.words ≤ 32 * nodes_of (extents_of before) p + 64
  -- results: on all arguments within the parameter types
  pub results : (code frame : ℕ) (args : List Arg) → AreBases image code frame → AreWithin (params_of image) args
      → RunsTo program image code frame args
  -- equal leakage: two runs on arguments that agree show one and the same list of observations
  pub equal_leakage : (runs : TwoRuns image) → runs.one.seen ≡ runs.other.seen
  -- and leave one and the same return and `mut` arrays, where these are public
  pub public_results : (runs : TwoRuns image)
      → AgreeInPublic (params_of image) p.result (results_in runs.frame image runs.one.end.bytes)
      (results_in runs.frame image runs.other.end.bytes)
  -- and its body does the same wherever its words stand
  pub linked : (code : MachineCode) (start frame : ℕ) → IsPlaced image code start frame
      → IsLinked program p image (IsLoaded image frame) code start frame
