-- What is promised of the body of a compiled image, wherever its words stand, so that it can be the body of a
-- function: among whatever other code it does what the image does, and leaves what is not its own as it was.
use Rattle.std.specs.Prelude.{◌≡◌, ℕ, List}
use Rattle.compilation.specs.Begun.{IsBegun}
use Rattle.compilation.specs.Needs.{Needs}
use Rattle.hepurita.specs.Below.{Agree, AgreeInPublic, AreWithin, Arg, BodyRun, MachineCode, Fields, IsPlaced}
use Rattle.hepurita.specs.Below.{Observation, params_of, ProcedureTree, ProgramTree, Results, results_in, State}
use Rattle.hepurita.specs.Meant.{Means}

-- a run of the body on arguments, which gives what the source means
pub record RunsLinked (program : ProgramTree) (image : Fields) (code : MachineCode) (start frame : ℕ) (args : List Arg)
    (s : State) (list : List Observation) : Type 0 where
  pub run : BodyRun image code start frame s list
  pub outcome : Means program args (results_in frame image run.end.bytes)

-- where the body stands in this code, and its frame lies there, from states in which it begins so
pub record IsLinked (program : ProgramTree) (p : ProcedureTree) (image : Fields) (Begins : List Arg → State → Type 0)
    (code : MachineCode) (start frame : ℕ) :
    Type 0 where
  -- one list for each list of arguments, whatever the rest of the state
  pub shown : List Arg → List Observation
  -- results: from every such state, on all arguments within the parameter types
  pub runs : (args : List Arg) (s : State) → s.pc ≡ start → Begins args s
      → AreWithin (params_of image) args
      → RunsLinked program image code start frame args s (shown args)
  -- equal leakage: on arguments that agree it is one list
  pub equal_leakage : (args args' : List Arg) → Agree (params_of image) args args' → shown args ≡ shown args'
  -- and what is left is one return and one list of `mut` arrays, where these are public
  pub public_results : (args args' : List Arg) (results results' : Results) → Agree (params_of image) args args'
      → Means program args results → Means program args' results'
      → AgreeInPublic (params_of image) p.result results results'

-- from each state whose frame is as the code needs it, whatever else the frame holds
abbrev pub StartsAnywhere : ProgramTree → ProcedureTree → Fields → Needs → Type 0
StartsAnywhere program p image needs =
    (code : MachineCode) (start frame : ℕ) → IsPlaced image code start frame
    → IsLinked program p image (IsBegun image needs frame) code start frame
