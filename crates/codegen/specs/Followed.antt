-- What is promised of the image for straight code: the machine, running it, follows the code. The outcome is that of
-- the code, and what is shown is decided by what the observer sees of the path.
use Rattle.std.specs.Prelude.{◌≡◌, ℕ, ◌+◌, ◌*◌, ◌≤◌, List, length, All}
use Rattle.std.specs.Option.{option_map}
use Rattle.codegen.specs.Below.{AreFine, AreWithin, Arg, MachineCode, Halts, Observation, outcome_of, Path, path_of}
use Rattle.codegen.specs.Below.{seen, State, StraightProgram}
use Rattle.codegen.specs.Anywhere.{IsPlaced, IsFollowedIn}
use Rattle.codegen.specs.Bases.{AreBases, IsInside}
use Rattle.codegen.specs.Loaded.{params_of, code_at, loaded_at, results_in}
use Rattle.expression_code.specs.image_fields.Fields.{Fields, type_in}
use Rattle.expression_code.specs.image_fields.Limits.{most_frame_bytes}
use Rattle.rv_machine.specs.declared.stops.Stop.TheVariants.{Ecall}

-- a run on some arguments, which shows this list
pub record RunsAs (p : StraightProgram) (image : Fields) (code frame : ℕ) (args : List Arg)
    (list : List Observation) : Type 0 where
  pub step_count : ℕ
  pub end : State
  pub halts : Halts (code_at code image) step_count (loaded_at code frame image args) list Ecall end
  pub within_steps : step_count ≤ image.max_steps
  pub within_frame : All (λ (o : Observation). IsInside frame image.frame_bytes o.event) list
  pub outcome : results_in frame image end.bytes ≡ outcome_of p args

-- one list for what is seen of each path, whatever the arguments; no fault is met on the path, and no more iterations
-- are made than are counted
pub record IsFollowed (p : StraightProgram) (image : Fields) (code frame : ℕ) : Type 0 where
  pub shown : Path → List Observation
  pub runs : (args : List Arg) → AreWithin p.parameters args → AreFine p.iterations (path_of p args)
      → RunsAs p image code frame args (shown (seen p.profile (path_of p args)))

-- the image is the code's
pub record IsGenerated (p : StraightProgram) (image : Fields) : Type 0 where
  pub profile : image.profile ≡ p.profile
  pub parameters : params_of image ≡ p.parameters
  pub returned : option_map type_in image.returned ≡ p.returned
  pub max_steps : image.max_steps ≡ 32 * p.work + 64
  pub frame_size : image.frame_bytes ≤ most_frame_bytes
  pub word_count : length image.words ≤ 32 * p.nodes + 64
  pub follows : (code frame : ℕ) → AreBases image code frame → IsFollowed p image code frame
  -- and the body, wherever it stands
  pub anywhere : (code : MachineCode) (start frame : ℕ) → IsPlaced image code start frame
      → IsFollowedIn p image code start frame
