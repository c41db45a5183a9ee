-- What is promised of an image's code wherever its words stand, but for the last, ECALL: among whatever other code,
-- over whatever other data, and whatever the other registers hold. It runs to behind its words, writes its frame
-- alone, and leaves the outcome in its slots. So it can be the body of a function.
use Rattle.std.specs.Prelude.{◌≡◌, ◌⊎◌, ℕ, ◌+◌, ◌*◌, ◌%◌, ◌^◌, ◌<◌, ◌≤◌, true, List, [], ◌∷◌, length, All, Some}
use Rattle.std.specs.Prelude.{is_some}
use Rattle.codegen.specs.Below.{AreFine, AreWithin, Arg, MachineCode, Leads, Observation, outcome_of, Path, path_of}
use Rattle.codegen.specs.Below.{seen, State, StraightProgram, word_at}
use Rattle.codegen.specs.Bases.{IsInside}
use Rattle.codegen.specs.Loaded.{loaded_at, results_in}
use Rattle.expression_code.specs.image_fields.Fields.{Fields}
use Rattle.expression_code.specs.program_logic.MachineSteps.{LeadsWithin}

-- the words of code but the last
abbrev pub body_words : List ℕ → List ℕ
body_words [] = []
body_words (word ∷ []) = []
body_words (word ∷ next ∷ words) = word ∷ body_words (next ∷ words)

-- these words stand in code from an address on
abbrev pub Stand : MachineCode → ℕ → List ℕ → Type 0
Stand code p [] = Unit {0}
Stand code p (word ∷ words) = (p % 4 ≡ 0) × (p + 4 < 2 ^ 32) × (word_at code p ≡ Some word) × Stand code (p + 4) words

-- where an image's body stands, and where its frame lies
pub record IsPlaced (image : Fields) (code : MachineCode) (start frame : ℕ) : Type 0 where
  pub observed : code.profile ≡ image.profile
  pub words : Stand code start (body_words image.words)
  pub frame_aligned : frame % 4 ≡ 0
  pub frame_ends : frame + image.frame_bytes < 2 ^ 32

-- the frame's base in x2, and in the frame what a loaded image has there: the arguments in their slots, zeros
-- elsewhere
pub record IsLoaded (image : Fields) (frame : ℕ) (args : List Arg) (s : State) : Type 0 where
  pub base : s.regs 2 ≡ frame
  pub frame_there : (o : ℕ) → o < image.frame_bytes
      → s.bytes (frame + o) ≡ (loaded_at 0 frame image args).bytes (frame + o)

-- ra, gp and tp, which no code of a body touches
abbrev pub IsUntouched : ℕ → Type 0
IsUntouched r = (r ≡ 1) ⊎ (r ≡ 3) ⊎ (r ≡ 4)

-- an address before the frame or behind it
abbrev pub IsBeside : Fields → ℕ → ℕ → Type 0
IsBeside image frame a = (a < frame) ⊎ (frame + image.frame_bytes ≤ a)

-- a run of the body from this state to behind its words, which shows this list
pub record BodyRun (image : Fields) (code : MachineCode) (start frame : ℕ) (s : State) (list : List Observation) :
    Type 0 where
  pub step_count : ℕ
  pub end : State
  pub leads : Leads code step_count s list end
  -- and x2 is the frame's base wherever a step begins
  pub at_base : LeadsWithin code (λ sp event. sp ≡ frame) step_count s list end
  -- ECALL would be one step more
  pub within_steps : step_count < image.max_steps
  pub within_frame : All (λ (o : Observation). IsInside frame image.frame_bytes o.event) list
  pub behind : end.pc ≡ start + 4 * length (body_words image.words)
  pub base : end.regs 2 ≡ frame
  pub untouched : (r : ℕ) → IsUntouched r → end.regs r ≡ s.regs r
  pub beside : (a : ℕ) → IsBeside image frame a → end.bytes a ≡ s.bytes a
  pub frame_there : (o : ℕ) → o < image.frame_bytes → is_some (end.bytes (frame + o)) ≡ true

-- the same on some arguments, whose outcome it leaves
pub record RunsBehind (p : StraightProgram) (image : Fields) (code : MachineCode) (start frame : ℕ) (args : List Arg)
    (s : State) (list : List Observation) : Type 0 where
  pub run : BodyRun image code start frame s list
  pub outcome : results_in frame image run.end.bytes ≡ outcome_of p args

-- one list for what is seen of each path, whatever the arguments and the rest of the state
pub record IsFollowedIn (p : StraightProgram) (image : Fields) (code : MachineCode) (start frame : ℕ) : Type 0 where
  pub shown : Path → List Observation
  pub runs : (args : List Arg) (s : State) → s.pc ≡ start → IsLoaded image frame args s → AreWithin p.parameters args
      → AreFine p.iterations (path_of p args)
      → RunsBehind p image code start frame args s (shown (seen p.profile (path_of p args)))
