-- Where a body begins in a frame that holds whatever it held before, but for what the code needs: words that are
-- zeros, and the arguments in their slots, of which some may hold anything.
use Rattle.std.specs.Prelude.{◌≡◌, ℕ, ◌+◌, ◌^◌, ◌<◌, List, Some}
use Rattle.compilation.specs.Below.{AreFine, AreWithin, Arg, ByteMap, Fields, IsPlaced, MachineCode, Observation, Path}
use Rattle.compilation.specs.Below.{AgreeBut, params_of, path_of, RunsBehind, seen, State, StraightProgram}
use Rattle.compilation.specs.Below.{with_arguments}
use Rattle.compilation.specs.Blank.{IsBlank}
use Rattle.compilation.specs.Needs.{Needs}

-- the frame's base in x2; the frame was bytes, of which those that have to be are zeros, and into the slots were put
-- the arguments, or others of their types where they are spared
pub record IsBegun (image : Fields) (needs : Needs) (frame : ℕ) (args : List Arg) (s : State) : Type 0 where
  pub base : s.regs 2 ≡ frame
  pub before : ByteMap
  pub are_bytes : (o : ℕ) → o < image.frame_bytes → (byte : ℕ) × (before (frame + o) ≡ Some byte) × (byte < 2 ^ 8)
  pub blank_before : IsBlank needs.blank image.frame_bytes frame before
  pub put : List Arg
  pub put_within : AreWithin (params_of image) put
  pub put_agree : AgreeBut needs.spared args put
  pub frame_there : (o : ℕ) → o < image.frame_bytes
      → s.bytes (frame + o) ≡ with_arguments frame before image.slots put (frame + o)

-- the machine follows straight code from each such state: one list for what is seen of each path
pub record IsFollowedFrom (p : StraightProgram) (image : Fields) (needs : Needs) (code : MachineCode)
    (start frame : ℕ) : Type 0 where
  pub shown : Path → List Observation
  pub runs : (args : List Arg) (s : State) → s.pc ≡ start → IsBegun image needs frame args s
      → AreWithin p.parameters args → AreFine p.iterations (path_of p args)
      → RunsBehind p image code start frame args s (shown (seen p.profile (path_of p args)))

-- wherever the body's words stand
abbrev pub FollowsAnywhere : StraightProgram → Fields → Needs → Type 0
FollowsAnywhere p image needs =
    (code : MachineCode) (start frame : ℕ) → IsPlaced image code start frame
    → IsFollowedFrom p image needs code start frame
