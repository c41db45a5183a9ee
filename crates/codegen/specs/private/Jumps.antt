-- Instructions that are run again and again or not at all: what stands between jumps, and how long it may be.
use Rattle.std.specs.Prelude.{◌≡◌, ℕ, ◌+◌, ◌*◌, ◌^◌, ◌<◌, ◌≤◌, List}
use Rattle.codegen.specs.declared.jumping.Test.{Test}
use Rattle.codegen.specs.declared.unemitted.Unemitted.{Unemitted}
use Rattle.codegen.specs.declared.unemitted.Unemitted.TheVariants.{TooFar}
use Rattle.expression_code.specs.Registers.{zero_register, value_register}
use Rattle.expression_code.specs.program_logic.Jumps as jumps
pub use Rattle.expression_code.specs.program_logic.Jumps.{skip, over, back, branch_code}
use Rattle.expression_code.specs.program_logic.Tests as tests
pub use Rattle.expression_code.specs.program_logic.Tests.{leave}
use Rattle.codegen.specs.Below.{Instr}

-- the first list unless two registers pass a test, and else the second
abbrev pub unless_code : Test → List Instr → List Instr → List Instr
unless_code test accepted otherwise = tests.unless_code test.test test.left test.right accepted otherwise

-- a test, and as long as its value is not 0 the body, and the test again
abbrev pub loop_code : List Instr → List Instr → List Instr
loop_code test body = jumps.loop_code value_register test body

-- a body, and as long as a register is not 0 the body again
abbrev pub again_code : ℕ → List Instr → List Instr
again_code register body = jumps.again_code register zero_register body

-- so many instructions in all are no farther than a jump goes
abbrev pub AreNear : ℕ → ℕ → Type 0
AreNear one other = 2 * (one + other) + 8 < 2 ^ 19

-- and so many are farther
abbrev pub far : ℕ
far = 262140

-- of so many instructions: that a jump does not reach is answered only where they are as many as that
abbrev pub IsFar : ℕ → Unemitted → Type 0
IsFar n error = error ≡ TooFar → far ≤ n
