-- The instructions that are emitted for a branch. In optimised code a branch over a short arm tests the condition: a
-- comparison between its operands, read where they are, and any other condition against 0.
use Rattle.std.specs.Prelude.{ℕ, ◌&&◌, Bool, true, false, nat_lt, List, [], ◌++◌, length, Option, None, Some}
use Rattle.std.specs.Prelude.{if◌then◌else◌}
use Rattle.codegen.specs.declared.comparing.Comparison.{Comparison}
use Rattle.codegen.specs.declared.jumping.Test.{Test}
use Rattle.codegen.specs.private.Jumps.{branch_code, unless_code}
use Rattle.codegen.specs.private.Words.{gives_zero, read_code, read_register}
use Rattle.expression_code.specs.Allocation.{Allocation}
use Rattle.expression_code.specs.Layout.{Frame}
use Rattle.expression_code.specs.Registers.{zero_register, value_register, second_register}
use Rattle.codegen.specs.Below.{Beq, Bgeu, binary, BinaryOperator, Bltu, Bne, Equal, Greater}
use Rattle.codegen.specs.Below.{GreaterOrEqual, Instr, Less, LessOrEqual, TermTree, Unequal}

-- Comparisons.

-- the test that operands pass where a comparison of them does not hold; some take them swapped
abbrev pub failing : BinaryOperator → Option Comparison
failing Equal = Some (record { test = Bne; is_swapped = false })
failing Unequal = Some (record { test = Beq; is_swapped = false })
failing Less = Some (record { test = Bgeu; is_swapped = false })
failing LessOrEqual = Some (record { test = Bltu; is_swapped = true })
failing Greater = Some (record { test = Bgeu; is_swapped = true })
failing GreaterOrEqual = Some (record { test = Bltu; is_swapped = false })
failing operator = None

-- that test of a left and a right register
abbrev pub between : Comparison → ℕ → ℕ → Test
between comparison left right =
    if comparison.is_swapped
    then record { test = comparison.test; left = right; right = left }
    else record { test = comparison.test; left = left; right = right }

-- Operands: the first two temporaries where they are not at home. A right one that is 0 needs no code: x0 has it.

abbrev pub right_code : Frame → TermTree → List Instr
right_code layout e =
    if gives_zero layout.allocation e then [] else read_code layout second_register 1 e

abbrev pub right_register : Allocation → TermTree → ℕ
right_register allocation e =
    if gives_zero allocation e then zero_register else read_register allocation second_register e

abbrev pub operands_code : Frame → TermTree → TermTree → List Instr
operands_code layout left right =
    read_code layout value_register 0 left ++ right_code layout right

-- Conditions.

-- the code of a condition, or that of its operands, where it is a comparison
abbrev pub operands_or : Option Comparison → List Instr → List Instr → List Instr
operands_or None whole operands = whole
operands_or (Some comparison) whole operands = operands

abbrev pub condition_code : Frame → TermTree → List Instr
condition_code layout (binary place operator width left right) =
    operands_or (failing operator)
    (read_code layout value_register 0 (binary place operator width left right))
    (operands_code layout left right)
condition_code layout e = read_code layout value_register 0 e

-- the test that registers pass then where the condition does not hold
abbrev pub test_or : Option Comparison → Test → ℕ → ℕ → Test
test_or None whole left right = whole
test_or (Some comparison) whole left right = between comparison left right

-- a register against 0
abbrev pub against_zero : ℕ → Test
against_zero register = record { test = Beq; left = register; right = zero_register }

abbrev pub test_of : Allocation → TermTree → Test
test_of allocation (binary place operator width left right) =
    test_or (failing operator) (against_zero value_register) (read_register allocation value_register left)
    (right_register allocation right)
test_of allocation e = against_zero (read_register allocation value_register e)

-- Branches.

-- an arm that a branch goes over, also with a jump behind the arm
abbrev pub is_short_arm : List Instr → Bool
is_short_arm arm = nat_lt (length arm) 1000

-- of the code of two arms one, by a condition
abbrev pub branching_code : Frame → TermTree → List Instr → List Instr → List Instr
branching_code layout condition accepted otherwise =
    if layout.allocation.immediates && is_short_arm accepted
    then condition_code layout condition
    ++ unless_code (test_of layout.allocation condition) accepted otherwise
    else read_code layout value_register 0 condition
    ++ branch_code (read_register layout.allocation value_register condition) accepted otherwise
