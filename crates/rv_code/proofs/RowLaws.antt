-- The rows of the instruction table, group by group: the fixed fields fit, each operation stands at its own, and they
-- are no other group's. A law has a clause for the first operation of a group, and one that is proved for each of the
-- others.
use Rattle.std.specs.Prelude.{◌≡◌, ◌^◌, ◌<◌, ◌%◌, ◌==◌, nat_lt, true, false, List, Some, slice_get, refl}
use Rattle.std.proofs.Common.{lit<}
use Rattle.rv_code.specs.declared.operations.BranchTest.{BranchTest}
use Rattle.rv_code.specs.declared.operations.BranchTest.TheVariants.{Beq}
use Rattle.rv_code.specs.declared.operations.LoadOperation.{LoadOperation}
use Rattle.rv_code.specs.declared.operations.LoadOperation.TheVariants.{Lb}
use Rattle.rv_code.specs.declared.operations.StoreOperation.{StoreOperation}
use Rattle.rv_code.specs.declared.operations.StoreOperation.TheVariants.{Sb}
use Rattle.rv_code.specs.declared.operations.ImmediateOperation.{ImmediateOperation}
use Rattle.rv_code.specs.declared.operations.ImmediateOperation.TheVariants.{Addi}
use Rattle.rv_code.specs.declared.operations.ShiftOperation.{ShiftOperation}
use Rattle.rv_code.specs.declared.operations.ShiftOperation.TheVariants.{Slli}
use Rattle.rv_code.specs.declared.operations.RegisterOperation.{RegisterOperation}
use Rattle.rv_code.specs.declared.operations.RegisterOperation.TheVariants.{Add}
use Rattle.rv_code.specs.declared.operations.MultiplyOperation.{MultiplyOperation}
use Rattle.rv_code.specs.declared.operations.MultiplyOperation.TheVariants.{Mul}
use Rattle.rv_code.specs.declared.operations.DivideOperation.{DivideOperation}
use Rattle.rv_code.specs.declared.operations.DivideOperation.TheVariants.{Div}
use Rattle.rv_code.specs.Operations.{RowByFunct3, branch_row, load_row, store_row, immediate_row, shift_row}
use Rattle.rv_code.specs.Operations.{register_row, multiply_row, divide_row}
use Rattle.rv_code.specs.Words.{muldiv_funct7}
use Rattle.rv_code.specs.private.Reading.{branch_tests, load_operations, store_operations, immediate_operations}
use Rattle.rv_code.specs.private.Reading.{multiply_operations, divide_operations, shift_with, register_with}

-- funct3 fits, and tells the operation
abbrev pub IsByFunct3 : {O : Type 0} → (O → RowByFunct3) → List O → O → Type 0
IsByFunct3 row all o = ((row o).funct3 < 2 ^ 3) × (slice_get all (row o).funct3 ≡ Some o)

pub branch_law : (test : BranchTest) → IsByFunct3 branch_row branch_tests test
branch_law Beq = (lit< tt, refl)
branch_law _ = (lit< tt, refl)

pub load_law : (operation : LoadOperation) → IsByFunct3 load_row load_operations operation
load_law Lb = (lit< tt, refl)
load_law _ = (lit< tt, refl)

pub store_law : (operation : StoreOperation) → IsByFunct3 store_row store_operations operation
store_law Sb = (lit< tt, refl)
store_law _ = (lit< tt, refl)

-- the two groups of immediate operations have different funct3

pub immediate_law : (operation : ImmediateOperation)
    → IsByFunct3 immediate_row immediate_operations operation × (((immediate_row operation).funct3 % 4 == 1) ≡ false)
immediate_law Addi = ((lit< tt, refl), refl)
immediate_law _ = ((lit< tt, refl), refl)

pub shift_law : (operation : ShiftOperation)
    → let row = shift_row operation in
    (row.funct3 < 2 ^ 3) × (row.funct7 < 2 ^ 7) × (shift_with row.funct3 row.funct7 ≡ operation)
    × ((row.funct3 % 4 == 1) ≡ true)
shift_law Slli = (lit< tt, lit< tt, refl, refl)
shift_law _ = (lit< tt, lit< tt, refl, refl)

-- the groups of operations of two registers have different funct7, or different funct3

pub register_law : (operation : RegisterOperation)
    → let row = register_row operation in
    (row.funct3 < 2 ^ 3) × (row.funct7 < 2 ^ 7) × (register_with row.funct3 row.funct7 ≡ Some operation)
    × ((row.funct7 == muldiv_funct7) ≡ false)
register_law Add = (lit< tt, lit< tt, refl, refl)
register_law _ = (lit< tt, lit< tt, refl, refl)

pub multiply_law : (operation : MultiplyOperation)
    → IsByFunct3 multiply_row multiply_operations operation × (nat_lt (multiply_row operation).funct3 4 ≡ true)
multiply_law Mul = ((lit< tt, refl), refl)
multiply_law _ = ((lit< tt, refl), refl)

pub divide_law : (operation : DivideOperation)
    → let funct3 = (divide_row operation).funct3 in
    (funct3 < 2 ^ 3) × (slice_get divide_operations (funct3 % 4) ≡ Some operation) × (nat_lt funct3 4 ≡ false)
divide_law Div = (lit< tt, refl, refl)
divide_law _ = (lit< tt, refl, refl)
