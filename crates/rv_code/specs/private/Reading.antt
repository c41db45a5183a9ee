-- The instruction that the fields of a word suggest, if they do: it is the word's if it is its word.
use Rattle.std.specs.Prelude.{ℕ, ◌+◌, ◌*◌, ◌/◌, ◌%◌, ◌^◌, Option, Some, None, ◌==◌, nat_lt, if◌then◌else◌, slice_get}
use Rattle.std.specs.Option.{option_map}
use Rattle.rv_code.specs.declared.instructions.Instr.{Instr}
use Rattle.rv_code.specs.declared.instructions.Instr.TheVariants.{Upper, Jump, JumpRegister, Branch, Load, Store}
use Rattle.rv_code.specs.declared.instructions.Instr.TheVariants.{Immediate, Shift, Register, Multiply, Divide, Fence}
use Rattle.rv_code.specs.declared.instructions.Instr.TheVariants.{Ecall, Ebreak}
pub use Rattle.rv_code.specs.declared.operations.TheConstants.BranchTest.{BY_FUNCT3 as branch_tests}
pub use Rattle.rv_code.specs.declared.operations.TheConstants.LoadOperation.{BY_FUNCT3 as load_operations}
pub use Rattle.rv_code.specs.declared.operations.TheConstants.StoreOperation.{BY_FUNCT3 as store_operations}
pub use Rattle.rv_code.specs.declared.operations.TheConstants.ImmediateOperation.{BY_FUNCT3 as immediate_operations}
pub use Rattle.rv_code.specs.declared.operations.TheConstants.MultiplyOperation.{BY_FUNCT3 as multiply_operations}
pub use Rattle.rv_code.specs.declared.operations.TheConstants.DivideOperation.{BY_FUNCT3 as divide_operations}
pub use Rattle.rv_code.specs.declared.operations.TheConstants.RegisterOperation.{BY_FUNCT3 as register_operations}
pub use Rattle.rv_code.specs.declared.operations.TheConstants.RegisterOperation.{BY_FUNCT3_BESIDE as other_operations}
use Rattle.rv_code.specs.declared.operations.ShiftOperation.{ShiftOperation}
use Rattle.rv_code.specs.declared.operations.ShiftOperation.TheVariants.{Slli, Srli, Srai}
use Rattle.rv_code.specs.declared.operations.RegisterOperation.{RegisterOperation}
use Rattle.rv_code.specs.declared.operations.UpperOperation.TheVariants.{Lui, Auipc}
use Rattle.rv_code.specs.Operations.{upper_row}
use Rattle.rv_code.specs.Words.{bits_of, op_imm_opcode, op_opcode, load_opcode, store_opcode, branch_opcode}
use Rattle.rv_code.specs.Words.{jal_opcode, jalr_opcode, misc_mem_opcode, system_opcode, muldiv_funct7, ecall_word}

-- The fields of a word, as the R format has them.

abbrev pub opcode_at : ℕ → ℕ
opcode_at word = word % 2 ^ 7

abbrev pub rd_at : ℕ → ℕ
rd_at word = word / 2 ^ 7 % 2 ^ 5

abbrev pub funct3_at : ℕ → ℕ
funct3_at word = word / 2 ^ 12 % 2 ^ 3

abbrev pub rs1_at : ℕ → ℕ
rs1_at word = word / 2 ^ 15 % 2 ^ 5

abbrev pub rs2_at : ℕ → ℕ
rs2_at word = word / 2 ^ 20 % 2 ^ 5

abbrev pub funct7_at : ℕ → ℕ
funct7_at word = word / 2 ^ 25 % 2 ^ 7

-- The immediates of the other formats; offsets in halves.

abbrev pub i_immediate_at : ℕ → ℕ
i_immediate_at word = word / 2 ^ 20 % 2 ^ 12

abbrev pub s_immediate_at : ℕ → ℕ
s_immediate_at word = (rd_at word + funct7_at word * 2 ^ 5) % 2 ^ 12

abbrev pub b_offset_at : ℕ → ℕ
b_offset_at word =
    (bits_of 8 4 word + bits_of 25 6 word * 2 ^ 4 + bits_of 7 1 word * 2 ^ 10 + word / 2 ^ 31 * 2 ^ 11) % 2 ^ 12

abbrev pub u_immediate_at : ℕ → ℕ
u_immediate_at word = word / 2 ^ 12 % 2 ^ 20

abbrev pub j_offset_at : ℕ → ℕ
j_offset_at word =
    (bits_of 21 10 word + bits_of 20 1 word * 2 ^ 10 + bits_of 12 8 word * 2 ^ 11 + word / 2 ^ 31 * 2 ^ 19) % 2 ^ 20

-- The three fields of FENCE.

abbrev pub mode_at : ℕ → ℕ
mode_at word = word / 2 ^ 28 % 2 ^ 4

abbrev pub before_at : ℕ → ℕ
before_at word = word / 2 ^ 24 % 2 ^ 4

abbrev pub after_at : ℕ → ℕ
after_at word = word / 2 ^ 20 % 2 ^ 4

-- The instruction of each group, whose operation stands in a table by funct3.

unfoldable pub branch_at : ℕ → Option Instr
branch_at word =
    option_map (λ o. Branch o (rs1_at word) (rs2_at word) (b_offset_at word))
    (slice_get branch_tests (funct3_at word))

unfoldable pub load_at : ℕ → Option Instr
load_at word =
    option_map (λ o. Load o (rd_at word) (rs1_at word) (i_immediate_at word))
    (slice_get load_operations (funct3_at word))

unfoldable pub store_at : ℕ → Option Instr
store_at word =
    option_map (λ o. Store o (rs2_at word) (rs1_at word) (s_immediate_at word))
    (slice_get store_operations (funct3_at word))

unfoldable pub immediate_at : ℕ → Option Instr
immediate_at word =
    option_map (λ o. Immediate o (rd_at word) (rs1_at word) (i_immediate_at word))
    (slice_get immediate_operations (funct3_at word))

unfoldable pub multiply_at : ℕ → Option Instr
multiply_at word =
    option_map (λ o. Multiply o (rd_at word) (rs1_at word) (rs2_at word))
    (slice_get multiply_operations (funct3_at word))

unfoldable pub divide_at : ℕ → Option Instr
divide_at word =
    option_map (λ o. Divide o (rd_at word) (rs1_at word) (rs2_at word))
    (slice_get divide_operations (funct3_at word % 4))

abbrev pub shift_with : ℕ → ℕ → ShiftOperation
shift_with funct3 funct7 = if funct3 == 1 then Slli else if funct7 == 0 then Srli else Srai

unfoldable pub shift_at : ℕ → Option Instr
shift_at word = Some (Shift (shift_with (funct3_at word) (funct7_at word)) (rd_at word) (rs1_at word) (rs2_at word))

abbrev pub register_with : ℕ → ℕ → Option RegisterOperation
register_with funct3 funct7 =
    slice_get (if funct7 == 0 then register_operations else other_operations) funct3

unfoldable pub register_at : ℕ → Option Instr
register_at word =
    option_map (λ o. Register o (rd_at word) (rs1_at word) (rs2_at word))
    (register_with (funct3_at word) (funct7_at word))

-- SLLI, SRLI and SRAI are the immediate operations whose funct3 ends in 01; multiplications have the lower four
-- funct3, divisions the upper four
abbrev pub group_at : ℕ → ℕ → Option Instr
group_at opcode word =
    if opcode == (upper_row Lui).opcode then Some (Upper Lui (rd_at word) (u_immediate_at word))
    else if opcode == (upper_row Auipc).opcode then Some (Upper Auipc (rd_at word) (u_immediate_at word))
    else if opcode == op_imm_opcode then (if funct3_at word % 4 == 1 then shift_at word else immediate_at word)
    else if opcode == op_opcode
    then (if funct7_at word == muldiv_funct7
    then (if nat_lt (funct3_at word) 4 then multiply_at word else divide_at word)
    else register_at word)
    else if opcode == load_opcode then load_at word
    else if opcode == store_opcode then store_at word
    else if opcode == branch_opcode then branch_at word
    else if opcode == jal_opcode then Some (Jump (rd_at word) (j_offset_at word))
    else if opcode == jalr_opcode then Some (JumpRegister (rd_at word) (rs1_at word) (i_immediate_at word))
    else if opcode == misc_mem_opcode
    then Some (Fence (mode_at word) (before_at word) (after_at word) (rs1_at word) (rd_at word))
    else if opcode == system_opcode then Some (if word == ecall_word then Ecall else Ebreak)
    else None

unfoldable pub reading : ℕ → Option Instr
reading word = group_at (opcode_at word) word
