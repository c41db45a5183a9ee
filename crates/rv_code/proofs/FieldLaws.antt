-- The fields that are read from a word of each format, in the order of its arguments.
use Rattle.std.specs.Prelude.{◌≡◌, ℕ, ◌^◌, ◌<◌}
use Rattle.std.proofs.Common.{arith}
use Rattle.rv_code.specs.Words.{r_type, i_type, s_type, b_type, u_type, j_type, fence_word, misc_mem_opcode}
use Rattle.rv_code.specs.private.Reading.{opcode_at, rd_at, funct3_at, rs1_at, rs2_at, funct7_at, i_immediate_at}
use Rattle.rv_code.specs.private.Reading.{s_immediate_at, b_offset_at, u_immediate_at, j_offset_at, mode_at, before_at}
use Rattle.rv_code.specs.private.Reading.{after_at}

pub r_fields : (opcode funct3 funct7 rd rs1 rs2 : ℕ) → opcode < 2 ^ 7 → funct3 < 2 ^ 3 → funct7 < 2 ^ 7 → rd < 2 ^ 5
    → rs1 < 2 ^ 5 → rs2 < 2 ^ 5
    → let word = r_type opcode funct3 funct7 rd rs1 rs2 in
    (opcode_at word ≡ opcode) × (funct3_at word ≡ funct3) × (funct7_at word ≡ funct7) × (rd_at word ≡ rd)
    × (rs1_at word ≡ rs1) × (rs2_at word ≡ rs2)
r_fields opcode funct3 funct7 rd rs1 rs2 opcode_fits funct3_fits funct7_fits rd_fits rs1_fits rs2_fits =
    (omega arith, omega arith, omega arith, omega arith, omega arith, omega arith)

pub i_fields : (opcode funct3 rd rs1 immediate : ℕ) → opcode < 2 ^ 7 → funct3 < 2 ^ 3 → rd < 2 ^ 5 → rs1 < 2 ^ 5
    → immediate < 2 ^ 12
    → let word = i_type opcode funct3 rd rs1 immediate in
    (opcode_at word ≡ opcode) × (funct3_at word ≡ funct3) × (rd_at word ≡ rd) × (rs1_at word ≡ rs1)
    × (i_immediate_at word ≡ immediate)
i_fields opcode funct3 rd rs1 immediate opcode_fits funct3_fits rd_fits rs1_fits immediate_fits =
    (omega arith, omega arith, omega arith, omega arith, omega arith)

pub s_fields : (opcode funct3 rs1 rs2 immediate : ℕ) → opcode < 2 ^ 7 → funct3 < 2 ^ 3 → rs1 < 2 ^ 5 → rs2 < 2 ^ 5
    → immediate < 2 ^ 12
    → let word = s_type opcode funct3 rs1 rs2 immediate in
    (opcode_at word ≡ opcode) × (funct3_at word ≡ funct3) × (rs1_at word ≡ rs1) × (rs2_at word ≡ rs2)
    × (s_immediate_at word ≡ immediate)
s_fields opcode funct3 rs1 rs2 immediate opcode_fits funct3_fits rs1_fits rs2_fits immediate_fits =
    (omega arith, omega arith, omega arith, omega arith, omega arith)

pub b_fields : (opcode funct3 rs1 rs2 halves : ℕ) → opcode < 2 ^ 7 → funct3 < 2 ^ 3 → rs1 < 2 ^ 5 → rs2 < 2 ^ 5
    → halves < 2 ^ 12
    → let word = b_type opcode funct3 rs1 rs2 halves in
    (opcode_at word ≡ opcode) × (funct3_at word ≡ funct3) × (rs1_at word ≡ rs1) × (rs2_at word ≡ rs2)
    × (b_offset_at word ≡ halves)
b_fields opcode funct3 rs1 rs2 halves opcode_fits funct3_fits rs1_fits rs2_fits halves_fits =
    (omega arith, omega arith, omega arith, omega arith, omega arith)

pub u_fields : (opcode rd immediate : ℕ) → opcode < 2 ^ 7 → rd < 2 ^ 5 → immediate < 2 ^ 20
    → let word = u_type opcode rd immediate in
    (opcode_at word ≡ opcode) × (rd_at word ≡ rd) × (u_immediate_at word ≡ immediate)
u_fields opcode rd immediate opcode_fits rd_fits immediate_fits = (omega arith, omega arith, omega arith)

pub j_fields : (opcode rd halves : ℕ) → opcode < 2 ^ 7 → rd < 2 ^ 5 → halves < 2 ^ 20
    → let word = j_type opcode rd halves in
    (opcode_at word ≡ opcode) × (rd_at word ≡ rd) × (j_offset_at word ≡ halves)
j_fields opcode rd halves opcode_fits rd_fits halves_fits = (omega arith, omega arith, omega arith)

pub fence_fields : (mode before after rs1 rd : ℕ) → mode < 2 ^ 4 → before < 2 ^ 4 → after < 2 ^ 4 → rs1 < 2 ^ 5
    → rd < 2 ^ 5
    → let word = fence_word mode before after rs1 rd in
    (opcode_at word ≡ misc_mem_opcode) × (funct3_at word ≡ 0) × (mode_at word ≡ mode) × (before_at word ≡ before)
    × (after_at word ≡ after) × (rs1_at word ≡ rs1) × (rd_at word ≡ rd)
fence_fields mode before after rs1 rd mode_fits before_fits after_fits rs1_fits rd_fits =
    (omega arith, omega arith, omega arith, omega arith, omega arith, omega arith, omega arith)
