-- The fields that are read from the halfword of each row, in the order of its arguments.
use Rattle.std.specs.Prelude.{◌≡◌, ℕ, ◌+◌, ◌*◌, ◌/◌, ◌^◌, ◌<◌, [], ◌∷◌}
use Rattle.std.proofs.Common.{◌∙◌, arith}
use Rattle.rv_code.specs.Words.{bits_of}
use Rattle.rv_code.specs.Compressed.{cj_type, cr_type, ci_type, css_type, ciw_type, ca_type, placed, bit, IsScaled}
use Rattle.rv_code.specs.Compressed.{offset_type, small_type, jump_type, branch_type, arithmetic_type}
use Rattle.rv_code.specs.private.Halfwords.{op_at, funct3_at, rd_at, rs2_at, short_rs1_at, short_rs2_at, funct2_at}
use Rattle.rv_code.specs.private.Halfwords.{low_funct2_at, bit_12_at, stack_address_immediate_at, word_offset_at}
use Rattle.rv_code.specs.private.Halfwords.{small_immediate_at, stack_change_immediate_at}
use Rattle.rv_code.specs.private.Halfwords.{jump_offset_at, branch_offset_at, stack_load_offset_at}
use Rattle.rv_code.specs.private.Halfwords.{stack_store_offset_at}

pub offset_fields : (funct3 rd rs1 uimm : ℕ) → funct3 < 2 ^ 3 → rd < 2 ^ 3 → rs1 < 2 ^ 3 → IsScaled 7 4 uimm
    → let halfword = offset_type funct3 rd rs1 uimm in
    (op_at halfword ≡ 0b00) × (funct3_at halfword ≡ funct3) × (short_rs2_at halfword ≡ rd)
    × (short_rs1_at halfword ≡ rs1) × (word_offset_at halfword ≡ uimm)
offset_fields funct3 rd rs1 uimm funct3_fits rd_fits rs1_fits scaled =
    (omega arith, omega arith, omega arith, omega arith, omega arith)

pub small_fields : (funct3 rd imm : ℕ) → funct3 < 2 ^ 3 → rd < 2 ^ 5 → imm < 2 ^ 6
    → let halfword = small_type funct3 rd imm in
    (op_at halfword ≡ 0b01) × (funct3_at halfword ≡ funct3) × (rd_at halfword ≡ rd)
    × (small_immediate_at halfword ≡ imm)
small_fields funct3 rd imm funct3_fits rd_fits imm_fits = (omega arith, omega arith, omega arith, omega arith)

-- an offset of a jump is the sum of its parts
jump_parts : (offset : ℕ) → IsScaled 12 2 offset
    → bits_of 1 3 offset * 2 ^ 1 + bits_of 4 1 offset * 2 ^ 4 + bits_of 5 1 offset * 2 ^ 5 + bits_of 6 1 offset * 2 ^ 6
    + bits_of 7 1 offset * 2 ^ 7 + bits_of 8 2 offset * 2 ^ 8 + bits_of 10 1 offset * 2 ^ 10
    + bits_of 11 1 offset * 2 ^ 11 ≡ offset
jump_parts offset scaled = omega arith

-- the parts are read from where the target has them
target_parts : (funct3 p1 p4 p5 p6 p7 p8 p10 p11 : ℕ) → funct3 < 2 ^ 3 → p1 < 2 ^ 3 → p4 < 2 → p5 < 2 → p6 < 2 → p7 < 2
    → p8 < 2 ^ 2 → p10 < 2 → p11 < 2
    → let target = (((((((0 * 2 + p11) * 2 + p4) * 2 ^ 2 + p8) * 2 + p10) * 2 + p6) * 2 + p7) * 2 ^ 3 + p1) * 2 + p5 in
    jump_offset_at (cj_type 0b01 funct3 target)
    ≡ p1 * 2 ^ 1 + p4 * 2 ^ 4 + p5 * 2 ^ 5 + p6 * 2 ^ 6 + p7 * 2 ^ 7 + p8 * 2 ^ 8 + p10 * 2 ^ 10 + p11 * 2 ^ 11
target_parts funct3 p1 p4 p5 p6 p7 p8 p10 p11 h h1 h4 h5 h6 h7 h8 h10 h11 = omega arith

pub jump_fields : (funct3 offset : ℕ) → funct3 < 2 ^ 3 → IsScaled 12 2 offset
    → let halfword = jump_type funct3 offset in
    (op_at halfword ≡ 0b01) × (funct3_at halfword ≡ funct3) × (jump_offset_at halfword ≡ offset)
jump_fields funct3 offset funct3_fits scaled = (
  omega arith,
  omega arith,
  target_parts funct3 (bits_of 1 3 offset) (bits_of 4 1 offset) (bits_of 5 1 offset) (bits_of 6 1 offset)
      (bits_of 7 1 offset) (bits_of 8 2 offset) (bits_of 10 1 offset) (bits_of 11 1 offset) funct3_fits (omega arith)
      (omega arith) (omega arith) (omega arith) (omega arith) (omega arith) (omega arith) (omega arith)
      ∙ jump_parts offset scaled,
)

pub branch_fields : (funct3 rs1 offset : ℕ) → funct3 < 2 ^ 3 → rs1 < 2 ^ 3 → IsScaled 9 2 offset
    → let halfword = branch_type funct3 rs1 offset in
    (op_at halfword ≡ 0b01) × (funct3_at halfword ≡ funct3) × (short_rs1_at halfword ≡ rs1)
    × (branch_offset_at halfword ≡ offset)
branch_fields funct3 rs1 offset funct3_fits rs1_fits scaled = (omega arith, omega arith, omega arith, omega arith)

pub stack_address_fields : (rd nzuimm : ℕ) → rd < 2 ^ 3 → IsScaled 10 4 nzuimm
    → let halfword = ciw_type 0b00 0b000 rd (placed nzuimm ((5, 4) ∷ (9, 6) ∷ bit 2 ∷ bit 3 ∷ [])) in
    (op_at halfword ≡ 0b00) × (funct3_at halfword ≡ 0b000) × (short_rs2_at halfword ≡ rd)
    × (stack_address_immediate_at halfword ≡ nzuimm)
stack_address_fields rd nzuimm rd_fits scaled = (omega arith, omega arith, omega arith, omega arith)

pub stack_change_fields : (nzimm : ℕ) → IsScaled 10 16 nzimm
    → let halfword = ci_type 0b01 0b011 2 (placed nzimm (bit 9 ∷ []))
    (placed nzimm (bit 4 ∷ bit 6 ∷ (8, 7) ∷ bit 5 ∷ [])) in
    (op_at halfword ≡ 0b01) × (funct3_at halfword ≡ 0b011) × (rd_at halfword ≡ 2)
    × (stack_change_immediate_at halfword ≡ nzimm)
stack_change_fields nzimm scaled = (omega arith, omega arith, omega arith, omega arith)

pub upper_fields : (rd nzimm : ℕ) → rd < 2 ^ 5 → IsScaled 18 (2 ^ 12) nzimm
    → let halfword = ci_type 0b01 0b011 rd (placed nzimm (bit 17 ∷ [])) (placed nzimm ((16, 12) ∷ [])) in
    (op_at halfword ≡ 0b01) × (funct3_at halfword ≡ 0b011) × (rd_at halfword ≡ rd)
    × (small_immediate_at halfword ≡ nzimm / 2 ^ 12)
upper_fields rd nzimm rd_fits scaled = (omega arith, omega arith, omega arith, omega arith)

pub arithmetic_fields : (funct2 rd imm : ℕ) → funct2 < 2 ^ 2 → rd < 2 ^ 3 → imm < 2 ^ 6
    → let halfword = arithmetic_type funct2 rd imm in
    (op_at halfword ≡ 0b01) × (funct3_at halfword ≡ 0b100) × (funct2_at halfword ≡ funct2)
    × (short_rs1_at halfword ≡ rd) × (small_immediate_at halfword ≡ imm)
arithmetic_fields funct2 rd imm funct2_fits rd_fits imm_fits =
    (omega arith, omega arith, omega arith, omega arith, omega arith)

pub amount_fields : (funct2 rd shamt : ℕ) → funct2 < 2 ^ 2 → rd < 2 ^ 3 → shamt < 2 ^ 5
    → let halfword = arithmetic_type funct2 rd shamt in
    (bit_12_at halfword ≡ 0) × (rs2_at halfword ≡ shamt)
amount_fields funct2 rd shamt funct2_fits rd_fits shamt_fits = (omega arith, omega arith)

pub two_register_fields : (funct2 rd rs2 : ℕ) → funct2 < 2 ^ 2 → rd < 2 ^ 3 → rs2 < 2 ^ 3
    → let halfword = ca_type 0b01 0b100011 funct2 rd rs2 in
    (op_at halfword ≡ 0b01) × (funct3_at halfword ≡ 0b100) × (funct2_at halfword ≡ 0b11) × (bit_12_at halfword ≡ 0)
    × (low_funct2_at halfword ≡ funct2) × (short_rs1_at halfword ≡ rd) × (short_rs2_at halfword ≡ rs2)
two_register_fields funct2 rd rs2 funct2_fits rd_fits rs2_fits =
    (omega arith, omega arith, omega arith, omega arith, omega arith, omega arith, omega arith)

pub shift_fields : (rd shamt : ℕ) → rd < 2 ^ 5 → shamt < 2 ^ 5
    → let halfword = ci_type 0b10 0b000 rd 0 shamt in
    (op_at halfword ≡ 0b10) × (funct3_at halfword ≡ 0b000) × (bit_12_at halfword ≡ 0) × (rd_at halfword ≡ rd)
    × (rs2_at halfword ≡ shamt)
shift_fields rd shamt rd_fits shamt_fits = (omega arith, omega arith, omega arith, omega arith, omega arith)

pub stack_load_fields : (rd uimm : ℕ) → rd < 2 ^ 5 → IsScaled 8 4 uimm
    → let halfword = ci_type 0b10 0b010 rd (placed uimm (bit 5 ∷ [])) (placed uimm ((4, 2) ∷ (7, 6) ∷ [])) in
    (op_at halfword ≡ 0b10) × (funct3_at halfword ≡ 0b010) × (rd_at halfword ≡ rd)
    × (stack_load_offset_at halfword ≡ uimm)
stack_load_fields rd uimm rd_fits scaled = (omega arith, omega arith, omega arith, omega arith)

pub stack_store_fields : (rs2 uimm : ℕ) → rs2 < 2 ^ 5 → IsScaled 8 4 uimm
    → let halfword = css_type 0b10 0b110 rs2 (placed uimm ((5, 2) ∷ (7, 6) ∷ [])) in
    (op_at halfword ≡ 0b10) × (funct3_at halfword ≡ 0b110) × (rs2_at halfword ≡ rs2)
    × (stack_store_offset_at halfword ≡ uimm)
stack_store_fields rs2 uimm rs2_fits scaled = (omega arith, omega arith, omega arith, omega arith)

-- funct4 is funct3 and bit 12
pub cr_fields : (last rd rs2 : ℕ) → last < 2 → rd < 2 ^ 5 → rs2 < 2 ^ 5
    → let halfword = cr_type 0b10 (0b1000 + last) rd rs2 in
    (op_at halfword ≡ 0b10) × (funct3_at halfword ≡ 0b100) × (bit_12_at halfword ≡ last) × (rd_at halfword ≡ rd)
    × (rs2_at halfword ≡ rs2)
cr_fields last rd rs2 last_fits rd_fits rs2_fits =
    (omega arith, omega arith, omega arith, omega arith, omega arith)
