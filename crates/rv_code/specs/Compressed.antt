-- The instructions of 16 bits, all of RV32 but those of floating point: of each its halfword, the ranges of its fields,
-- and the one instruction of 32 bits that it means. RISC-V Unprivileged ISA, the chapter ""C" Extension for Compressed
-- Instructions": the formats as in the section "Compressed Instruction Formats", the rows as in "RVC Instruction Set
-- Listings", and what each means as in the sections between.
use Rattle.std.specs.Prelude.{◌≡◌, ◌≢◌, ℕ, ◌+◌, ◌-◌, ◌*◌, ◌%◌, ◌^◌, ◌<◌, List, [], ◌∷◌, fold}
use Rattle.rv_code.specs.declared.instructions.Instr.{Instr}
use Rattle.rv_code.specs.declared.instructions.Instr.TheVariants.{Upper, Jump, JumpRegister, Branch, Load, Store}
use Rattle.rv_code.specs.declared.instructions.Instr.TheVariants.{Immediate, Shift, Register, Ebreak}
use Rattle.rv_code.specs.declared.operations.UpperOperation.TheVariants.{Lui}
use Rattle.rv_code.specs.declared.operations.BranchTest.TheVariants.{Beq, Bne}
use Rattle.rv_code.specs.declared.operations.LoadOperation.TheVariants.{Lw}
use Rattle.rv_code.specs.declared.operations.StoreOperation.TheVariants.{Sw}
use Rattle.rv_code.specs.declared.operations.ImmediateOperation.TheVariants.{Addi, Andi}
use Rattle.rv_code.specs.declared.operations.ShiftOperation.TheVariants.{Slli, Srli, Srai}
use Rattle.rv_code.specs.declared.operations.RegisterOperation.TheVariants.{Add, Sub, Xor, Or, And}
use Rattle.rv_code.specs.Signed.{sign_extended}
use Rattle.rv_code.specs.Words.{bits_of}

-- section "Expanded Instruction-Length Encoding": a halfword whose low two bits are 11 is the first of an instruction
-- of 32 bits, or of more, which none here has; any other is one by itself
abbrev pub BeginsWord : ℕ → Type 0
BeginsWord halfword = halfword % 2 ^ 2 ≡ 0b11

-- The instructions, with the fields that the listings name. A register of three bits is one of x8 to x15; an immediate
-- is the whole number, in two's complement where it has a sign. A hint is in the row of the instruction that it would
-- be, with a field that does nothing, and C.NOP is the C.ADDI of x0. What is reserved or for custom use is in none.
pub data Compressed : Type 0 where
  c_addi4spn : (rd nzuimm : ℕ) → Compressed
  c_lw : (rd rs1 uimm : ℕ) → Compressed
  c_sw : (rs2 rs1 uimm : ℕ) → Compressed
  c_addi : (rd imm : ℕ) → Compressed
  c_jal : (offset : ℕ) → Compressed
  c_li : (rd imm : ℕ) → Compressed
  c_addi16sp : (nzimm : ℕ) → Compressed
  c_lui : (rd nzimm : ℕ) → Compressed
  c_srli : (rd shamt : ℕ) → Compressed
  c_srai : (rd shamt : ℕ) → Compressed
  c_andi : (rd imm : ℕ) → Compressed
  c_sub : (rd rs2 : ℕ) → Compressed
  c_xor : (rd rs2 : ℕ) → Compressed
  c_or : (rd rs2 : ℕ) → Compressed
  c_and : (rd rs2 : ℕ) → Compressed
  c_j : (offset : ℕ) → Compressed
  c_beqz : (rs1 offset : ℕ) → Compressed
  c_bnez : (rs1 offset : ℕ) → Compressed
  c_slli : (rd shamt : ℕ) → Compressed
  c_lwsp : (rd uimm : ℕ) → Compressed
  c_jr : (rs1 : ℕ) → Compressed
  c_mv : (rd rs2 : ℕ) → Compressed
  c_ebreak : Compressed
  c_jalr : (rs1 : ℕ) → Compressed
  c_add : (rd rs2 : ℕ) → Compressed
  c_swsp : (rs2 uimm : ℕ) → Compressed

-- The formats, each the sum of its fields. The arguments are the fixed fields, the registers, and the parts of the
-- immediate from the highest place on.

abbrev pub cr_type : ℕ → ℕ → ℕ → ℕ → ℕ
cr_type op funct4 rd rs2 = op + rs2 * 2 ^ 2 + rd * 2 ^ 7 + funct4 * 2 ^ 12

abbrev pub ci_type : ℕ → ℕ → ℕ → ℕ → ℕ → ℕ
ci_type op funct3 rd high low = op + low * 2 ^ 2 + rd * 2 ^ 7 + high * 2 ^ 12 + funct3 * 2 ^ 13

abbrev pub css_type : ℕ → ℕ → ℕ → ℕ → ℕ
css_type op funct3 rs2 immediate = op + rs2 * 2 ^ 2 + immediate * 2 ^ 7 + funct3 * 2 ^ 13

abbrev pub ciw_type : ℕ → ℕ → ℕ → ℕ → ℕ
ciw_type op funct3 rd immediate = op + rd * 2 ^ 2 + immediate * 2 ^ 5 + funct3 * 2 ^ 13

-- the CL format, and the CS format, which has rs2 in the place of rd
abbrev pub cl_type : ℕ → ℕ → ℕ → ℕ → ℕ → ℕ → ℕ
cl_type op funct3 rd rs1 high low = op + rd * 2 ^ 2 + low * 2 ^ 5 + rs1 * 2 ^ 7 + high * 2 ^ 10 + funct3 * 2 ^ 13

abbrev pub ca_type : ℕ → ℕ → ℕ → ℕ → ℕ → ℕ
ca_type op funct6 funct2 rd rs2 = op + rs2 * 2 ^ 2 + funct2 * 2 ^ 5 + rd * 2 ^ 7 + funct6 * 2 ^ 10

abbrev pub cb_type : ℕ → ℕ → ℕ → ℕ → ℕ → ℕ
cb_type op funct3 rs1 high low = op + low * 2 ^ 2 + rs1 * 2 ^ 7 + high * 2 ^ 10 + funct3 * 2 ^ 13

abbrev pub cj_type : ℕ → ℕ → ℕ → ℕ
cj_type op funct3 target = op + target * 2 ^ 2 + funct3 * 2 ^ 13

-- bits of an immediate side by side, from the highest place on, as the listings write them: their imm[5:4|9:6|2] is
-- placed imm ((5, 4) ∷ (9, 6) ∷ bit 2 ∷ [])
abbrev pub placed : ℕ → List (ℕ × ℕ) → ℕ
placed immediate parts =
    fold (λ above part. above * 2 ^ (part.0 - part.1 + 1) + bits_of part.1 (part.0 - part.1 + 1) immediate) 0 parts

abbrev pub bit : ℕ → ℕ × ℕ
bit place = (place, place)

-- Rows that differ in fixed fields alone.

-- C.LW and C.SW
abbrev pub offset_type : ℕ → ℕ → ℕ → ℕ → ℕ
offset_type funct3 rd rs1 uimm =
    cl_type 0b00 funct3 rd rs1 (placed uimm ((5, 3) ∷ [])) (placed uimm (bit 2 ∷ bit 6 ∷ []))

-- C.ADDI and C.LI
abbrev pub small_type : ℕ → ℕ → ℕ → ℕ
small_type funct3 rd imm = ci_type 0b01 funct3 rd (placed imm (bit 5 ∷ [])) (placed imm ((4, 0) ∷ []))

-- C.JAL and C.J
abbrev pub jump_type : ℕ → ℕ → ℕ
jump_type funct3 offset =
    cj_type 0b01 funct3
    (placed offset (bit 11 ∷ bit 4 ∷ (9, 8) ∷ bit 10 ∷ bit 6 ∷ bit 7 ∷ (3, 1) ∷ bit 5 ∷ []))

-- C.BEQZ and C.BNEZ
abbrev pub branch_type : ℕ → ℕ → ℕ → ℕ
branch_type funct3 rs1 offset =
    cb_type 0b01 funct3 rs1 (placed offset (bit 8 ∷ (4, 3) ∷ [])) (placed offset ((7, 6) ∷ (2, 1) ∷ bit 5 ∷ []))

-- C.SRLI, C.SRAI and C.ANDI: funct2 and bit 5 of the immediate, which the amount of a shift does not have on RV32, are
-- side by side
abbrev pub arithmetic_type : ℕ → ℕ → ℕ → ℕ
arithmetic_type funct2 rd imm =
    cb_type 0b01 0b100 rd (placed imm (bit 5 ∷ []) * 2 ^ 2 + funct2) (placed imm ((4, 0) ∷ []))

-- the halfword of an instruction
unfoldable pub halfword_of : Compressed → ℕ
halfword_of (c_addi4spn rd nzuimm) =
    ciw_type 0b00 0b000 rd (placed nzuimm ((5, 4) ∷ (9, 6) ∷ bit 2 ∷ bit 3 ∷ []))
halfword_of (c_lw rd rs1 uimm) = offset_type 0b010 rd rs1 uimm
halfword_of (c_sw rs2 rs1 uimm) = offset_type 0b110 rs2 rs1 uimm
halfword_of (c_addi rd imm) = small_type 0b000 rd imm
halfword_of (c_jal offset) = jump_type 0b001 offset
halfword_of (c_li rd imm) = small_type 0b010 rd imm
halfword_of (c_addi16sp nzimm) =
    ci_type 0b01 0b011 2 (placed nzimm (bit 9 ∷ [])) (placed nzimm (bit 4 ∷ bit 6 ∷ (8, 7) ∷ bit 5 ∷ []))
halfword_of (c_lui rd nzimm) = ci_type 0b01 0b011 rd (placed nzimm (bit 17 ∷ [])) (placed nzimm ((16, 12) ∷ []))
halfword_of (c_srli rd shamt) = arithmetic_type 0b00 rd shamt
halfword_of (c_srai rd shamt) = arithmetic_type 0b01 rd shamt
halfword_of (c_andi rd imm) = arithmetic_type 0b10 rd imm
halfword_of (c_sub rd rs2) = ca_type 0b01 0b100011 0b00 rd rs2
halfword_of (c_xor rd rs2) = ca_type 0b01 0b100011 0b01 rd rs2
halfword_of (c_or rd rs2) = ca_type 0b01 0b100011 0b10 rd rs2
halfword_of (c_and rd rs2) = ca_type 0b01 0b100011 0b11 rd rs2
halfword_of (c_j offset) = jump_type 0b101 offset
halfword_of (c_beqz rs1 offset) = branch_type 0b110 rs1 offset
halfword_of (c_bnez rs1 offset) = branch_type 0b111 rs1 offset
halfword_of (c_slli rd shamt) = ci_type 0b10 0b000 rd 0 shamt
halfword_of (c_lwsp rd uimm) = ci_type 0b10 0b010 rd (placed uimm (bit 5 ∷ [])) (placed uimm ((4, 2) ∷ (7, 6) ∷ []))
halfword_of (c_jr rs1) = cr_type 0b10 0b1000 rs1 0
halfword_of (c_mv rd rs2) = cr_type 0b10 0b1000 rd rs2
halfword_of c_ebreak = cr_type 0b10 0b1001 0 0
halfword_of (c_jalr rs1) = cr_type 0b10 0b1001 rs1 0
halfword_of (c_add rd rs2) = cr_type 0b10 0b1001 rd rs2
halfword_of (c_swsp rs2 uimm) = css_type 0b10 0b110 rs2 (placed uimm ((5, 2) ∷ (7, 6) ∷ []))

-- a number of so many bits, and a multiple of a step
abbrev pub IsScaled : ℕ → ℕ → ℕ → Type 0
IsScaled bits step number = (number < 2 ^ bits) × (number % step ≡ 0)

-- the fields are within their ranges, and are none that the listings reserve
abbrev pub IsCompressed : Compressed → Type 0
IsCompressed (c_addi4spn rd nzuimm) = (rd < 2 ^ 3) × IsScaled 10 4 nzuimm × (nzuimm ≢ 0)
IsCompressed (c_lw rd rs1 uimm) = (rd < 2 ^ 3) × (rs1 < 2 ^ 3) × IsScaled 7 4 uimm
IsCompressed (c_sw rs2 rs1 uimm) = (rs2 < 2 ^ 3) × (rs1 < 2 ^ 3) × IsScaled 7 4 uimm
IsCompressed (c_addi rd imm) = (rd < 2 ^ 5) × (imm < 2 ^ 6)
IsCompressed (c_jal offset) = IsScaled 12 2 offset
IsCompressed (c_li rd imm) = (rd < 2 ^ 5) × (imm < 2 ^ 6)
IsCompressed (c_addi16sp nzimm) = IsScaled 10 16 nzimm × (nzimm ≢ 0)
IsCompressed (c_lui rd nzimm) = (rd < 2 ^ 5) × (rd ≢ 2) × IsScaled 18 (2 ^ 12) nzimm × (nzimm ≢ 0)
IsCompressed (c_srli rd shamt) = (rd < 2 ^ 3) × (shamt < 2 ^ 5)
IsCompressed (c_srai rd shamt) = (rd < 2 ^ 3) × (shamt < 2 ^ 5)
IsCompressed (c_andi rd imm) = (rd < 2 ^ 3) × (imm < 2 ^ 6)
IsCompressed (c_sub rd rs2) = (rd < 2 ^ 3) × (rs2 < 2 ^ 3)
IsCompressed (c_xor rd rs2) = (rd < 2 ^ 3) × (rs2 < 2 ^ 3)
IsCompressed (c_or rd rs2) = (rd < 2 ^ 3) × (rs2 < 2 ^ 3)
IsCompressed (c_and rd rs2) = (rd < 2 ^ 3) × (rs2 < 2 ^ 3)
IsCompressed (c_j offset) = IsScaled 12 2 offset
IsCompressed (c_beqz rs1 offset) = (rs1 < 2 ^ 3) × IsScaled 9 2 offset
IsCompressed (c_bnez rs1 offset) = (rs1 < 2 ^ 3) × IsScaled 9 2 offset
IsCompressed (c_slli rd shamt) = (rd < 2 ^ 5) × (shamt < 2 ^ 5)
IsCompressed (c_lwsp rd uimm) = (rd < 2 ^ 5) × (rd ≢ 0) × IsScaled 8 4 uimm
IsCompressed (c_jr rs1) = (rs1 < 2 ^ 5) × (rs1 ≢ 0)
IsCompressed (c_mv rd rs2) = (rd < 2 ^ 5) × (rs2 < 2 ^ 5) × (rs2 ≢ 0)
IsCompressed c_ebreak = Unit {0}
IsCompressed (c_jalr rs1) = (rs1 < 2 ^ 5) × (rs1 ≢ 0)
IsCompressed (c_add rd rs2) = (rd < 2 ^ 5) × (rs2 < 2 ^ 5) × (rs2 ≢ 0)
IsCompressed (c_swsp rs2 uimm) = (rs2 < 2 ^ 5) × IsScaled 8 4 uimm

-- the register of a field of three bits
abbrev pub short_register : ℕ → ℕ
short_register field = 8 + field

-- An immediate of so many bits with its sign, as the formats of 32 bits hold it.

abbrev pub immediate_of : ℕ → ℕ → ℕ
immediate_of bits imm = sign_extended bits imm % 2 ^ 12

abbrev pub upper_immediate_of : ℕ → ℕ → ℕ
upper_immediate_of bits imm = bits_of 12 20 (sign_extended bits imm)

abbrev pub jump_offset_of : ℕ → ℕ → ℕ
jump_offset_of bits offset = bits_of 1 20 (sign_extended bits offset)

abbrev pub branch_offset_of : ℕ → ℕ → ℕ
branch_offset_of bits offset = bits_of 1 12 (sign_extended bits offset)

-- the instruction of 32 bits that one of 16 means, but that the next address, which jumps link, is 2 bytes on
abbrev pub expansion_of : Compressed → Instr
expansion_of (c_addi4spn rd nzuimm) = Immediate Addi (short_register rd) 2 nzuimm
expansion_of (c_lw rd rs1 uimm) = Load Lw (short_register rd) (short_register rs1) uimm
expansion_of (c_sw rs2 rs1 uimm) = Store Sw (short_register rs2) (short_register rs1) uimm
expansion_of (c_addi rd imm) = Immediate Addi rd rd (immediate_of 6 imm)
expansion_of (c_jal offset) = Jump 1 (jump_offset_of 12 offset)
expansion_of (c_li rd imm) = Immediate Addi rd 0 (immediate_of 6 imm)
expansion_of (c_addi16sp nzimm) = Immediate Addi 2 2 (immediate_of 10 nzimm)
expansion_of (c_lui rd nzimm) = Upper Lui rd (upper_immediate_of 18 nzimm)
expansion_of (c_srli rd shamt) = Shift Srli (short_register rd) (short_register rd) shamt
expansion_of (c_srai rd shamt) = Shift Srai (short_register rd) (short_register rd) shamt
expansion_of (c_andi rd imm) = Immediate Andi (short_register rd) (short_register rd) (immediate_of 6 imm)
expansion_of (c_sub rd rs2) = Register Sub (short_register rd) (short_register rd) (short_register rs2)
expansion_of (c_xor rd rs2) = Register Xor (short_register rd) (short_register rd) (short_register rs2)
expansion_of (c_or rd rs2) = Register Or (short_register rd) (short_register rd) (short_register rs2)
expansion_of (c_and rd rs2) = Register And (short_register rd) (short_register rd) (short_register rs2)
expansion_of (c_j offset) = Jump 0 (jump_offset_of 12 offset)
expansion_of (c_beqz rs1 offset) = Branch Beq (short_register rs1) 0 (branch_offset_of 9 offset)
expansion_of (c_bnez rs1 offset) = Branch Bne (short_register rs1) 0 (branch_offset_of 9 offset)
expansion_of (c_slli rd shamt) = Shift Slli rd rd shamt
expansion_of (c_lwsp rd uimm) = Load Lw rd 2 uimm
expansion_of (c_jr rs1) = JumpRegister 0 rs1 0
expansion_of (c_mv rd rs2) = Register Add rd 0 rs2
expansion_of c_ebreak = Ebreak
expansion_of (c_jalr rs1) = JumpRegister 1 rs1 0
expansion_of (c_add rd rs2) = Register Add rd rd rs2
expansion_of (c_swsp rs2 uimm) = Store Sw rs2 2 uimm

-- a halfword is that of an instruction of 16 bits, which means this one of 32
abbrev pub ExpandsTo : ℕ → Instr → Type 0
ExpandsTo halfword i = (c : Compressed) × IsCompressed c × (halfword_of c ≡ halfword) × (expansion_of c ≡ i)
