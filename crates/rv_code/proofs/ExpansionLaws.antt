-- What a 16-bit instruction means is in range; and the low two bits tell the length of an instruction.
use Rattle.std.specs.Prelude.{ℕ}
use Rattle.std.proofs.Common.{arith, subst, sym}
use Rattle.rv_code.specs.declared.instructions.Instr.{Instr}
use Rattle.rv_code.specs.declared.instructions.Instr.TheVariants.{Upper, Jump, JumpRegister, Branch, Load, Store}
use Rattle.rv_code.specs.declared.instructions.Instr.TheVariants.{Immediate, Shift, Register, Multiply, Divide, Fence}
use Rattle.rv_code.specs.declared.instructions.Instr.TheVariants.{Ecall, Ebreak}
use Rattle.rv_code.specs.declared.operations.UpperOperation.TheVariants.{Lui, Auipc}
use Rattle.rv_code.specs.Words.{IsInstr, word_of}
use Rattle.rv_code.specs.Compressed.{Compressed, c_addi4spn, c_lw, c_sw, c_addi, c_jal, c_li, c_addi16sp, c_lui, c_srli}
use Rattle.rv_code.specs.Compressed.{c_srai, c_andi, c_sub, c_xor, c_or, c_and, c_j, c_beqz, c_bnez, c_slli, c_lwsp}
use Rattle.rv_code.specs.Compressed.{c_jr, c_mv, c_ebreak, c_jalr, c_add, c_swsp, IsCompressed, halfword_of}
use Rattle.rv_code.specs.Compressed.{expansion_of, ExpandsTo, BeginsWord}

expansion_in_range : (c : Compressed) → IsCompressed c → IsInstr (expansion_of c)
expansion_in_range (c_addi4spn rd nzuimm) h = (omega arith, omega arith, omega arith)
expansion_in_range (c_lw rd rs1 uimm) h = (omega arith, omega arith, omega arith)
expansion_in_range (c_sw rs2 rs1 uimm) h = (omega arith, omega arith, omega arith)
expansion_in_range (c_addi rd imm) h = (omega arith, omega arith, omega arith)
expansion_in_range (c_jal offset) h = (omega arith, omega arith)
expansion_in_range (c_li rd imm) h = (omega arith, omega arith, omega arith)
expansion_in_range (c_addi16sp nzimm) h = (omega arith, omega arith, omega arith)
expansion_in_range (c_lui rd nzimm) h = (omega arith, omega arith)
expansion_in_range (c_srli rd shamt) h = (omega arith, omega arith, omega arith)
expansion_in_range (c_srai rd shamt) h = (omega arith, omega arith, omega arith)
expansion_in_range (c_andi rd imm) h = (omega arith, omega arith, omega arith)
expansion_in_range (c_sub rd rs2) h = (omega arith, omega arith, omega arith)
expansion_in_range (c_xor rd rs2) h = (omega arith, omega arith, omega arith)
expansion_in_range (c_or rd rs2) h = (omega arith, omega arith, omega arith)
expansion_in_range (c_and rd rs2) h = (omega arith, omega arith, omega arith)
expansion_in_range (c_j offset) h = (omega arith, omega arith)
expansion_in_range (c_beqz rs1 offset) h = (omega arith, omega arith, omega arith)
expansion_in_range (c_bnez rs1 offset) h = (omega arith, omega arith, omega arith)
expansion_in_range (c_slli rd shamt) h = (omega arith, omega arith, omega arith)
expansion_in_range (c_lwsp rd uimm) h = (omega arith, omega arith, omega arith)
expansion_in_range (c_jr rs1) h = (omega arith, omega arith, omega arith)
expansion_in_range (c_mv rd rs2) h = (omega arith, omega arith, omega arith)
expansion_in_range c_ebreak h = tt
expansion_in_range (c_jalr rs1) h = (omega arith, omega arith, omega arith)
expansion_in_range (c_add rd rs2) h = (omega arith, omega arith, omega arith)
expansion_in_range (c_swsp rs2 uimm) h = (omega arith, omega arith, omega arith)

pub in_range : (halfword : ℕ) (i : Instr) → ExpandsTo halfword i → IsInstr i
in_range halfword i (c, is_c, has, means) = subst IsInstr means (expansion_in_range c is_c)

-- the opcode of each instruction ends in 11
pub begins_word : (i : Instr) → BeginsWord (word_of i)
unfolding word_of
begins_word (Upper Lui rd immediate) = omega arith
begins_word (Upper Auipc rd immediate) = omega arith
begins_word (Jump rd offset) = omega arith
begins_word (JumpRegister rd rs1 offset) = omega arith
begins_word (Branch test rs1 rs2 offset) = omega arith
begins_word (Load operation rd rs1 offset) = omega arith
begins_word (Store operation rs2 rs1 offset) = omega arith
begins_word (Immediate operation rd rs1 immediate) = omega arith
begins_word (Shift operation rd rs1 amount) = omega arith
begins_word (Register operation rd rs1 rs2) = omega arith
begins_word (Multiply operation rd rs1 rs2) = omega arith
begins_word (Divide operation rd rs1 rs2) = omega arith
begins_word (Fence mode before after rs1 rd) = omega arith
begins_word Ecall = omega arith
begins_word Ebreak = omega arith

-- and no halfword of a 16-bit instruction does
stands_alone : (c : Compressed) → BeginsWord (halfword_of c) → ⊥
unfolding halfword_of
stands_alone (c_addi4spn rd nzuimm) begins = omega arith
stands_alone _ begins = omega arith

pub begins_no_word : (halfword : ℕ) (i : Instr) → ExpandsTo halfword i → BeginsWord halfword → ⊥
begins_no_word halfword i (c, is_c, has, means) begins = stands_alone c (subst BeginsWord (sym has) begins)
