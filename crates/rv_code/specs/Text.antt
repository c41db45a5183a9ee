-- The assembly text of instructions.
use Rattle.std.specs.Prelude.{ℕ, List, ◌++◌, codes}
use Rattle.std.specs.Fmt.{decimal}
use Rattle.rv_code.specs.Operations.{upper_row, branch_row, load_row, store_row, immediate_row, shift_row, register_row}
use Rattle.rv_code.specs.Operations.{multiply_row, divide_row}
use Rattle.rv_code.specs.FieldText.{reg_text, immediate_text, upper_text, branch_offset_text, jump_offset_text}
use Rattle.rv_code.specs.declared.instructions.Instr.{Instr}
use Rattle.rv_code.specs.declared.instructions.Instr.TheVariants.{Upper, Jump, JumpRegister, Branch, Load, Store}
use Rattle.rv_code.specs.declared.instructions.Instr.TheVariants.{Immediate, Shift, Register, Multiply, Divide, Fence}
use Rattle.rv_code.specs.declared.instructions.Instr.TheVariants.{Ecall, Ebreak}

-- The operands.

-- an address: an offset and, in parentheses, the register that it is added to
abbrev pub address_text : ℕ → ℕ → List ℕ
address_text offset base = immediate_text offset ++ codes "(" ++ reg_text base ++ codes ")"

abbrev pub two_operands : List ℕ → List ℕ → List ℕ → List ℕ
two_operands mnemonic first second = mnemonic ++ codes " " ++ first ++ codes ", " ++ second

abbrev pub three_operands : List ℕ → List ℕ → List ℕ → List ℕ → List ℕ
three_operands mnemonic first second third = two_operands mnemonic first second ++ codes ", " ++ third

-- the text of an instruction
abbrev pub text_of : Instr → List ℕ
text_of (Upper operation rd immediate) =
    two_operands (upper_row operation).mnemonic (reg_text rd) (upper_text immediate)
text_of (Jump rd offset) = two_operands (codes "jal") (reg_text rd) (jump_offset_text offset)
text_of (JumpRegister rd rs1 offset) = two_operands (codes "jalr") (reg_text rd) (address_text offset rs1)
text_of (Branch test rs1 rs2 offset) =
    three_operands (branch_row test).mnemonic (reg_text rs1) (reg_text rs2) (branch_offset_text offset)
text_of (Load operation rd rs1 offset) =
    two_operands (load_row operation).mnemonic (reg_text rd) (address_text offset rs1)
text_of (Store operation rs2 rs1 offset) =
    two_operands (store_row operation).mnemonic (reg_text rs2) (address_text offset rs1)
text_of (Immediate operation rd rs1 immediate) =
    three_operands (immediate_row operation).mnemonic (reg_text rd) (reg_text rs1) (immediate_text immediate)
text_of (Shift operation rd rs1 amount) =
    three_operands (shift_row operation).mnemonic (reg_text rd) (reg_text rs1) (decimal amount)
text_of (Register operation rd rs1 rs2) =
    three_operands (register_row operation).mnemonic (reg_text rd) (reg_text rs1) (reg_text rs2)
text_of (Multiply operation rd rs1 rs2) =
    three_operands (multiply_row operation).mnemonic (reg_text rd) (reg_text rs1) (reg_text rs2)
text_of (Divide operation rd rs1 rs2) =
    three_operands (divide_row operation).mnemonic (reg_text rd) (reg_text rs1) (reg_text rs2)
text_of (Fence mode before after rs1 rd) =
    three_operands (codes "fence") (decimal mode) (decimal before) (decimal after) ++ codes ", " ++ reg_text rs1
    ++ codes ", " ++ reg_text rd
text_of Ecall = codes "ecall"
text_of Ebreak = codes "ebreak"
