-- The registers that an instruction reads, and what they hold.
use Rattle.std.specs.Prelude.{ℕ, ◌-◌, ◌^◌, List, [], ◌∷◌, ◌++◌, codes, false}
use Rattle.std.specs.Fmt.{digits, padded_integral, format_spec}
use Rattle.rv_code.specs.declared.instructions.Instr.{Instr}
use Rattle.rv_code.specs.declared.instructions.Instr.TheVariants.{Upper, Jump, JumpRegister, Branch, Load, Store}
use Rattle.rv_code.specs.declared.instructions.Instr.TheVariants.{Immediate, Shift, Register, Multiply, Divide, Fence}
use Rattle.rv_code.specs.declared.instructions.Instr.TheVariants.{Ecall, Ebreak}
use Rattle.rv_code.specs.FieldText.{reg_text}
use Rattle.run_reports.specs.Below.{MachineCode, IsAt, State}
use Rattle.rv_machine.specs.Registers.{register}

-- the registers that an instruction reads, in the order of its text
abbrev pub registers_read : Instr → List ℕ
registers_read (Upper operation rd immediate) = []
registers_read (Jump rd offset) = []
registers_read (JumpRegister rd rs1 offset) = rs1 ∷ []
registers_read (Branch test rs1 rs2 offset) = rs1 ∷ rs2 ∷ []
registers_read (Load operation rd rs1 offset) = rs1 ∷ []
registers_read (Store operation rs2 rs1 offset) = rs2 ∷ rs1 ∷ []
registers_read (Immediate operation rd rs1 immediate) = rs1 ∷ []
registers_read (Shift operation rd rs1 amount) = rs1 ∷ []
registers_read (Register operation rd rs1 rs2) = rs1 ∷ rs2 ∷ []
registers_read (Multiply operation rd rs1 rs2) = rs1 ∷ rs2 ∷ []
registers_read (Divide operation rd rs1 rs2) = rs1 ∷ rs2 ∷ []
registers_read (Fence mode before after rs1 rd) = []
registers_read Ecall = []
registers_read Ebreak = []

-- a word in eight hexadecimal digits, in lower case: the number in base 16, filled up with zeros to 8 places
abbrev pub word_text : ℕ → List ℕ
word_text word = padded_integral (format_spec 32 0 4 8 (2 ^ 64 - 1)) false [] (digits 16 false word)

-- a register and what it holds, as ` x5 0000002a`
abbrev pub register_text : (ℕ → ℕ) → ℕ → List ℕ
register_text regs r = codes " " ++ reg_text r ++ codes " " ++ word_text (register regs r)

-- one after another
abbrev pub registers_text : (ℕ → ℕ) → List ℕ → List ℕ
registers_text regs [] = []
registers_text regs (r ∷ rs) = register_text regs r ++ registers_text regs rs

-- what the instruction at the program counter reads, if one stands there
pub data SaysRegisters (code : MachineCode) (s : State) : List ℕ → Type 0 where
  read : (i : Instr) → IsAt code s.pc i → SaysRegisters code s (registers_text s.regs (registers_read i))
  nothing_read : ((i : Instr) → IsAt code s.pc i → ⊥) → SaysRegisters code s []
