-- The instructions that are emitted for a variable that becomes 0 where a control value is true.
use Rattle.std.specs.Prelude.{ℕ, List, [], ◌∷◌, ◌++◌}
use Rattle.expression_code.specs.Allocation.{register_of}
use Rattle.expression_code.specs.Registers.{value_register, second_register, third_register}
use Rattle.expression_code.specs.TermCode.{fetch_code, load_code, store_code}
use Rattle.expression_code.specs.declared.locations.Location.{Location}
use Rattle.expression_code.specs.declared.locations.Location.TheVariants.{InRegister, InSlot}
use Rattle.codegen.specs.Below.{And, Immediate, Instr, Register, Xori}

-- of two registers, 0 where the mask is all ones, and the old word where it is 0, into another; t is written too
abbrev pub erase_code : ℕ → ℕ → ℕ → ℕ → List Instr
erase_code d t old mask = Immediate Xori t mask 4095 ∷ Register And d old t ∷ []

-- 0 where a control value is true, and else the old word, into a variable
abbrev pub erase_under_code : Location → Location → List Instr
erase_under_code (InRegister home) control =
    fetch_code control third_register
    ++ erase_code home value_register home (register_of control third_register)
erase_under_code (InSlot offset) control =
    load_code second_register offset ++ fetch_code control third_register
    ++ erase_code value_register value_register second_register (register_of control third_register)
    ++ store_code value_register offset
