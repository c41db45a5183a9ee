-- The instructions that are emitted for words: an expression's value is read where it is, and put where it belongs.
use Rattle.std.specs.Prelude.{ℕ, Bool, List, [], ◌++◌, Option, None, Some, if◌then◌else◌}
use Rattle.expression_code.specs.Allocation.{Allocation}
use Rattle.expression_code.specs.Layout.{Frame, term_layout}
use Rattle.expression_code.specs.NumberRows.{chooses_zero}
use Rattle.expression_code.specs.Registers.{zero_register, value_register}
pub use Rattle.expression_code.specs.TermCode.{home_of_term}
use Rattle.expression_code.specs.TermCode.{into_code, move_code, store_code}
use Rattle.expression_code.specs.declared.locations.Location.{Location}
use Rattle.expression_code.specs.declared.locations.Location.TheVariants.{InRegister, InSlot}
use Rattle.codegen.specs.Below.{Instr, TermTree}

-- The value of an expression, read where it is: in its home, where it has one, and else in the register that it is
-- brought into.

-- no code is needed for what is at home
abbrev pub unless_home : Option ℕ → List Instr → List Instr
unless_home None into = into
unless_home (Some home) into = []

abbrev pub home_or : Option ℕ → ℕ → ℕ
home_or None register = register
home_or (Some home) register = home

-- in a layout, an expression, with its temporaries in the places from this one on, into a register
abbrev pub read_code : Frame → ℕ → ℕ → TermTree → List Instr
read_code layout register place e =
    unless_home (home_of_term layout.allocation e) (into_code (term_layout layout) register place e)

-- and the register where it is then
abbrev pub read_register : Allocation → ℕ → TermTree → ℕ
read_register allocation register e = home_or (home_of_term allocation e) register

-- A value that is stored is read so, but for 0, which needs no code either: x0 has it.

-- whether an expression is the number 0, where numbers go into instructions
abbrev pub gives_zero : Allocation → TermTree → Bool
gives_zero allocation e = chooses_zero allocation e

abbrev pub stored_code : Frame → TermTree → List Instr
stored_code layout e =
    if gives_zero layout.allocation e then [] else read_code layout value_register 0 e

-- and the register where it is then
abbrev pub stored_register : Allocation → TermTree → ℕ
stored_register allocation e =
    if gives_zero allocation e then zero_register else read_register allocation value_register e

-- the value of an expression into a slot
abbrev pub assign_code : Frame → TermTree → ℕ → List Instr
assign_code layout e offset =
    stored_code layout e ++ store_code (stored_register layout.allocation e) offset

-- a register into a variable: its home, or its slot
abbrev pub put_word_code : ℕ → Location → List Instr
put_word_code register (InRegister home) = move_code home register
put_word_code register (InSlot offset) = store_code register offset
