-- Registers and the stack as C code for RV32 uses them: RISC-V ABIs Specification, sections "Register Convention" and
-- "Procedure Calling Convention" (ilp32).
use Rattle.std.specs.Prelude.{ℕ, ◌+◌, ◌*◌, ◌/◌, List, [], ◌∷◌}

-- ra: where a function goes back to
abbrev pub link_register : ℕ
link_register = 1

-- sp: a multiple of 16, below which nothing that is still needed may lie
abbrev pub stack_register : ℕ
stack_register = 2

-- s0 to s11: a function leaves them as they were
abbrev pub saved_registers : List ℕ
saved_registers = 8 ∷ 9 ∷ 18 ∷ 19 ∷ 20 ∷ 21 ∷ 22 ∷ 23 ∷ 24 ∷ 25 ∷ 26 ∷ 27 ∷ []

-- a0 to a7: the first arguments; those after them stand on the stack, from sp on
abbrev pub argument_registers : List ℕ
argument_registers = 10 ∷ 11 ∷ 12 ∷ 13 ∷ 14 ∷ 15 ∷ 16 ∷ 17 ∷ []

-- a0: the result
abbrev pub result_register : ℕ
result_register = 10

-- the others that a function may change: t0 to t2, a1 to a7, t3 to t6
abbrev pub scratch_registers : List ℕ
scratch_registers = 5 ∷ 6 ∷ 7 ∷ 11 ∷ 12 ∷ 13 ∷ 14 ∷ 15 ∷ 16 ∷ 17 ∷ 28 ∷ 29 ∷ 30 ∷ 31 ∷ []

-- a number of bytes, rounded up so that sp stays a multiple of 16
abbrev pub whole_blocks : ℕ → ℕ
whole_blocks bytes = (bytes + 15) / 16 * 16
