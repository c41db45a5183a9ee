-- Instructions that are run again and again or not at all: what stands between jumps.
use Rattle.std.specs.Prelude.{ℕ, ◌+◌, ◌-◌, ◌*◌, ◌^◌, List, [], ◌∷◌, ◌++◌, length}
use Rattle.expression_code.specs.Below.{Bne, Branch, Instr, Jump}

-- over the next instruction, where a register is not 0
abbrev pub skip : ℕ → Instr
skip r = Branch Bne r 0 4

-- over so many instructions
abbrev pub over : ℕ → Instr
over n = Jump 0 (2 * n + 2)

-- back to the first of so many instructions before it
abbrev pub back : ℕ → Instr
back n = Jump 0 (2 ^ 20 - 2 * n)

-- the first list where a register is not 0, and else the second
abbrev pub branch_code : ℕ → List Instr → List Instr → List Instr
branch_code r accepted otherwise =
    skip r ∷ over (length accepted + 1) ∷ (accepted ++ over (length otherwise) ∷ otherwise)

-- a test, and as long as a register is not 0 the body, and the test again
abbrev pub loop_code : ℕ → List Instr → List Instr → List Instr
loop_code r test body =
    test ++ (skip r ∷ over (length body + 1) ∷ (body ++ back (length test + 2 + length body) ∷ []))

-- a body, and as long as two registers differ the body again
abbrev pub again_code : ℕ → ℕ → List Instr → List Instr
again_code r q body = body ++ Branch Bne r q (2 ^ 12 - 2 * length body) ∷ []
