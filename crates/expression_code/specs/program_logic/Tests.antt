-- Of two pieces of code one, by a test of two registers.
use Rattle.std.specs.Prelude.{ℕ, ◌+◌, ◌*◌, List, [], ◌∷◌, ◌++◌, length}
use Rattle.expression_code.specs.program_logic.Jumps.{over}
use Rattle.expression_code.specs.Below.{Branch, BranchTest, Instr}

-- over what follows, where there is something
abbrev pub leave : List Instr → List Instr
leave [] = []
leave (i ∷ is) = over (length (i ∷ is)) ∷ []

-- the first list unless two registers pass a test, and else the second
abbrev pub unless_code : BranchTest → ℕ → ℕ → List Instr → List Instr → List Instr
unless_code test l r accepted otherwise =
    Branch test l r (2 * (length accepted + length (leave otherwise)) + 2)
    ∷ (accepted ++ (leave otherwise ++ otherwise))
