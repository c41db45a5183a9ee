-- Parts of placed code are placed.
use Rattle.std.proofs.Common.{◌≡◌, ℕ, suc, ◌+◌, ◌*◌, ◌^◌, ◌<◌, List, [], ◌∷◌, ◌++◌, length, sym, subst, arith}
use Rattle.expression_code.specs.program_logic.Placed.{Placed}
use Rattle.expression_code.specs.Below.{MachineCode, Instr, IsAt, IsInstr, State}

pub Placed-left : (code : MachineCode) (p : ℕ) (xs ys : List Instr) → Placed code p (xs ++ ys) → Placed code p xs
Placed-left code p [] ys h = tt
Placed-left code p (x ∷ xs) ys h = (h.0, h.1, h.2, Placed-left code (p + 4) xs ys h.3)

pub Placed-right : (code : MachineCode) (p : ℕ) (xs ys : List Instr) → Placed code p (xs ++ ys)
    → Placed code (p + 4 * length xs) ys
Placed-right code p [] ys h =
    let e : p ≡ p + 4 * 0 = omega arith in
    subst (λ q. Placed code q ys) e h
Placed-right code p (x ∷ xs) ys h =
    let e : p + 4 + 4 * length xs ≡ p + 4 * suc (length xs) = omega arith in
    subst (λ q. Placed code q ys) e (Placed-right code (p + 4) xs ys h.3)

-- placed code ends below the last address
pub Placed-below : (code : MachineCode) (p : ℕ) (is : List Instr) → Placed code p is → p < 2 ^ 32
    → p + 4 * length is < 2 ^ 32
Placed-below code p [] h below = omega arith
Placed-below code p (i ∷ is) h below = omega (arith, Placed-below code (p + 4) is h.3 h.1)

-- an instruction of placed code stands where the machine is
pub stands : (code : MachineCode) (p : ℕ) (i : Instr) (is : List Instr) → Placed code p (i ∷ is) → IsInstr i →
    (s : State)
    → s.pc ≡ p → IsAt code s.pc i
stands code p i is placed ok s at =
    subst (λ q. IsAt code q i) (sym at) (record { aligned = placed.0; word = placed.2; in_range = ok })
