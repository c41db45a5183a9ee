-- Pieces of code as they are promised: what they do from an address on, where their words stand.
use Rattle.std.proofs.Common.{ℕ, ◌+◌, List, [], ◌∷◌, Some}
use Rattle.expression_code.proofs.program_logic_lemmas.Counted.{Runs, Setting}
use Rattle.linked_calls.proofs.Below.{AreThere, MachineCode, Data, Does, Event, Instr, LiesIn, Placed, Size}
use Rattle.linked_calls.proofs.PlacedRuns.{does_here, here}

pub placed : (code : MachineCode) (p : ℕ) (is : List Instr) → AreThere code p is → Placed code p is
placed code p [] h = tt
placed code p (i ∷ is) h = (h.0, h.1, h.2, placed code (p + 4) is h.3)

pub does : {n : ℕ} {P : Data → Type 0} {R : Data → Data → Type 0} (z : Setting) (start : ℕ) (is : List Instr)
    → Placed z.code start is → Runs z n is P R → Does z.code start is n z.allowed P R
does z start is there one = does_here z (here z there one)

-- accesses that lie in a stretch, where x2 is there
abbrev pub MayAt : Setting → ℕ → (ℕ → Size → Event) → ℕ → ℕ → Type 0
MayAt z sp accesses low high =
    (a : ℕ) (size : Size) → LiesIn low high a size → z.allowed sp (Some (accesses a size))
