-- Which registers the instructions of words write: RISC-V Unprivileged ISA, section "Base Instruction Formats".
use Rattle.std.specs.Prelude.{ℕ, ◌==◌, ◌&&◌, ◌||◌, Bool, false, not, List, [], ◌∷◌, if◌then◌else◌}
use Rattle.rv_code.specs.Words.{bits_of, branch_opcode, store_opcode}

-- each format but those of stores and branches has the register that it writes in bits 7 to 11
abbrev pub has_destination : ℕ → Bool
has_destination word = not (bits_of 0 7 word == store_opcode) && not (bits_of 0 7 word == branch_opcode)

abbrev pub writes : ℕ → ℕ → Bool
writes word r = has_destination word && (bits_of 7 5 word == r)

-- one of these words does
abbrev pub is_written : List ℕ → ℕ → Bool
is_written [] r = false
is_written (word ∷ words) r = writes word r || is_written words r

-- those of some registers that these words write
abbrev pub written_of : List ℕ → List ℕ → List ℕ
written_of words [] = []
written_of words (r ∷ rs) = if is_written words r then r ∷ written_of words rs else written_of words rs
