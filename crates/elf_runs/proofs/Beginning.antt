-- The state in which a run begins.
use Rattle.std.specs.Prelude.{nat_lt, slice_index, if◌then◌else◌}
use Rattle.std.proofs.Common.{◌≡◌, ◌<◌, ◌∙◌, ℕ, suc, zero, List, ap, ap₂, arith, Bool, inl, inr, length, ne_eqb, refl}
use Rattle.std.proofs.Common.{Some, sym}
use Rattle.std.proofs.Math.Path.{fun_ext}
use Rattle.std.proofs.Math.ListN.{get_or-eq_default}
use Rattle.std.proofs.lemmas.Bool.{cases_lt, lt-ltb, le-ltb}
use Rattle.elf_memory.specs.declared.asked.Asked.{Asked}
use Rattle.elf_runs.specs.Below.{ByteMap, Executable, function_named, known_of, KnownState, MachineProgram, Profile}
use Rattle.elf_runs.specs.Below.{ProgramCode, register, register_masks, Shifts, State}
use Rattle.elf_memory.specs.Word.{known}
use Rattle.elf_memory.specs.Memory.{RangeState}
use Rattle.elf_memory.specs.Begin.{register_of}
use Rattle.elf_memory.specs.declared.words.Word.{Word}
use Rattle.elf_runs.specs.Loading.{address_or_zero, code_for, known_at_start, state_at_start}
use Rattle.elf_memory.specs.Ranges.{may_be_stored_to}
use Rattle.elf_runs.specs.private.Loaded.{program_over}

-- the words of registers that there are, and 0 for others
abbrev word_or_zero : (ℕ → Word) → ℕ → Word
word_or_zero words r = if nat_lt r 32 then words r else known 0

value_at : (words : ℕ → Word) (values : List ℕ) (r : ℕ) → (words 0).value ≡ 0 → length values ≡ 32
    → ((r : ℕ) → r < 32 → slice_index values r ≡ (words r).value)
    → register (slice_index values) r ≡ (word_or_zero words r).value
value_at words values zero none count are = ap (λ n. n) (zeroed none)
  where
    zeroed : (words 0).value ≡ 0 → 0 ≡ (words 0).value
    zeroed none = rw none refl
value_at words values (suc r) none count are = elim (cases_lt (suc r) 32) [
  | inl low ↦ rw (lt-ltb (suc r) 32 low, ne_eqb (suc r) 0 (λ e. omega (arith, e))) (are (suc r) low)
  | inr high ↦
      rw (le-ltb (suc r) 32 high, ne_eqb (suc r) 0 (λ e. omega (arith, e)))
      (get_or-eq_default values 0 (omega (arith, count, high)))
]

mask_at : (words : ℕ → Word) (masks : List ℕ) (r : ℕ) → length masks ≡ 32
    → ((r : ℕ) → r < 32 → slice_index masks r ≡ (words r).unknown)
    → register_masks masks r ≡ (word_or_zero words r).unknown
mask_at words masks r count are = elim (cases_lt r 32) [
  | inl low ↦ rw (lt-ltb r 32 low) (are r low)
  | inr high ↦ rw (le-ltb r 32 high) (get_or-eq_default masks 0 (omega (arith, count, high)))
]

pub registers_read : (program : Executable) (asked : Asked) (values : List ℕ) → length values ≡ 32
    → ((r : ℕ) → r < 32 → slice_index values r ≡ (register_of program asked r).value)
    → register (slice_index values) ≡ (state_at_start program asked).regs
registers_read program asked values count are =
    fun_ext (λ r. value_at (register_of program asked) values r refl count are)

pub masks_read : (program : Executable) (asked : Asked) (shifts : Shifts) (masks : List ℕ) → length masks ≡ 32
    → ((r : ℕ) → r < 32 → slice_index masks r ≡ (register_of program asked r).unknown)
    → register_masks masks ≡ (known_at_start program asked shifts).registers
masks_read program asked shifts masks count are =
    fun_ext (λ r. mask_at (register_of program asked) masks r count are)

-- The parts together.

abbrev program_by : (ℕ → ProgramCode) → (ℕ → Bool) → MachineProgram
program_by code writable = record { code = code; writable = writable }

pub program_is : (program : Executable) (profile : Profile) (given : MachineProgram) (ranges : List RangeState)
    (code : ℕ → ProgramCode) (writable : ℕ → Bool) → given ≡ record { code = code; writable = writable }
    → code ≡ code_for program profile → writable ≡ may_be_stored_to ranges → given ≡ program_over program ranges profile
program_is program profile given ranges code writable is codes stores = is ∙ ap₂ program_by codes stores

abbrev state_by : ℕ → (ℕ → ℕ) → ByteMap → State
state_by pc regs bytes = record { pc = pc; regs = regs; bytes = bytes }

pub state_is : (program : Executable) (asked : Asked) (pc : ℕ) (regs : ℕ → ℕ) (bytes : ByteMap)
    → function_named program asked.function.items ≡ Some pc → regs ≡ (state_at_start program asked).regs
    → bytes ≡ (state_at_start program asked).bytes
    → record { pc = pc; regs = regs; bytes = bytes } ≡ state_at_start program asked
state_is program asked pc regs bytes function registers there =
    ap (λ n. state_by n regs bytes) (ap address_or_zero (sym function))
    ∙ ap₂ (λ (r : ℕ → ℕ) (b : ByteMap). state_by (address_or_zero (function_named program asked.function.items)) r b)
    registers there

abbrev known_by : State → (ℕ → ℕ) → ByteMap → Shifts → KnownState
known_by s registers bytes shifts = record { state = s; registers = registers; bytes = bytes; shifts = shifts }

pub known_is : (program : Executable) (asked : Asked) (shifts : Shifts) (s : State) (masks : List ℕ) (marks : ByteMap)
    → s ≡ state_at_start program asked → register_masks masks ≡ (known_at_start program asked shifts).registers
    → marks ≡ (known_at_start program asked shifts).bytes
    → known_of s masks marks shifts ≡ known_at_start program asked shifts
known_is program asked shifts s masks marks begins unknown there =
    ap (λ (t : State). known_by t (register_masks masks) marks shifts) begins
    ∙ ap₂ (λ (r : ℕ → ℕ) (b : ByteMap). known_by (state_at_start program asked) r b shifts) unknown there
