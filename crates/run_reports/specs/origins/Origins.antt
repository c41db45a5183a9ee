-- Where what is unknown of registers comes from, and how an instruction passes that on.
use Rattle.std.specs.Prelude.{ℕ, ◌==◌, List, [], ◌∷◌, Option, Some, None, if◌then◌else◌, slice_index_or}
use Rattle.rv_code.specs.declared.instructions.Instr.TheVariants.{Upper, Jump, JumpRegister, Branch, Store, Immediate}
use Rattle.rv_code.specs.declared.instructions.Instr.TheVariants.{Shift, Register, Multiply, Divide, Fence, Ecall}
use Rattle.rv_code.specs.declared.instructions.Instr.TheVariants.{Ebreak}
use Rattle.rv_code.specs.declared.instructions.Instr.TheVariants as instructions
use Rattle.run_reports.specs.Below.{KnownState}
use Rattle.run_reports.specs.origins.Below.{address_of, Instr, unknown}
use Rattle.run_reports.specs.run_places.Reads.{registers_read}
use Rattle.run_reports.specs.declared.origins.registers.Origin.{Origin}
use Rattle.run_reports.specs.declared.origins.registers.Origin.TheVariants.{Start, Load}

-- the register that an instruction gives a value
abbrev pub register_written : Instr → Option ℕ
register_written (Upper operation rd immediate) = Some rd
register_written (Jump rd offset) = Some rd
register_written (JumpRegister rd rs1 offset) = Some rd
register_written (Branch test rs1 rs2 offset) = None
register_written (instructions.Load operation rd rs1 offset) = Some rd
register_written (Store operation rs2 rs1 offset) = None
register_written (Immediate operation rd rs1 immediate) = Some rd
register_written (Shift operation rd rs1 amount) = Some rd
register_written (Register operation rd rs1 rs2) = Some rd
register_written (Multiply operation rd rs1 rs2) = Some rd
register_written (Divide operation rd rs1 rs2) = Some rd
register_written (Fence mode before after rs1 rd) = None
register_written Ecall = None
register_written Ebreak = None

-- where a register's value comes from where it is unknown, by its unknown bits
abbrev pub origin_if_unknown : (ℕ → ℕ) → (ℕ → Origin) → ℕ → Option Origin
origin_if_unknown masks origins r = if unknown masks r == 0 then None else Some (origins r)

-- the first of two origins, if there is one
abbrev pub sooner : Option Origin → Option Origin → Option Origin
sooner (Some origin) other = Some origin
sooner None other = other

-- that of the first of some registers that is unknown
abbrev pub first_unknown : (ℕ → ℕ) → (ℕ → Origin) → List ℕ → Option Origin
first_unknown masks origins [] = None
first_unknown masks origins (r ∷ rs) = sooner (origin_if_unknown masks origins r) (first_unknown masks origins rs)

-- where what an instruction makes comes from, if it is unknown: a load is where, for any other it is where the first
-- unknown register comes from that it reads; the entry is that of the instruction's program counter
abbrev pub origin_of : ℕ → KnownState → (ℕ → Origin) → Instr → Option Origin
origin_of entry k origins (instructions.Load operation rd rs1 offset) =
    Some (Load entry k.state.pc (address_of k.state.regs rs1 offset))
origin_of entry k origins i = first_unknown k.registers origins (registers_read i)

-- the origins once a register got a value from there; from nowhere if none of it is unknown
abbrev pub with_origin : (ℕ → Origin) → Option ℕ → Option Origin → ℕ → Origin
with_origin origins (Some rd) (Some origin) r = if r == rd then origin else origins r
with_origin origins (Some rd) None r = origins r
with_origin origins None from r = origins r

-- and after an instruction
abbrev pub origins_after : ℕ → KnownState → (ℕ → Origin) → Instr → ℕ → Origin
origins_after entry k origins i = with_origin origins (register_written i) (origin_of entry k origins i)

-- the origins that are kept one after another, and at first the registers themselves
abbrev pub kept_or_start : ℕ → Option Origin → Origin
kept_or_start r (Some origin) = origin
kept_or_start r None = Start r

abbrev pub origins_in : List (Option Origin) → ℕ → Origin
origins_in kept r = kept_or_start r (slice_index_or kept r None)
