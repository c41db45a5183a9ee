-- How it is explained that what an observer sees of a function may differ.
use Rattle.std.specs.Prelude.{◌≡◌, ◌≢◌, ◌==◌, ◌&&◌, ◌-◌, ℕ, List, [], ◌∷◌, ◌++◌, codes, length, min, nat_le, nat_lt}
use Rattle.std.specs.Prelude.{None, Option, Some, ⊤, if◌then◌else◌}
use Rattle.std.specs.Fmt.{decimal}
use Rattle.rv_code.specs.FieldText.{reg_text}
use Rattle.elf_reports.specs.Below.{Asked, ComesToDiffer, Executable, Instr, known_at_start, machine_program, Origin}
use Rattle.elf_reports.specs.Below.{origin_if_unknown, registers_read, RunOptions, word_text}
use Rattle.elf_reports.specs.EncodingLines.{IsLineOfEncoding}
use Rattle.elf_reports.specs.Encodings.{encoding_at}
use Rattle.elf_reports.specs.Places.{read_text}
use Rattle.elf_reports.specs.declared.encodings.Encoding.{Encoding}
use Rattle.run_reports.specs.declared.origins.registers.Origin.TheVariants.{Load, Start}

-- which of so many arguments a register has when the run begins: the first eight are in x10 to x17
abbrev pub argument_in : ℕ → ℕ → Option ℕ
argument_in count r = if nat_le 10 r && nat_lt (r - 10) (min 8 count) then Some (r - 10) else None

abbrev pub argument_text : Option ℕ → List ℕ
argument_text None = []
argument_text (Some index) = codes ", argument " ++ decimal index

-- what is said of a register that is unknown since the start: which register was unknown then, and which argument that
-- is, if it is one
abbrev pub start_text : ℕ → ℕ → ℕ → List ℕ
start_text count r s =
    reg_text r ++ codes " unknown since the start: " ++ reg_text s ++ argument_text (argument_in count s)

abbrev pub since_text : ℕ → ℕ → List ℕ
since_text r entry = reg_text r ++ codes " unknown since entry " ++ decimal entry

abbrev pub load_address_text : ℕ → List ℕ
load_address_text address = codes ": load " ++ word_text address

-- since which load a register is unknown: the entry of its program counter, its address, and what lies there
abbrev pub load_text : Executable → ℕ → ℕ → ℕ → ℕ → List ℕ
load_text program stack r entry address =
    since_text r entry ++ load_address_text address ++ read_text program stack address

-- what is said of a register that is unknown, by where that comes from; of a load also the line of its instruction
abbrev pub SaysOrigin : Executable → Asked → ℕ → Origin → List ℕ → Type 0
SaysOrigin program asked r (Start s) line = line ≡ start_text (length asked.arguments.items) r s ++ codes "\n"
SaysOrigin program asked r (Load entry pc address) line =
    (encoding : Encoding) × (shown : List ℕ) × (encoding_at program pc ≡ Some encoding)
    × IsLineOfEncoding pc encoding shown
    × (line ≡ load_text program asked.stack r entry address ++ codes ", by " ++ shown)

-- and of a register that may be known: nothing
abbrev pub SaysRegister : Executable → Asked → ℕ → Option Origin → List ℕ → Type 0
SaysRegister program asked r None line = line ≡ []
SaysRegister program asked r (Some origin) line = SaysOrigin program asked r origin line

-- of one after another, by their unknown bits and where those come from
abbrev pub SaysRegisters : Executable → Asked → (ℕ → ℕ) → (ℕ → Origin) → List ℕ → List ℕ → Type 0
SaysRegisters program asked masks origins [] text = text ≡ []
SaysRegisters program asked masks origins (r ∷ []) text =
    SaysRegister program asked r (origin_if_unknown masks origins r) text
SaysRegisters program asked masks origins (r ∷ rs) text =
    (line rest : List ℕ) × SaysRegister program asked r (origin_if_unknown masks origins r) line
    × SaysRegisters program asked masks origins rs rest × (text ≡ line ++ rest)

-- of two registers that are one, that one
abbrev pub once : List ℕ → List ℕ
once (r ∷ s ∷ []) = if r == s then r ∷ [] else r ∷ s ∷ []
once rs = rs

-- a line for each register that is unknown and that is read by the instruction of the step that may differ
pub record ExplainsFunction (program : Executable) (asked : Asked) (options : RunOptions) (text : List ℕ) :
    Type 0 where
  pub instr : Instr
  pub masks : ℕ → ℕ
  pub origins : ℕ → Origin
  pub comes : ComesToDiffer (machine_program program asked options.profile)
      (known_at_start program asked options.shifts) instr masks origins
  pub printed : SaysRegisters program asked masks origins (once (registers_read instr)) text

-- where a load is made that is an origin, something begins
abbrev pub Stands : Executable → Origin → Type 0
Stands program (Start r) = ⊤
Stands program (Load entry pc address) = encoding_at program pc ≢ None
