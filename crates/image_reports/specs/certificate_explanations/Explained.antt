-- How it is explained that what an observer sees of an image may differ.
use Rattle.std.specs.Prelude.{◌≡◌, ◌==◌, ℕ, List, [], ◌∷◌, ◌++◌, codes, Option, Some, None, if◌then◌else◌}
use Rattle.std.specs.Fmt.{decimal}
use Rattle.rv_code.specs.FieldText.{reg_text}
use Rattle.rv_code.specs.declared.instructions.Instr.{Instr}
use Rattle.image_reports.specs.Below.{Arg, code_at, code_base, Fields, frame_base, image_program, IsLineAt, Shifts}
use Rattle.image_reports.specs.certificates.KnownImage.{known_at}
use Rattle.image_reports.specs.certificate_explanations.Places.{place_text}
use Rattle.run_reports.specs.origins.Origins.{origin_if_unknown}
use Rattle.run_reports.specs.origins.Traced.{ComesToDiffer}
use Rattle.run_reports.specs.run_places.Reads.{registers_read, word_text}
use Rattle.run_reports.specs.declared.origins.registers.Origin.{Origin}
use Rattle.run_reports.specs.declared.origins.registers.Origin.TheVariants.{Start, Load}

abbrev pub since_text : ℕ → ℕ → List ℕ
since_text r entry = reg_text r ++ codes " unknown since entry " ++ decimal entry

abbrev pub address_text : ℕ → List ℕ
address_text address = codes ": load " ++ word_text address

-- which load a register comes from: the entry of its program counter, its address, the argument that this is in
abbrev pub load_text : Fields → ℕ → ℕ → ℕ → List ℕ
load_text image r entry address =
    since_text r entry ++ address_text address ++ place_text frame_base 0 image.slots address

-- what is said of a register that is unknown, by where that comes from: the load, and the line of its word
abbrev pub SaysOrigin : Fields → ℕ → Origin → List ℕ → Type 0
SaysOrigin image r (Start s) line = line ≡ reg_text r ++ codes " unknown since the start\n"
SaysOrigin image r (Load entry pc address) line =
    (word : List ℕ) × IsLineAt (code_at code_base image) pc (Some word)
    × (line ≡ load_text image r entry address ++ codes ", by " ++ word)

-- and of a register that may be known: nothing
abbrev pub SaysRegister : Fields → ℕ → Option Origin → List ℕ → Type 0
SaysRegister image r None line = line ≡ []
SaysRegister image r (Some origin) line = SaysOrigin image r origin line

-- of one after another, by their unknown bits and where those come from
abbrev pub SaysRegisters : Fields → (ℕ → ℕ) → (ℕ → Origin) → List ℕ → List ℕ → Type 0
SaysRegisters image masks origins [] text = text ≡ []
SaysRegisters image masks origins (r ∷ []) text = SaysRegister image r (origin_if_unknown masks origins r) text
SaysRegisters image masks origins (r ∷ rs) text =
    (line rest : List ℕ) × SaysRegister image r (origin_if_unknown masks origins r) line
    × SaysRegisters image masks origins rs rest × (text ≡ line ++ rest)

-- of two registers that are one, that one
abbrev pub once : List ℕ → List ℕ
once (r ∷ s ∷ []) = if r == s then r ∷ [] else r ∷ s ∷ []
once rs = rs

-- a line for each register that is unknown and that is read by the instruction of the step that may differ
pub record ExplainsCertificate (image : Fields) (given : List (Option Arg)) (shifts : Shifts) (text : List ℕ) :
    Type 0 where
  pub instr : Instr
  pub masks : ℕ → ℕ
  pub origins : ℕ → Origin
  pub comes : ComesToDiffer (image_program (code_at code_base image)) (known_at code_base frame_base image given shifts)
      instr masks origins
  pub printed : SaysRegisters image masks origins (once (registers_read instr)) text
