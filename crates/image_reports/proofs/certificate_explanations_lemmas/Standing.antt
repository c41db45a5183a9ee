-- A load that is an origin is one of a word of the image.
use Rattle.std.proofs.Common.{◌≢◌, ℕ, List, [], ◌∷◌, Bool, true, false, Option, None, Some, sym, ◌∙◌, ◌==◌, if◌then◌else◌}
use Rattle.std.proofs.lemmas.Option.{none-some}
use Rattle.certified_runs.specs.Known.{KnownState, unknown}
use Rattle.rv_code.specs.Words.{word_of}
use Rattle.rv_code.specs.declared.instructions.Instr.{Instr}
use Rattle.rv_code.specs.declared.instructions.Instr.TheVariants as instructions
use Rattle.rv_programs.proofs.Standing.{is_at}
use Rattle.rv_programs.specs.Programs.{StandsAt}
use Rattle.image_reports.specs.Below.{code_at, code_base, Fields, image_program, MachineCode, Observation, word_at}
use Rattle.image_reports.specs.certificate_explanations.Standing.{Stands}
use Rattle.run_reports.specs.origins.Origins.{first_unknown, origin_if_unknown, origin_of, register_written, sooner}
use Rattle.run_reports.specs.origins.Origins.{with_origin}
use Rattle.run_reports.specs.origins.Traced.{begins, ComesToDiffer, goes_on, Traced}
use Rattle.run_reports.specs.run_places.Reads.{registers_read}
use Rattle.run_reports.specs.declared.origins.registers.Origin.{Origin}

word_stands : {code : MachineCode} {p : ℕ} {i : Instr} → StandsAt (image_program code) p i → word_at code p ≢ None
word_stands {i = i} at = λ none. none-some (word_of i) (sym none ∙ (is_at at.1).word)

module _ (image : Fields) where
  abbrev AllStand : (ℕ → Origin) → Type 0
  AllStand origins = (r : ℕ) → Stands image (origins r)

  abbrev IfStands : Option Origin → Type 0
  IfStands (Some origin) = Stands image origin
  IfStands None = Unit {0}

  where_unknown : (origins : ℕ → Origin) → AllStand origins → (r : ℕ) (known : Bool)
      → IfStands (if known then None else Some (origins r))
  where_unknown origins all r true = tt
  where_unknown origins all r false = all r

  sooner_stands : (one other : Option Origin) → IfStands one → IfStands other → IfStands (sooner one other)
  sooner_stands (Some origin) other stands stands' = stands
  sooner_stands None other stands stands' = stands'

  first_stands : (masks : ℕ → ℕ) (origins : ℕ → Origin) → AllStand origins → (rs : List ℕ)
      → IfStands (first_unknown masks origins rs)
  first_stands masks origins all [] = tt
  first_stands masks origins all (r ∷ rs) =
      sooner_stands (origin_if_unknown masks origins r) (first_unknown masks origins rs)
      (where_unknown origins all r (unknown masks r == 0)) (first_stands masks origins all rs)

  origin_stands : (entry : ℕ) (k : KnownState) (origins : ℕ → Origin) (i : Instr) → AllStand origins
      → StandsAt (image_program (code_at code_base image)) k.state.pc i → IfStands (origin_of entry k origins i)
  origin_stands entry k origins (instructions.Load operation rd rs1 offset) all at = word_stands at
  origin_stands entry k origins (instructions.Upper operation rd immediate) all at = tt
  origin_stands entry k origins (instructions.Jump rd offset) all at = tt
  origin_stands entry k origins (instructions.JumpRegister rd rs1 offset) all at =
      first_stands k.registers origins all (rs1 ∷ [])
  origin_stands entry k origins (instructions.Branch test rs1 rs2 offset) all at =
      first_stands k.registers origins all (rs1 ∷ rs2 ∷ [])
  origin_stands entry k origins (instructions.Store operation rs2 rs1 offset) all at =
      first_stands k.registers origins all (rs2 ∷ rs1 ∷ [])
  origin_stands entry k origins (instructions.Immediate operation rd rs1 immediate) all at =
      first_stands k.registers origins all (rs1 ∷ [])
  origin_stands entry k origins (instructions.Shift operation rd rs1 amount) all at =
      first_stands k.registers origins all (rs1 ∷ [])
  origin_stands entry k origins (instructions.Register operation rd rs1 rs2) all at =
      first_stands k.registers origins all (rs1 ∷ rs2 ∷ [])
  origin_stands entry k origins (instructions.Multiply operation rd rs1 rs2) all at =
      first_stands k.registers origins all (rs1 ∷ rs2 ∷ [])
  origin_stands entry k origins (instructions.Divide operation rd rs1 rs2) all at =
      first_stands k.registers origins all (rs1 ∷ rs2 ∷ [])
  origin_stands entry k origins (instructions.Fence mode before after rs1 rd) all at = tt
  origin_stands entry k origins instructions.Ecall all at = tt
  origin_stands entry k origins instructions.Ebreak all at = tt

  written_or_not : (origins : ℕ → Origin) (origin : Origin) → AllStand origins → Stands image origin → (r : ℕ) (here : Bool)
      → Stands image (if here then origin else origins r)
  written_or_not origins origin all stands r true = stands
  written_or_not origins origin all stands r false = all r

  with_stands : (origins : ℕ → Origin) (rd : Option ℕ) (from : Option Origin) → AllStand origins → IfStands from
      → AllStand (with_origin origins rd from)
  with_stands origins (Some rd) (Some origin) all stands = λ r. written_or_not origins origin all stands r (r == rd)
  with_stands origins (Some rd) None all stands = all
  with_stands origins None from all stands = all

  traced_stand : {k now : KnownState} {seen : List Observation} {origins : ℕ → Origin}
      → Traced (image_program (code_at code_base image)) k seen now origins → AllStand origins
  traced_stand begins = λ r. tt
  traced_stand (goes_on {now = now} {origins = origins} i before at step) =
      let all = traced_stand before in
      with_stands origins (register_written i) _ all (origin_stands _ now origins i all at)

  -- where a run comes to a step that may differ each origin does
  pub origins_stand : {k : KnownState} {i : Instr} {masks : ℕ → ℕ} {origins : ℕ → Origin}
      → ComesToDiffer (image_program (code_at code_base image)) k i masks origins → (r : ℕ) → Stands image (origins r)
  origins_stand comes = traced_stand comes.traced
