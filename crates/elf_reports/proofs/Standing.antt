-- Where an instruction of a program stands something begins, and so at each load that is an origin.
use Rattle.std.proofs.Common.{◌≡◌, ◌≢◌, ◌∙◌, ℕ, ◌+◌, ◌*◌, ◌%◌, ◌^◌, List, [], ◌∷◌, Option, None, Some, ap, refl, subst, sym}
use Rattle.std.proofs.Common.{Bool, eq-eqb, false, inl, inr, ne_eqb, true, ◌==◌}
use Rattle.std.specs.Option.{option_map}
use Rattle.std.specs.Prelude.{if◌then◌else◌}
use Rattle.std.proofs.lemmas.Bool.{cases_Bool}
use Rattle.std.proofs.lemmas.Option.{none-some}
use Rattle.certified_runs.specs.Known.{unknown}
use Rattle.elf_runs.specs.Code.{PlacedCode, program_code}
use Rattle.rv_code.proofs.ExpansionLaws.{begins_no_word}
use Rattle.rv_code.specs.Words.{word_of}
use Rattle.rv_code.specs.declared.instructions.Instr.TheVariants as instructions
use Rattle.rv_machine.specs.declared.memory.Size.{Size}
use Rattle.rv_programs.specs.Code as standing
use Rattle.rv_programs.specs.Code.{StandsIn}
use Rattle.run_reports.specs.origins.Origins.{first_unknown, origin_of, register_written, sooner, with_origin}
use Rattle.run_reports.specs.origins.Traced.{begins, goes_on, Traced}
use Rattle.elf_reports.specs.Below.{addresses_of, alignment_by, Asked, code_among, code_by, ComesToDiffer, Executable}
use Rattle.elf_reports.specs.Below.{halfword_at, halfwords_from, Instr, KnownState, lies_in, machine_program}
use Rattle.elf_reports.specs.Below.{MachineProgram, Observation, Origin, origin_if_unknown, P1, Profile, ProgramCode}
use Rattle.elf_reports.specs.Below.{registers_read, StandsAt, words_from}
use Rattle.elf_reports.specs.Encodings.{encoding_at, encoding_by, encoding_in}
use Rattle.elf_reports.specs.Explained.{Stands}
use Rattle.elf_reports.specs.declared.encodings.Encoding.{Encoding}
use Rattle.elf_reports.specs.declared.encodings.Encoding.TheVariants.{Halfword, Word}

-- where an instruction stands something begins

something : {found : Option Encoding} {encoding : Encoding} → found ≡ Some encoding → found ≢ None
something {encoding = encoding} is = λ none. none-some encoding (sym none ∙ is)

something_begins : {code : ProgramCode} {p : ℕ} {i : Instr} {length : Size} → StandsIn code p i length
    → encoding_in code p ≢ None
something_begins (standing.word at) = something (ap (option_map (λ w. Word w)) at.word)
something_begins {p = p} {i} (standing.short {code} {halfword = halfword} even there expands) =
    let next = halfword_at code (p + 2) in
    let whole = option_map (λ high. Word (halfword + 2 ^ 16 * high)) next in
    something
    (ap (λ (low : Option ℕ). encoding_by low next) there
    ∙ ap (λ (b : Bool). if b then whole else Some (Halfword halfword))
    (ne_eqb (halfword % 4) 3 (begins_no_word halfword i expands)))
something_begins {p = p} (standing.long {code} {low = low} {high = high} even there starts behind fits spells) =
    let next = halfword_at code (p + 2) in
    something
    (ap (λ (found : Option ℕ). encoding_by found next) there
    ∙ ap (λ (b : Bool). if b then option_map (λ high. Word (low + 2 ^ 16 * high)) next else Some (Halfword low))
    (eq-eqb (low % 4) 3 starts)
    ∙ ap (option_map (λ high. Word (low + 2 ^ 16 * high))) behind)

-- it is the same whoever observes it

same_code : (profile : Profile) (code : PlacedCode) (a : ℕ)
    → encoding_in (code_by profile code) a ≡ encoding_in (code_by P1 code) a
same_code profile (words_from begin items) a = refl
same_code profile (halfwords_from begin items) a = refl

anyhow : (compressed : Bool) (profile : Profile) (codes : List PlacedCode) (a : ℕ)
    → encoding_in (code_among (alignment_by compressed) profile codes a) a
    ≡ encoding_in (code_among (alignment_by compressed) P1 codes a) a
anyhow true profile [] a = refl
anyhow false profile [] a = refl
anyhow compressed profile (code ∷ codes) a = elim (cases_Bool (lies_in a (addresses_of code))) [
  | inl e ↦ rw e (same_code profile code a)
  | inr e ↦ rw e (anyhow compressed profile codes a)
]

pub begins_there : (program : Executable) (asked : Asked) (profile : Profile) (pc : ℕ) (i : Instr)
    → StandsAt (machine_program program asked profile) pc i → encoding_at program pc ≢ None
begins_there program asked profile pc i at =
    subst (λ (found : Option Encoding). found ≢ None)
    (anyhow program.compressed profile (program_code program) pc) (something_begins at.1)

-- and so at each load that is an origin

module _ (program : Executable) (asked : Asked) (profile : Profile) where
  abbrev Machine : MachineProgram
  Machine = machine_program program asked profile

  abbrev AllStand : (ℕ → Origin) → Type 0
  AllStand origins = (r : ℕ) → Stands program (origins r)

  abbrev IfStands : Option Origin → Type 0
  IfStands (Some origin) = Stands program origin
  IfStands None = Unit {0}

  where_unknown : (origins : ℕ → Origin) → AllStand origins → (r : ℕ) (known : Bool)
      → IfStands (if known then None else Some (origins r))
  where_unknown origins all r true = tt
  where_unknown origins all r false = all r

  sooner_stands : (one other : Option Origin) → IfStands one → IfStands other → IfStands (sooner one other)
  sooner_stands (Some origin) other stands stands' = stands
  sooner_stands None other stands stands' = stands'

  first_stands : (masks : ℕ → ℕ) (origins : ℕ → Origin) → AllStand origins → (rs : List ℕ)
      → IfStands (first_unknown masks origins rs)
  first_stands masks origins all [] = tt
  first_stands masks origins all (r ∷ rs) =
      sooner_stands (origin_if_unknown masks origins r) (first_unknown masks origins rs)
      (where_unknown origins all r (unknown masks r == 0)) (first_stands masks origins all rs)

  origin_stands : (entry : ℕ) (k : KnownState) (origins : ℕ → Origin) (i : Instr) → AllStand origins
      → StandsAt Machine k.state.pc i → IfStands (origin_of entry k origins i)
  origin_stands entry k origins (instructions.Load operation rd rs1 offset) all at =
      begins_there program asked profile k.state.pc (instructions.Load operation rd rs1 offset) at
  origin_stands entry k origins (instructions.Upper operation rd immediate) all at = tt
  origin_stands entry k origins (instructions.Jump rd offset) all at = tt
  origin_stands entry k origins (instructions.JumpRegister rd rs1 offset) all at =
      first_stands k.registers origins all (rs1 ∷ [])
  origin_stands entry k origins (instructions.Branch test rs1 rs2 offset) all at =
      first_stands k.registers origins all (rs1 ∷ rs2 ∷ [])
  origin_stands entry k origins (instructions.Store operation rs2 rs1 offset) all at =
      first_stands k.registers origins all (rs2 ∷ rs1 ∷ [])
  origin_stands entry k origins (instructions.Immediate operation rd rs1 immediate) all at =
      first_stands k.registers origins all (rs1 ∷ [])
  origin_stands entry k origins (instructions.Shift operation rd rs1 amount) all at =
      first_stands k.registers origins all (rs1 ∷ [])
  origin_stands entry k origins (instructions.Register operation rd rs1 rs2) all at =
      first_stands k.registers origins all (rs1 ∷ rs2 ∷ [])
  origin_stands entry k origins (instructions.Multiply operation rd rs1 rs2) all at =
      first_stands k.registers origins all (rs1 ∷ rs2 ∷ [])
  origin_stands entry k origins (instructions.Divide operation rd rs1 rs2) all at =
      first_stands k.registers origins all (rs1 ∷ rs2 ∷ [])
  origin_stands entry k origins (instructions.Fence mode before after rs1 rd) all at = tt
  origin_stands entry k origins instructions.Ecall all at = tt
  origin_stands entry k origins instructions.Ebreak all at = tt

  written_or_not : (origins : ℕ → Origin) (origin : Origin) → AllStand origins → Stands program origin → (r : ℕ)
      (here : Bool) → Stands program (if here then origin else origins r)
  written_or_not origins origin all stands r true = stands
  written_or_not origins origin all stands r false = all r

  with_stands : (origins : ℕ → Origin) (rd : Option ℕ) (from : Option Origin) → AllStand origins → IfStands from
      → AllStand (with_origin origins rd from)
  with_stands origins (Some rd) (Some origin) all stands = λ r. written_or_not origins origin all stands r (r == rd)
  with_stands origins (Some rd) None all stands = all
  with_stands origins None from all stands = all

  traced_stand : {k now : KnownState} {seen : List Observation} {origins : ℕ → Origin}
      → Traced Machine k seen now origins → AllStand origins
  traced_stand begins = λ r. tt
  traced_stand (goes_on {now = now} {origins = origins} i before at step) =
      let all = traced_stand before in
      with_stands origins (register_written i) _ all (origin_stands _ now origins i all at)

  -- where a run comes to a step that may differ each origin does
  pub origins_stand : {k : KnownState} {i : Instr} {masks : ℕ → ℕ} {origins : ℕ → Origin}
      → ComesToDiffer Machine k i masks origins → (r : ℕ) → Stands program (origins r)
  origins_stand comes = traced_stand comes.traced
