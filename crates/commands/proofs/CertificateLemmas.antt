-- A step that may differ is one of a word of the image.
use Rattle.std.proofs.Common.{◌≡◌, ◌≢◌, ℕ, List, Option, None, Result, Ok, refl, sym, subst, ◌∙◌}
use Rattle.std.proofs.lemmas.Option.{none-some}
use Rattle.rv_code.specs.Words.{word_of}
use Rattle.commands.specs.Below.{Arg, Certified, certified, CertifiedEnd, code_at, code_base, Fields}
use Rattle.commands.specs.Below.{image_program, Instr, MachineCode, MachineProgram, MayDiffer, RunFault, Same, Shifts}
use Rattle.commands.specs.Below.{StandsAt, word_at}
use Rattle.rv_machine.specs.declared.observation.Observation.{Observation}
use Rattle.certified_runs.specs.Certified.{KnownEnding, depends, KnownStep, decided, stopped, undecided, RunEnding}
use Rattle.certified_runs.specs.Certified.{same, may_differ, CertifiedRun, spent, halts, cut, steps_on}
use Rattle.certified_runs.specs.Known.{KnownState}
use Rattle.rv_programs.proofs.Standing.{is_at}
use Rattle.image_reports.specs.certificates.Certified.{refused, out_of_memory}
use Rattle.commands.specs.Certificates.{StandsInCode}

depends_at : (program : MachineProgram) (k : KnownState) (ending : KnownEnding) → KnownStep program k ending
    → ending ≡ depends → (i : Instr) × StandsAt program k.state.pc i
depends_at program k ending (decided i at sure step) is = cc
depends_at program k ending (stopped known step) is = cc
depends_at program k ending (undecided i at unknown) is = (i, at)

-- an instruction stands where a certified run of a program is cut
pub cut_at : (program : MachineProgram) (n : ℕ) (k : KnownState) (seen : List Observation) (ending : RunEnding) (pc : ℕ)
    → CertifiedRun program n k seen ending → ending ≡ may_differ pc → (i : Instr) × StandsAt program pc i
cut_at program n k seen ending pc spent is = cc
cut_at program n k seen ending pc (halts step) is = cc
cut_at program n k seen ending pc (cut step) is =
    let here : k.state.pc ≡ pc = cc in
    subst (λ (p : ℕ). (i : Instr) × StandsAt program p i) here (depends_at program k depends step refl)
cut_at program n k seen ending pc (steps_on {n = less} {next = next} {seen = rest} step run) is =
    cut_at program less next rest ending pc run is

-- of an image that is one of its words
word_stands : {code : MachineCode} {p : ℕ} {i : Instr} → StandsAt (image_program code) p i → word_at code p ≢ None
word_stands {i = i} at = λ none. none-some (word_of i) (sym none ∙ (is_at at.1).word)

stands_at : (image : Fields) (given : List (Option Arg)) (shifts : Shifts) (answer : Result CertifiedEnd RunFault)
    (entry pc : ℕ) → Certified image given shifts answer → answer ≡ Ok (MayDiffer entry pc)
    → word_at (code_at code_base image) pc ≢ None
stands_at image given shifts answer entry pc (refused first) is = cc
stands_at image given shifts answer entry pc (out_of_memory none) is = cc
stands_at image given shifts answer entry pc (certified {ending = same stop} none run) is = cc
stands_at image given shifts answer entry pc (certified {seen = seen} {ending = may_differ at} none run) is =
    let there : at ≡ pc = cc in
    subst (λ (p : ℕ). word_at (code_at code_base image) p ≢ None) there
    (let it = cut_at (image_program (code_at code_base image)) _ _ seen (may_differ at) at run refl in
    word_stands it.1)

pub stands_in_code : (image : Fields) (given : List (Option Arg)) (shifts : Shifts) (certificate : CertifiedEnd)
    → Certified image given shifts (Ok certificate) → StandsInCode image certificate
stands_in_code image given shifts (Same stop entries) h = tt
stands_in_code image given shifts (MayDiffer entry pc) h =
    stands_at image given shifts (Ok (MayDiffer entry pc)) entry pc h refl
