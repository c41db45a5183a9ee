-- What is answered to what is given, case by case.
use Rattle.std.proofs.Common.{◌≡◌, ℕ, List, Option, None, Some, Result, Ok, Err, sym, ap, ◌∙◌, subst}
use Rattle.image_reports.specs.Below.{Arg, Argument, ArgumentFault, CertifiedEnd, CertifiedRun, MachineCode, code_at}
use Rattle.image_reports.specs.Below.{code_base, end_of, Fields, frame_base, image_program, KnownState, Memory, Observation}
use Rattle.image_reports.specs.Below.{params_of, RunEnding, RunFault, Shifts, Slot}
use Rattle.image_reports.specs.certificates.Certified.{Certified, refused, out_of_memory, certified}
use Rattle.image_reports.specs.certificates.Given.{fault_of_given}
use Rattle.image_reports.specs.certificates.KnownImage.{known_at}
use Rattle.image_reports.proofs.certificates_lemmas.LoadedLemmas.{params_in}

-- what is first of what is given for an image's slots
pub first_is : {slots slots' : List Slot} (given : List (Option Arg)) {first answer : Option ArgumentFault}
    → slots ≡ slots' → first ≡ fault_of_given (params_in slots) given → first ≡ answer
    → fault_of_given (params_in slots') given ≡ answer
first_is given are first is = ap (λ slots. fault_of_given (params_in slots) given) (sym are) ∙ (sym first ∙ is)

-- the first fault
pub refused_certified : (image : Fields) (given : List (Option Arg)) (shifts : Shifts) (fault : ArgumentFault)
    (e : RunFault) → e ≡ Argument fault.rule fault.index → fault_of_given (params_of image) given ≡ Some fault
    → Certified image given shifts (Err e)
refused_certified image given shifts fault e is first =
    subst (λ (x : RunFault). Certified image given shifts (Err x)) (sym is) (refused first)

-- out of memory
pub memory_certified : (image : Fields) (given : List (Option Arg)) (shifts : Shifts)
    (answer : Result CertifiedEnd RunFault) → fault_of_given (params_of image) given ≡ None → answer ≡ Err Memory
    → Certified image given shifts answer
memory_certified image given shifts answer none is =
    subst (λ (x : Result CertifiedEnd RunFault). Certified image given shifts x) (sym is) (out_of_memory none)

-- a run
pub run_certified : (image : Fields) (given : List (Option Arg)) (shifts : Shifts) (code : MachineCode) (steps : ℕ)
    (k : KnownState) (seen : List Observation) (ending : RunEnding) (end : CertifiedEnd)
    → fault_of_given (params_of image) given ≡ None → code ≡ code_at code_base image → steps ≡ image.max_steps
    → k ≡ known_at code_base frame_base image given shifts → CertifiedRun (image_program code) steps k seen ending
    → end ≡ end_of seen ending → Certified image given shifts (Ok end)
run_certified image given shifts code steps k seen ending end none code_is steps_is known_is run is =
    subst (λ (x : CertifiedEnd). Certified image given shifts (Ok x)) (sym is)
    (certified none
    (subst (λ (x : KnownState). CertifiedRun (image_program (code_at code_base image)) image.max_steps x seen ending)
    known_is
    (subst (λ (x : ℕ). CertifiedRun (image_program (code_at code_base image)) x k seen ending) steps_is
    (subst (λ (x : MachineCode). CertifiedRun (image_program x) steps k seen ending) code_is run))))
