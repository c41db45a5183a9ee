-- A certified run that may differ, made again.
use Rattle.std.proofs.Common.{◌≡◌, ℕ, List, Option, None, Result, Ok, refl, subst}
use Rattle.certified_runs.specs.Known.{KnownState}
use Rattle.rv_code.specs.declared.instructions.Instr.{Instr}
use Rattle.image_reports.specs.Below.{Arg, CertifiedEnd, CertifiedRun, code_at, code_base, Fields, frame_base}
use Rattle.image_reports.specs.Below.{image_program, MachineCode, MayDiffer, may_differ, Observation, params_of, RunFault}
use Rattle.image_reports.specs.Below.{same, Shifts, Stop}
use Rattle.image_reports.specs.certificates.Certified.{Certified, certified, out_of_memory, refused}
use Rattle.image_reports.specs.certificates.Given.{fault_of_given}
use Rattle.image_reports.specs.certificates.KnownImage.{known_at}
use Rattle.image_reports.specs.certificate_explanations.Explained.{ExplainsCertificate, once, SaysRegisters}
use Rattle.image_reports.specs.certificate_explanations.Standing.{Stands}
use Rattle.image_reports.proofs.certificates_lemmas.Below.{one_end}
use Rattle.image_reports.proofs.certificate_explanations_lemmas.Standing.{origins_stand}
use Rattle.run_reports.specs.origins.Traced.{ComesToDiffer}
use Rattle.run_reports.specs.run_places.Reads.{registers_read}
use Rattle.run_reports.specs.declared.origins.registers.Origin.{Origin}

module _ (image : Fields) (given : List (Option Arg)) (shifts : Shifts) where
  faultless_by : (answer : Result CertifiedEnd RunFault) (entry pc : ℕ) → Certified image given shifts answer
      → answer ≡ Ok (MayDiffer entry pc) → fault_of_given (params_of image) given ≡ None
  faultless_by answer entry pc (refused first) is = cc
  faultless_by answer entry pc (out_of_memory none) is = cc
  faultless_by answer entry pc (certified none run) is = none

  other_end_by : (answer : Result CertifiedEnd RunFault) (entry pc : ℕ) (shown : List Observation) (stop : Stop)
      → Certified image given shifts answer → answer ≡ Ok (MayDiffer entry pc)
      → CertifiedRun (image_program (code_at code_base image)) image.max_steps
      (known_at code_base frame_base image given shifts) shown (same stop) → ⊥
  other_end_by answer entry pc shown stop (refused first) is again = cc
  other_end_by answer entry pc shown stop (out_of_memory none) is again = cc
  other_end_by answer entry pc shown stop (certified {ending = same other} none run) is again = cc
  other_end_by answer entry pc shown stop (certified {ending = may_differ at} none run) is again =
      let e = (one_end run again).1 in
      cc

  -- the code, the steps and what is known, as they were loaded
  module _ (code : MachineCode) (budget : ℕ) (k : KnownState) (code_is : code ≡ code_at code_base image)
      (budget_is : budget ≡ image.max_steps) (known_is : k ≡ known_at code_base frame_base image given shifts) where
    -- it does not end otherwise
    pub no_other_end : (entry pc : ℕ) (shown : List Observation) (stop : Stop)
        → Certified image given shifts (Ok (MayDiffer entry pc)) → CertifiedRun (image_program code) budget k shown (same stop)
        → ⊥
    no_other_end entry pc shown stop answer again =
        other_end_by (Ok (MayDiffer entry pc)) entry pc shown stop answer refl (rw (code_is, budget_is, known_is) at again)

    comes_there : (i : Instr) (masks : ℕ → ℕ) (origins : ℕ → Origin) → ComesToDiffer (image_program code) k i masks origins
        → ComesToDiffer (image_program (code_at code_base image)) (known_at code_base frame_base image given shifts) i masks
        origins
    comes_there i masks origins comes =
        subst (λ (z : MachineCode). ComesToDiffer (image_program z) (known_at code_base frame_base image given shifts) i masks
        origins) code_is
        (subst (λ (k : KnownState). ComesToDiffer (image_program code) k i masks origins) known_is comes)

    pub loads_stand : (i : Instr) (masks : ℕ → ℕ) (origins : ℕ → Origin)
        → ComesToDiffer (image_program code) k i masks origins → (r : ℕ) → Stands image (origins r)
    loads_stand i masks origins comes = origins_stand image (comes_there i masks origins comes)

    pub explained : (i : Instr) (masks : ℕ → ℕ) (origins : ℕ → Origin) (text : List ℕ)
        → ComesToDiffer (image_program code) k i masks origins
        → SaysRegisters image masks origins (once (registers_read i)) text → ExplainsCertificate image given shifts text
    explained i masks origins text comes printed = record {
      instr = i;
      masks = masks;
      origins = origins;
      comes = comes_there i masks origins comes;
      printed = printed;
    }

  pub faultless : (entry pc : ℕ) → Certified image given shifts (Ok (MayDiffer entry pc))
      → fault_of_given (params_of image) given ≡ None
  faultless entry pc answer = faultless_by (Ok (MayDiffer entry pc)) entry pc answer refl
