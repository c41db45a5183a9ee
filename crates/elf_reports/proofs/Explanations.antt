-- A function's certified run that may differ, made again.
use Rattle.std.proofs.Common.{◌≡◌, ◌∙◌, ℕ, List, Result, Ok, refl, subst, sym}
use Rattle.certified_runs.proofs.OneEnd.{one_end}
use Rattle.certified_runs.specs.Certified.{CertifiedRun, may_differ, RunEnding, same}
use Rattle.certified_runs.specs.End.{end_of}
use Rattle.elf_runs.specs.Certified.{certificate_at, certified, refused}
use Rattle.elf_runs.specs.declared.certifying.FunctionCertificate.{FunctionCertificate}
use Rattle.elf_reports.specs.Below.{Asked, CertifiedFunction, ComesToDiffer, Executable, Instr, known_at_start}
use Rattle.elf_reports.specs.Below.{KnownState, machine_program, MachineProgram, MayDiffer, Observation, Origin}
use Rattle.elf_reports.specs.Below.{registers_read, RunOptions, StartFault, Stop}
use Rattle.elf_reports.specs.Explained.{ExplainsFunction, once, SaysRegisters, Stands}
use Rattle.elf_reports.proofs.Standing.{origins_stand}

-- a run that may differ does not end otherwise
not_same : (program : MachineProgram) (steps : ℕ) (k : KnownState) (seen shown : List Observation)
    (ending : RunEnding) (address entry pc : ℕ) (stop : Stop) → CertifiedRun program steps k seen ending
    → certificate_at address (end_of seen ending) ≡ MayDiffer entry pc → CertifiedRun program steps k shown (same stop)
    → ⊥
not_same program steps k seen shown (same other) address entry pc stop run is again = cc
not_same program steps k seen shown (may_differ at) address entry pc stop run is again =
    let e = (one_end run again).1 in
    cc

module _ (program : Executable) (asked : Asked) (options : RunOptions) where
  other_end_by : (answer : Result FunctionCertificate StartFault) (entry pc : ℕ) (shown : List Observation) (stop : Stop)
      → CertifiedFunction program asked options answer → answer ≡ Ok (MayDiffer entry pc)
      → CertifiedRun (machine_program program asked options.profile) options.steps
      (known_at_start program asked options.shifts) shown (same stop) → ⊥
  other_end_by answer entry pc shown stop (refused told) is again = cc
  other_end_by answer entry pc shown stop (certified {certificate} met run) is again =
      let differs : certificate ≡ MayDiffer entry pc = cc in
      not_same (machine_program program asked options.profile) options.steps
      (known_at_start program asked options.shifts) run.seen shown run.ending run.address entry pc stop run.run
      (sym run.certificate_is ∙ differs) again

  -- the program, the steps and what is known, as they were loaded
  module _ (machine : MachineProgram) (budget : ℕ) (k : KnownState)
      (machine_is : machine ≡ machine_program program asked options.profile) (budget_is : budget ≡ options.steps)
      (known_is : k ≡ known_at_start program asked options.shifts) where
    pub no_other_end : (entry pc : ℕ) (shown : List Observation) (stop : Stop)
        → CertifiedFunction program asked options (Ok (MayDiffer entry pc))
        → CertifiedRun machine budget k shown (same stop) → ⊥
    no_other_end entry pc shown stop answer again =
        other_end_by (Ok (MayDiffer entry pc)) entry pc shown stop answer refl
        (rw (machine_is, budget_is, known_is) at again)

    comes_there : (i : Instr) (masks : ℕ → ℕ) (origins : ℕ → Origin) → ComesToDiffer machine k i masks origins
        → ComesToDiffer (machine_program program asked options.profile) (known_at_start program asked options.shifts) i
        masks origins
    comes_there i masks origins comes =
        subst (λ (p : MachineProgram). ComesToDiffer p (known_at_start program asked options.shifts) i masks origins)
        machine_is (subst (λ (k : KnownState). ComesToDiffer machine k i masks origins) known_is comes)

    pub loads_stand : (i : Instr) (masks : ℕ → ℕ) (origins : ℕ → Origin) → ComesToDiffer machine k i masks origins
        → (r : ℕ) → Stands program (origins r)
    loads_stand i masks origins comes =
        origins_stand program asked options.profile (comes_there i masks origins comes)

    pub explained : (i : Instr) (masks : ℕ → ℕ) (origins : ℕ → Origin) (text : List ℕ)
        → ComesToDiffer machine k i masks origins
        → SaysRegisters program asked masks origins (once (registers_read i)) text
        → ExplainsFunction program asked options text
    explained i masks origins text comes printed = record {
      instr = i;
      masks = masks;
      origins = origins;
      comes = comes_there i masks origins comes;
      printed = printed;
    }
