-- What is answered where a run of a function is to be certified for all that is not known when it begins.
use Rattle.std.specs.Prelude.{◌≡◌, ℕ, List, None, Result, Ok, Err}
use Rattle.elf_runs.specs.Below.{Budget, CertifiedEnd, CertifiedRun, ComesTo, end_of, Executable, KnownState}
use Rattle.elf_runs.specs.Below.{MachineProgram, Observation, RunEnding, State}
use Rattle.elf_memory.specs.declared.asked.Asked.{Asked}
use Rattle.elf_runs.specs.Needs.{first_unmet, IsTold, needs}
use Rattle.elf_runs.specs.declared.fault.StartFault.{StartFault}
use Rattle.certified_runs.specs.declared.certifying.CertifiedEnd.TheVariants as ends
use Rattle.elf_runs.specs.Loading.{known_at_start, machine_program}
use Rattle.elf_memory.specs.Stops.{function_stop}
use Rattle.elf_runs.specs.declared.options.RunOptions.{RunOptions}
use Rattle.elf_runs.specs.declared.certifying.FunctionCertificate.{FunctionCertificate}
use Rattle.elf_runs.specs.declared.certifying.FunctionCertificate.TheVariants.{MayDiffer, Same}

-- the certificate of a run that ends so, at this address
abbrev pub certificate_at : ℕ → CertifiedEnd → FunctionCertificate
certificate_at address (ends.Same stop entries) = Same (function_stop stop address) entries
certificate_at address (ends.MayDiffer entry pc) = MayDiffer entry pc

-- a run of which this is known ends so, at this address: the next step from there ends it, or its steps are spent
pub data EndsAt (program : MachineProgram) (k : KnownState) : CertifiedEnd → ℕ → Type 0 where
  by_a_step : {end : CertifiedEnd} {s : State} → ComesTo program k s end → EndsAt program k end s.pc
  spent : {entries address : ℕ} → EndsAt program k (ends.Same Budget entries) address

-- the certificate of a run of which this is known, of at most so many steps
pub record IsCertificate (program : MachineProgram) (steps : ℕ) (k : KnownState) (certificate : FunctionCertificate)
    : Type 0 where
  pub seen : List Observation
  pub ending : RunEnding
  pub address : ℕ
  pub run : CertifiedRun program steps k seen ending
  pub end : EndsAt program k (end_of seen ending) address
  pub certificate_is : certificate ≡ certificate_at address (end_of seen ending)

-- what is answered: the request is refused by what it does not meet first; else it is the certificate of the function's
-- run, from what is known when it begins
pub data CertifiedFunction (program : Executable) (asked : Asked) (options : RunOptions)
    : Result FunctionCertificate StartFault → Type 0 where
  refused : {fault : StartFault} → IsTold fault (needs program asked)
      → CertifiedFunction program asked options (Err fault)
  certified : {certificate : FunctionCertificate} → first_unmet (needs program asked) ≡ None
      → IsCertificate (machine_program program asked options.profile) options.steps
      (known_at_start program asked options.shifts) certificate
      → CertifiedFunction program asked options (Ok certificate)
