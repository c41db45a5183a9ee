-- Where a certified run ends.
use Rattle.std.proofs.Common.{◌≡◌, ◌<◌, ◌∙◌, ℕ, List, ap, arith, Err, inl, inr, None, Ok, Result, subst, sym}
use Rattle.std.proofs.lemmas.Bool.{cases_lt}
use Rattle.elf_runs.specs.Below.{Budget, CertifiedEnd, CertifiedRun, ComesTo, end_of, Executable, KnownState}
use Rattle.elf_runs.specs.Below.{MachineProgram, Observation, RunEnding, State}
use Rattle.elf_memory.specs.declared.asked.Asked.{Asked}
use Rattle.elf_runs.specs.Needs.{first_unmet, IsTold, needs}
use Rattle.elf_runs.specs.declared.fault.StartFault.{StartFault}
use Rattle.certified_runs.specs.declared.certifying.CertifiedEnd.TheVariants as ends
use Rattle.elf_runs.specs.Certified as certified
use Rattle.elf_runs.specs.Certified.{by_a_step, certificate_at, CertifiedFunction, EndsAt, IsCertificate}
use Rattle.elf_runs.specs.Loading.{known_at_start, machine_program}
use Rattle.elf_runs.specs.declared.options.RunOptions.{RunOptions}
use Rattle.elf_runs.specs.declared.certifying.FunctionCertificate.{FunctionCertificate}

-- the certificate of a run whose last step, where one is left, is at this state
abbrev IsOf : MachineProgram → ℕ → KnownState → CertifiedEnd → Type 0
IsOf program steps k end =
    (seen : List Observation) × (ending : RunEnding) × CertifiedRun program steps k seen ending
    × (end ≡ end_of seen ending)

-- its steps are spent
abbrev IsSpent : CertifiedEnd → Type 0
IsSpent end = (entries : ℕ) × (end ≡ ends.Same Budget entries)

certificate_of : (program : MachineProgram) (steps left : ℕ) (k : KnownState) (s : State) (end : CertifiedEnd)
    (certificate : FunctionCertificate) → IsOf program steps k end → (left ≡ 0 → IsSpent end)
    → (0 < left → ComesTo program k s end) → certificate ≡ certificate_at s.pc end
    → IsCertificate program steps k certificate
certificate_of program steps left k s end certificate (seen, ending, run, is) used stopped given =
    elim (cases_lt 0 left) [
      | inl some ↦ record {
        seen = seen;
        ending = ending;
        address = s.pc;
        run = run;
        end = by_a_step {s = s} (rw is at (stopped some));
        certificate_is = given ∙ ap (certificate_at s.pc) is;
      }
      | inr none ↦
          let over = used (omega (arith, none)) in
          record {
            seen = seen;
            ending = ending;
            address = s.pc;
            run = run;
            end = subst (λ (e : CertifiedEnd). EndsAt program k e s.pc) (sym over.1 ∙ is)
                (certified.spent {entries = over.0});
            certificate_is = given ∙ ap (certificate_at s.pc) is;
          }
    ]

pub answered : (program : Executable) (asked : Asked) (options : RunOptions) (p : MachineProgram) (k : KnownState)
    (steps left : ℕ) (s : State) (end : CertifiedEnd) (certificate : FunctionCertificate)
    → p ≡ machine_program program asked options.profile → k ≡ known_at_start program asked options.shifts
    → steps ≡ options.steps → first_unmet (needs program asked) ≡ None → IsOf p steps k end
    → (left ≡ 0 → IsSpent end) → (0 < left → ComesTo p k s end)
    → certificate ≡ certificate_at s.pc end → CertifiedFunction program asked options (Ok certificate)
answered program asked options p k steps left s end certificate is_program is_known is_steps met run used stopped given =
    let whole = certificate_of p steps left k s end certificate run used stopped given in
    certified.certified met
    (subst (λ (q : MachineProgram). IsCertificate q options.steps (known_at_start program asked options.shifts) certificate)
    is_program
    (subst (λ (j : KnownState). IsCertificate p options.steps j certificate) is_known
    (subst (λ n. IsCertificate p n k certificate) is_steps whole)))

-- what is refused is answered by a fault
pub refused_so : (program : Executable) (asked : Asked) (options : RunOptions) (fault : StartFault)
    (answer : Result FunctionCertificate StartFault) → answer ≡ Err fault → IsTold fault (needs program asked)
    → CertifiedFunction program asked options answer
refused_so program asked options fault answer is told =
    subst (λ (a : Result FunctionCertificate StartFault). CertifiedFunction program asked options a) (sym is)
    (certified.refused told)
