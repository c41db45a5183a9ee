-- What a certificate says of the runs that begin as is asked.
use Rattle.std.proofs.Common.{◌≡◌, ◌≢◌, ◌∙◌, ◌++◌, ◌∷◌, [], ◌+◌, ℕ, List, ap, ap₂, length, length-append, Ok, Err, refl}
use Rattle.std.proofs.Common.{Result, subst, sym, take, eq-eqb, inl, inr, ne_eqb, None}
use Rattle.std.proofs.lemmas.Bool.{cases_eq}
use Rattle.std.proofs.Math.Seq.{take-append-add}
use Rattle.std.proofs.lemmas.Option.{none-some, same_Some}
use Rattle.elf_runs.specs.Below.{AccessFault, AreApart, CertifiedEnd, CertifiedRun, Covers, end_of, entries_of, Entry}
use Rattle.elf_runs.specs.Below.{Executable, KnownState, MachineProgram, Observation, program_counter, ProgramHalts}
use Rattle.elf_runs.specs.Below.{ProgramRuns, RecorderRefused, RunEnding, ShiftsBy, State, Stop}
use Rattle.elf_memory.specs.declared.asked.Asked.{Asked}
use Rattle.elf_runs.specs.Needs.{first_unmet, IsTold, needs}
use Rattle.elf_memory.specs.Arguments.{return_address}
use Rattle.elf_runs.specs.declared.fault.StartFault.{StartFault}
use Rattle.certified_runs.specs.Certified.{may_differ, same}
use Rattle.certified_runs.specs.declared.certifying.CertifiedEnd.TheVariants as ends
use Rattle.certified_runs.specs.declared.shifts.Shifts.TheVariants.{Seen}
use Rattle.elf_runs.specs.declared.fault.StartFault.TheVariants.{Memory, Refused}
use Rattle.rv_machine.specs.declared.stops.Stop.TheVariants as stops
use Rattle.rv_programs.specs.Runs.{cut_short, halted, spent}
use Rattle.elf_runs.specs.Certified as answers
use Rattle.elf_runs.specs.Certified.{by_a_step, certificate_at, certified, CertifiedFunction, EndsAt}
use Rattle.elf_memory.specs.Stops.{function_stop}
use Rattle.elf_runs.specs.Certified.{IsCertificate, refused}
use Rattle.elf_runs.specs.Loading.{known_at_start, machine_program}
use Rattle.elf_runs.specs.Promised.{AllBegin, AllShiftBy, AllShow, StopsSo}
use Rattle.elf_runs.specs.declared.certifying.FunctionCertificate.{FunctionCertificate}
use Rattle.elf_runs.specs.declared.certifying.FunctionCertificate.TheVariants.{MayDiffer, Same}
use Rattle.elf_runs.specs.declared.options.RunOptions.{RunOptions}
use Rattle.elf_memory.specs.declared.stops.FunctionStop.{FunctionStop}
use Rattle.elf_memory.specs.declared.stops.FunctionStop.TheVariants.{Returned, Stopped}
use Rattle.elf_runs.proofs.Below.{entries_in_common, every_run, Halts-determined, itself, one_end, shifts_agree}
use Rattle.elf_runs.proofs.Below.{some_amounts, stops_there}
use Rattle.elf_runs.proofs.Outside.{none_outside}

-- The certified run that a certificate is of.

abbrev IsSame : MachineProgram → ℕ → KnownState → FunctionStop → ℕ → Type 0
IsSame program steps k stop entries =
    (seen : List Observation) × (how : Stop) × (address : ℕ) × CertifiedRun program steps k seen (same how)
    × EndsAt program k (ends.Same how (length (entries_of seen))) address × (stop ≡ function_stop how address)
    × (length (entries_of seen) ≡ entries)

same_of : (program : MachineProgram) (steps : ℕ) (k : KnownState) (stop : FunctionStop) (entries : ℕ)
    (seen : List Observation) (ending : RunEnding) (address : ℕ) → CertifiedRun program steps k seen ending
    → EndsAt program k (end_of seen ending) address → Same stop entries ≡ certificate_at address (end_of seen ending)
    → IsSame program steps k stop entries
same_of program steps k stop entries seen (same how) address run end is =
    let which : stop ≡ function_stop how address = cc in
    let count : length (entries_of seen) ≡ entries = cc in
    (seen, how, address, run, end, which, count)
same_of program steps k stop entries seen (may_differ pc) address run end is = cc

abbrev IsCutAt : MachineProgram → ℕ → KnownState → ℕ → ℕ → Type 0
IsCutAt program steps k entry pc =
    (seen : List Observation) × CertifiedRun program steps k seen (may_differ pc)
    × (length (entries_of seen) + 1 ≡ entry)

cut_of : (program : MachineProgram) (steps : ℕ) (k : KnownState) (entry pc : ℕ) (seen : List Observation)
    (ending : RunEnding) (address : ℕ) → CertifiedRun program steps k seen ending
    → MayDiffer entry pc ≡ certificate_at address (end_of seen ending) → IsCutAt program steps k entry pc
cut_of program steps k entry pc seen (same how) address run is = cc
cut_of program steps k entry pc seen (may_differ at) address run is =
    let place : at ≡ pc = cc in
    let count : length (entries_of seen) + 1 ≡ entry = cc in
    (seen, subst (λ x. CertifiedRun program steps k seen (may_differ x)) place run, count)

-- an answer that is a certificate is that of the run, and the request is met
abbrev IsMet : Executable → Asked → RunOptions → FunctionCertificate → Type 0
IsMet program asked options certificate =
    (first_unmet (needs program asked) ≡ None)
    × IsCertificate (machine_program program asked options.profile) options.steps
    (known_at_start program asked options.shifts) certificate

met_of : (program : Executable) (asked : Asked) (options : RunOptions) (answer : Result FunctionCertificate StartFault)
    (certificate : FunctionCertificate) → CertifiedFunction program asked options answer → answer ≡ Ok certificate
    → IsMet program asked options certificate
met_of program asked options answer certificate (refused told) is = cc
met_of program asked options answer certificate (certified {certificate = other} met run) is =
    let one : other ≡ certificate = cc in (
      met,
      subst (λ (c : FunctionCertificate). IsCertificate (machine_program program asked options.profile)
          options.steps (known_at_start program asked options.shifts) c) one run,
    )

-- Where runs stop by an access fault.

abbrev StopsThere : MachineProgram → State → ℕ → Type 0
StopsThere program s address =
    (m : ℕ) × (list : List Observation) × (t : State) × ProgramHalts program m s list AccessFault t × (t.pc ≡ address)

stop_there : (program : MachineProgram) (k : KnownState) (s : State) (end : CertifiedEnd) (entries address : ℕ)
    → end ≡ ends.Same AccessFault entries → Covers k s → EndsAt program k end address → StopsThere program s address
stop_there program k s end entries address is covers (by_a_step {s = u} (n, seen, now, run, at, how)) =
    let step = rw is at how in
    let there = stops_there run step.1 covers in
    (n + 1, seen ++ step.0, there.0, there.1, there.2 ∙ ap (λ (w : State). w.pc) at)
stop_there program k s end entries address is covers answers.spent = cc

stopped_there : {program : MachineProgram} {steps : ℕ} {s end : State} {shown : List Observation} {stop : Stop}
    (address : ℕ) → ProgramRuns program steps s shown stop end → stop ≡ AccessFault → StopsThere program s address
    → end.pc ≡ address
stopped_there address (halted le halting) is (m, list, u, other, there) =
    let both = Halts-determined halting other in
    ap (λ (w : State). w.pc) both.3 ∙ there
stopped_there address (cut_short lt leads step shows) is there = cc
stopped_there address (spent leads) is there = cc

-- How runs stop.

is_return : (how : Stop) (address : ℕ) → function_stop how address ≡ Returned
    → (how ≡ AccessFault) × (address ≡ return_address)
is_return stops.AccessFault address is = elim (cases_eq address return_address) [
  | inl there ↦ (refl, there)
  | inr elsewhere ↦ let not_there = rw (ne_eqb address return_address elsewhere) at is in cc
]
is_return stops.Ecall address is = cc
is_return stops.Break address is = cc
is_return stops.Illegal address is = cc
is_return stops.Misaligned address is = cc
is_return stops.Budget address is = cc
is_return stops.RecorderRefused address is = cc

is_stop : (how which : Stop) (address : ℕ) → function_stop how address ≡ Stopped which → how ≡ which
is_stop stops.AccessFault which address is = elim (cases_eq address return_address) [
  | inl there ↦ let returned = rw (eq-eqb address return_address there) at is in cc
  | inr elsewhere ↦ let not_there = rw (ne_eqb address return_address elsewhere) at is in cc
]
is_stop stops.Ecall which address is = cc
is_stop stops.Break which address is = cc
is_stop stops.Illegal which address is = cc
is_stop stops.Misaligned which address is = cc
is_stop stops.Budget which address is = cc
is_stop stops.RecorderRefused which address is = cc

so_stopped : (program : Executable) (asked : Asked) (options : RunOptions) (k : KnownState) (s end : State)
    (shown seen : List Observation) (how other : Stop) (address : ℕ) (stop : FunctionStop)
    → AreApart [] program.segments → first_unmet (needs program asked) ≡ None → Covers k s
    → EndsAt (machine_program program asked options.profile) k (ends.Same how (length (entries_of seen))) address
    → ProgramRuns (machine_program program asked options.profile) options.steps s shown other end → other ≡ how
    → function_stop how address ≡ stop
    → StopsSo (machine_program program asked options.profile) stop other end
so_stopped program asked options k s end shown seen how other address Returned apart met covers ends_at ran same_stop is =
    let p = machine_program program asked options.profile in
    let return = is_return how address is in
    let fault : other ≡ AccessFault = same_stop ∙ return.0 in
    let there = stop_there p k s (ends.Same how (length (entries_of seen))) (length (entries_of seen)) address
    (ap (λ (h : Stop). ends.Same h (length (entries_of seen))) return.0) covers ends_at in
    record {
      stopped = fault;
      there = stopped_there address ran fault there ∙ return.1;
      outside = none_outside program asked options.profile apart met;
    }
so_stopped program asked options k s end shown seen how other address (Stopped which) apart met covers ends_at ran same_stop is =
    same_stop ∙ is_stop how which address is

-- The promises.

pub all_show : (program : Executable) (asked : Asked) (options : RunOptions) (stop : FunctionStop) (entries : ℕ)
    → AreApart [] program.segments → CertifiedFunction program asked options (Ok (Same stop entries))
    → (seen : List Observation) × (length (entries_of seen) ≡ entries) × AllShow program asked options seen stop
all_show program asked options stop entries apart is =
    let p = machine_program program asked options.profile in
    let k = known_at_start program asked options.shifts in
    let both = met_of program asked options (Ok (Same stop entries)) (Same stop entries) is refl in
    let c = both.1 in
    let run = same_of p options.steps k stop entries c.seen c.ending c.address c.run c.end c.certificate_is in (
      run.0,
      run.6,
      λ s end shown other covers ran.
          let one = every_run run.3 covers ran.0 ran.1 in (
            one.0,
            so_stopped program asked options k s end shown run.0 run.1 other run.2 stop apart both.0 covers run.4
                ran.0 one.1 (sym run.5),
          ),
    )

pub all_shift : (program : Executable) (asked : Asked) (options : RunOptions) (stop : FunctionStop) (entries : ℕ)
    → CertifiedFunction program asked options (Ok (Same stop entries)) → options.shifts ≡ Seen
    → (amounts : List ℕ) × AllShiftBy program asked options amounts
all_shift program asked options stop entries is seen =
    let p = machine_program program asked options.profile in
    let k = known_at_start program asked options.shifts in
    let c = (met_of program asked options (Ok (Same stop entries)) (Same stop entries) is refl).1 in
    let run = same_of p options.steps k stop entries c.seen c.ending c.address c.run c.end c.certificate_is in
    let list = some_amounts p options.steps k.state in (
      list.0,
      λ s covers.
          let own = some_amounts p options.steps s in
          let one = shifts_agree run.3 seen covers (itself k) own.1 list.1 in
          subst (λ amounts. ShiftsBy p options.steps s amounts) one own.1,
    )

-- what begins with some entries, and then one
first_with : (all before rest : List Entry) (one : Entry) → all ≡ before ++ one ∷ rest
    → take (length (before ++ one ∷ [])) all ≡ before ++ one ∷ []
first_with all before rest one is =
    ap (λ n. take n all) (length-append before (one ∷ []))
    ∙ ap (take (length before + 1)) is
    ∙ take-append-add before (one ∷ rest) 1

pub all_begin : (program : Executable) (asked : Asked) (options : RunOptions) (entry pc : ℕ)
    → CertifiedFunction program asked options (Ok (MayDiffer entry pc))
    → (before : List Entry) × (length before + 1 ≡ entry)
    × AllBegin program asked options (before ++ program_counter pc ∷ [])
all_begin program asked options entry pc is =
    let p = machine_program program asked options.profile in
    let k = known_at_start program asked options.shifts in
    let c = (met_of program asked options (Ok (MayDiffer entry pc)) (MayDiffer entry pc) is refl).1 in
    let run = cut_of p options.steps k entry pc c.seen c.ending c.address c.run c.certificate_is in
    let before = entries_of run.0 in (
      before,
      run.2,
      λ s end shown stop covers ran.
          let common = entries_in_common run.1 covers ran.0 ran.1 in
          first_with (entries_of shown) before common.0 (program_counter pc) common.1,
    )

-- Two answers.

one_place : (program : MachineProgram) (k : KnownState) (end : CertifiedEnd) (a b : ℕ) → EndsAt program k end a
    → EndsAt program k end b → certificate_at a end ≡ certificate_at b end
one_place program k (ends.MayDiffer entry pc) a b one other = refl
one_place program k (ends.Same stops.AccessFault entries) a b one other =
    let end = ends.Same AccessFault entries in
    let first = stop_there program k k.state end entries a refl (itself k) one in
    let second = stop_there program k k.state end entries b refl (itself k) other in
    let both = Halts-determined first.3 second.3 in
    ap (λ x. certificate_at x end) (sym first.4 ∙ ap (λ (w : State). w.pc) both.3 ∙ second.4)
one_place program k (ends.Same stops.Ecall entries) a b one other = refl
one_place program k (ends.Same stops.Break entries) a b one other = refl
one_place program k (ends.Same stops.Illegal entries) a b one other = refl
one_place program k (ends.Same stops.Misaligned entries) a b one other = refl
one_place program k (ends.Same stops.Budget entries) a b one other = refl
one_place program k (ends.Same stops.RecorderRefused entries) a b one other = refl

one_certificate : (program : MachineProgram) (steps : ℕ) (k : KnownState) (a b : FunctionCertificate)
    → IsCertificate program steps k a → IsCertificate program steps k b → a ≡ b
one_certificate program steps k a b one other =
    let both = one_end one.run other.run in
    let end = ap₂ (λ (seen : List Observation) (ending : RunEnding). end_of seen ending) both.0 both.1 in
    let moved = subst (λ (e : CertifiedEnd). EndsAt program k e one.address) end one.end in
    one.certificate_is
    ∙ ap (certificate_at one.address) end
    ∙ one_place program k (end_of other.seen other.ending) one.address other.address moved other.end
    ∙ sym other.certificate_is

told_once : (program : Executable) (asked : Asked) (a b : StartFault) → IsTold a (needs program asked)
    → IsTold b (needs program asked) → a ≢ Memory → b ≢ Memory → a ≡ b
told_once program asked (Refused one) (Refused other) told too m m' =
    ap Refused (same_Some one other (sym told ∙ too))
told_once program asked Memory b told too m m' = absurd (m refl)
told_once program asked (Refused one) Memory told too m m' = absurd (m' refl)

not_both : (program : Executable) (asked : Asked) (fault : StartFault) → first_unmet (needs program asked) ≡ None
    → IsTold fault (needs program asked) → fault ≡ Memory
not_both program asked (Refused unmet) met told = absurd (none-some _ (sym met ∙ told))
not_both program asked Memory met told = refl

pub one_answer : (program : Executable) (asked : Asked) (options : RunOptions)
    (a b : Result FunctionCertificate StartFault) → CertifiedFunction program asked options a
    → CertifiedFunction program asked options b → a ≢ Err Memory → b ≢ Err Memory → a ≡ b
one_answer program asked options a b (refused {fault = f} told) (refused {fault = g} too) m m' =
    ap Err (told_once program asked f g told too (λ e. m (ap Err e)) (λ e. m' (ap Err e)))
one_answer program asked options a b (refused {fault = f} told) (certified met run) m m' =
    absurd (m (ap Err (not_both program asked f met told)))
one_answer program asked options a b (certified met run) (refused {fault = f} told) m m' =
    absurd (m' (ap Err (not_both program asked f met told)))
one_answer program asked options a b (certified {certificate = c} met run) (certified {certificate = d} met' run') m m' =
    ap Ok (one_certificate (machine_program program asked options.profile) options.steps
    (known_at_start program asked options.shifts) c d run run')
