-- Certified runs in progress: steps that have been made, and how the run ends after them.
use Rattle.std.proofs.Common.{◌≡◌, ℕ, suc, ◌+◌, ◌-◌, ◌<◌, ◌≤◌, List, [], ◌∷◌, ◌++◌, length, zero-add, suc-add, refl}
use Rattle.std.proofs.Common.{sym, ap, arith}
use Rattle.certified_runs.specs.Below.{Budget, entries_of, MachineProgram, Observation, Stop}
use Rattle.certified_runs.proofs.Below.{entry_count-append}
use Rattle.certified_runs.specs.Certified.{KnownStep, leads_on, ends, depends, RunEnding, same, may_differ}
use Rattle.certified_runs.specs.Certified.{CertifiedRun, spent, halts, cut, steps_on, KnownEnding, KnownLeads, stays}
use Rattle.certified_runs.specs.Certified.{leads}
use Rattle.certified_runs.proofs.OneEnd.{KnownStep-determined}
use Rattle.certified_runs.specs.End.{end_of}
use Rattle.certified_runs.specs.Known.{KnownState}
use Rattle.certified_runs.specs.declared.certifying.CertifiedEnd.{CertifiedEnd}
use Rattle.certified_runs.specs.declared.certifying.CertifiedEnd.TheVariants.{Same, MayDiffer}

-- steps that lead on, and then a run
pub run_after : {program : MachineProgram} {m n budget : ℕ} {k now : KnownState} {seen more : List Observation}
    {ending : RunEnding}
    → KnownLeads program m k seen now → CertifiedRun program n now more ending → m + n ≡ budget
    → CertifiedRun program budget k (seen ++ more) ending
run_after stays run all = rw (sym all, zero-add) run
run_after (leads first rest) run all = rw (sym all, suc-add) (steps_on first (run_after rest run refl))

-- how the certified run is answered
abbrev pub IsEnd : MachineProgram → ℕ → KnownState → CertifiedEnd → Type 0
IsEnd program m k answer =
    (seen : List Observation) × (ending : RunEnding) × CertifiedRun program m k seen ending
    × (answer ≡ end_of seen ending)

-- so many steps, of as many as this and those that are left, have shown so many entries
abbrev pub HasMade : MachineProgram → ℕ → KnownState → ℕ → KnownState → ℕ → Type 0
HasMade program m k left now entries =
    (n : ℕ) × (seen : List Observation) × KnownLeads program n k seen now × (n + left ≡ m)
    × (length (entries_of seen) ≡ entries)

pub none_made : (program : MachineProgram) (m : ℕ) (k : KnownState) → HasMade program m k m k 0
none_made program m k = (0, [], stays, omega arith, refl)

module _ {program : MachineProgram} {m : ℕ} {k : KnownState} {left : ℕ} {now : KnownState} {entries : ℕ}
    (made : HasMade program m k left now entries) where
  pub ends_by : {more : List Observation} {stop : Stop} (others : ℕ) → 0 < left → KnownStep program now (ends more stop)
      → length (entries_of more) ≡ others → IsEnd program m k (Same stop (entries + others))
  ends_by {more} {stop} others some step many = (
    made.1 ++ more,
    same stop,
    run_after made.2 (halts {n = left - 1} step) (omega (arith, made.3, some)),
    ap (Same stop) (omega (arith, entry_count-append made.1 more, made.4, many)),
  )

  pub ends_open : 0 < left → KnownStep program now depends → IsEnd program m k (MayDiffer (entries + 1) now.state.pc)
  ends_open some step = (
    made.1 ++ [],
    may_differ now.state.pc,
    run_after made.2 (cut {n = left - 1} step) (omega (arith, made.3, some)),
    ap (λ j. MayDiffer j now.state.pc) (omega (arith, entry_count-append made.1 [], made.4)),
  )

  pub ends_at_last : left ≡ 0 → IsEnd program m k (Same Budget entries)
  ends_at_last none = (
    made.1 ++ [],
    same Budget,
    run_after made.2 spent (omega (arith, made.3, none)),
    ap (Same Budget) (omega (arith, entry_count-append made.1 [], made.4)),
  )

-- one more step
pub KnownLeads-more : {program : MachineProgram} {n : ℕ} {k now next : KnownState} {seen : List Observation} {o : Observation}
    → KnownLeads program n k seen now → KnownStep program now (leads_on o next)
    → KnownLeads program (suc n) k (seen ++ o ∷ []) next
KnownLeads-more stays step = leads step stays
KnownLeads-more (leads first rest) step = leads first (KnownLeads-more rest step)

pub one_more_made : {program : MachineProgram} {m left left' entries : ℕ} {k now next : KnownState} {o : Observation}
    (more : ℕ)
    → HasMade program m k left now entries → suc left' ≡ left → KnownStep program now (leads_on o next)
    → length (entries_of (o ∷ [])) ≡ more → HasMade program m k left' next (entries + more)
one_more_made {entries = entries} {o = o} more made fewer step many = (
  suc made.0,
  made.1 ++ o ∷ [],
  KnownLeads-more made.2 step,
  omega (arith, made.3, fewer),
  omega (arith, entry_count-append made.1 (o ∷ []), made.4, many),
)

-- all of them
pub all_made : {program : MachineProgram} {m left entries : ℕ} {k now : KnownState} → HasMade program m k left now entries
    → left ≡ 0
    → (seen : List Observation) × KnownLeads program m k seen now
    × (Same Budget entries ≡ Same Budget (length (entries_of seen)))
all_made {m = m} made none =
    let all : made.0 ≡ m = omega (arith, made.3, none) in
    (made.1, rw all at made.2, ap (Same Budget) (sym made.4))

-- a step that does not lead on is the last
abbrev IsLast : KnownEnding → Type 0
IsLast (leads_on o next) = ⊥
IsLast (ends seen stop) = Unit {0}
IsLast depends = Unit {0}

no_longer : {program : MachineProgram} {m n : ℕ} {k now later : KnownState} {seen more : List Observation} {e : KnownEnding}
    → KnownLeads program m k seen now → KnownStep program now e → IsLast e → KnownLeads program n k more later → n ≤ m
no_longer first end last stays = omega arith
no_longer stays end last (leads other rest) = absurd (rw (KnownStep-determined end other) at last)
no_longer (leads {next = next} first rest) end last (leads {next = next'} other then) =
    let e = KnownStep-determined first other in
    let same : next' ≡ next = cc in
    omega (arith, no_longer rest end last (rw same at then))

pub not_all : {program : MachineProgram} {m left entries : ℕ} {k now later : KnownState} {seen : List Observation}
    {e : KnownEnding}
    → HasMade program m k left now entries → 0 < left → KnownStep program now e → IsLast e
    → KnownLeads program m k seen later → ⊥
not_all made some end last all = omega (arith, made.3, some, no_longer made.2 end last all)
