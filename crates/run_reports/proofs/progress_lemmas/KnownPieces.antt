-- A certified run in pieces: steps that lead on, and then a run.
use Rattle.std.proofs.Common.{◌≡◌, ℕ, zero, suc, ◌+◌, ◌*◌, ◌≤◌, ◌<◌, ◌⊎◌, List, [], ◌∷◌, ◌++◌, length, suc-add}
use Rattle.std.proofs.Common.{zero-add, inl, inr, ap, arith}
use Rattle.certified_runs.proofs.KnownSteps.{few_entries}
use Rattle.certified_runs.proofs.OneEnd.{KnownStep-determined}
use Rattle.run_reports.specs.Below.{CertifiedEnd, CertifiedRun, ComesTo, cut, end_of, EndsSo, entries_of, KnownState}
use Rattle.run_reports.specs.Below.{KnownLeads, leads, MachineProgram, may_differ, MayDiffer, Observation, RunEnding}
use Rattle.run_reports.specs.Below.{Same, same, State}
use Rattle.certified_runs.specs.Certified.{spent, halts, steps_on, stays}
use Rattle.run_reports.specs.progress.Certified.{GoesOnKnown, entries_at, end_behind}
use Rattle.run_reports.specs.progress.GoingOn.{HasLines}
use Rattle.run_reports.specs.progress.Lines.{steps_a_line}
use Rattle.rv_machine.proofs.Face.{count-few, entry_count-append}

-- steps that lead on, and then others
pub leads_append : {program : MachineProgram} {m n : ℕ} {k now later : KnownState} {seen more : List Observation}
    → KnownLeads program m k seen now → KnownLeads program n now more later → KnownLeads program (m + n) k (seen ++ more) later
leads_append stays then = rw zero-add then
leads_append (leads first rest) then = rw suc-add (leads first (leads_append rest then))

-- of steps that lead on, those behind some
pub leads_rest : {program : MachineProgram} {m n all : ℕ} {k now later : KnownState} {seen others : List Observation}
    → KnownLeads program m k seen now → KnownLeads program all k others later → all ≡ m + n
    → (rest : List Observation) × KnownLeads program n now rest later
leads_rest {n = n} {all = all} {others = others} stays then is =
    let e : all ≡ n = omega (arith, is) in
    (others, rw e at then)
leads_rest (leads first rest) stays is = absurd (omega (arith, is))
leads_rest (leads {next = next} first rest) (leads {next = next'} other then) is =
    let e = KnownStep-determined first other in
    let same : next' ≡ next = cc in
    leads_rest rest (rw same at then) (omega (arith, is))

-- a run that ends within some steps ends so within more
pub stretched : {program : MachineProgram} {m n : ℕ} {k : KnownState} {seen : List Observation} {ending : RunEnding}
    → CertifiedRun program m k seen ending
    → ((others : List Observation) (later : KnownState) → KnownLeads program m k others later → ⊥) → m ≤ n
    → CertifiedRun program n k seen ending
stretched spent short within = absurd (short [] _ stays)
stretched {n = suc n} (halts step) short within = halts step
stretched {n = suc n} (cut step) short within = cut step
stretched {n = suc n} (steps_on {o = o} step rest) short within =
    steps_on step
    (stretched rest (λ others later all. short (o ∷ others) later (leads step all)) (omega (arith, within)))
stretched {n = zero} (halts step) short within = absurd (omega (arith, within))
stretched {n = zero} (cut step) short within = absurd (omega (arith, within))
stretched {n = zero} (steps_on step rest) short within = absurd (omega (arith, within))

-- a step shows two entries at most
pub few_of_run : {program : MachineProgram} {n : ℕ} {k : KnownState} {seen : List Observation} {ending : RunEnding}
    → CertifiedRun program n k seen ending → length (entries_of seen) ≤ 2 * n
few_of_run spent = omega arith
few_of_run {n = suc n} (halts step) = omega (arith, few_entries step)
few_of_run (cut step) = omega arith
few_of_run {n = suc n} (steps_on {o = o} {seen = seen} step rest) =
    omega (arith, entry_count-append (o ∷ []) seen, count-few o, few_of_run rest)

pub few_of_leads : {program : MachineProgram} {n : ℕ} {k later : KnownState} {seen : List Observation}
    → KnownLeads program n k seen later → length (entries_of seen) ≤ 2 * n
few_of_leads stays = omega arith
few_of_leads {n = suc n} (leads {o = o} {seen = seen} step rest) =
    omega (arith, entry_count-append (o ∷ []) seen, count-few o, few_of_leads rest)

at_end : (seen : List Observation) (ending : RunEnding)
    → entries_at (end_of seen ending) ≤ length (entries_of seen) + 1
at_end seen (same stop) = omega arith
at_end seen (may_differ pc) = omega arith

pub few_at_end : {program : MachineProgram} {n : ℕ} {k : KnownState} {seen : List Observation} {ending : RunEnding}
    (end : CertifiedEnd) → CertifiedRun program n k seen ending → end ≡ end_of seen ending → entries_at end ≤ 2 * n + 1
few_at_end {seen = seen} {ending = ending} end run is =
    omega (arith, few_of_run run, ap entries_at is, at_end seen ending)

-- an end behind entries that were shown before
pub end_of_both : (seen more : List Observation) (ending : RunEnding) (before : ℕ) → length (entries_of seen) ≡ before
    → end_behind before (end_of more ending) ≡ end_of (seen ++ more) ending
end_of_both seen more (same stop) before is =
    ap (Same stop) (omega (arith, entry_count-append seen more, is))
end_of_both seen more (may_differ pc) before is =
    ap (λ entry. MayDiffer entry pc) (omega (arith, entry_count-append seen more, is))

-- so many pieces were made, and the run does not go on after one more
pub lines_of_known : {program : MachineProgram} {budget left count : ℕ} {k now : KnownState}
    → (seen : List Observation) × KnownLeads program (count * steps_a_line) k seen now
    → count * steps_a_line + left ≡ budget → (count ≡ 0) ⊎ (0 < left)
    → ((seen : List Observation) (later : KnownState) → KnownLeads program steps_a_line now seen later → ⊥)
    → HasLines (GoesOnKnown program budget k) count
lines_of_known {now = now} led made more over = record {
  reached = elim more [ inl none ↦ inl none | inr some ↦ inr (omega (arith, made, some), (led.0, now, led.1)) ];
  no_more = λ on.
      let rest = leads_rest led.1 on.1.2 (omega arith) in
      over rest.0 on.1.1 rest.1;
}

-- and at most one more may be
pub lines_of_known_at_end : {program : MachineProgram} {budget left count : ℕ} {k now : KnownState}
    → (seen : List Observation) × KnownLeads program (count * steps_a_line) k seen now
    → count * steps_a_line + left ≡ budget → (count ≡ 0) ⊎ (0 < left) → left ≤ steps_a_line
    → HasLines (GoesOnKnown program budget k) count
lines_of_known_at_end {now = now} led made more last = record {
  reached = elim more [ inl none ↦ inl none | inr some ↦ inr (omega (arith, made, some), (led.0, now, led.1)) ];
  no_more = λ on. omega (arith, made, last, on.0);
}

-- a run that comes to its end behind steps that lead on
ends_behind : (program : MachineProgram) (k : KnownState) (before : ℕ) (answer : CertifiedEnd)
    → EndsSo program k answer → EndsSo program k (end_behind before answer)
ends_behind program k before (Same stop entries) ends = ends
ends_behind program k before (MayDiffer entry pc) ends = ends

pub comes_after : {program : MachineProgram} {m : ℕ} {k now : KnownState} {end : State} {seen : List Observation}
    (before : ℕ) (answer : CertifiedEnd)
    → KnownLeads program m k seen now → ComesTo program now end answer
    → ComesTo program k end (end_behind before answer)
comes_after {program} {m = m} {seen = seen} before answer led come =
    (m + come.0, seen ++ come.1, come.2, leads_append led come.3, come.4, ends_behind program come.2 before answer come.5)
