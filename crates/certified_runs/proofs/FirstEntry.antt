-- The step that may differ shows its program counter first, whatever is unknown.
use Rattle.std.proofs.Common.{◌≡◌, ◌≢◌, ℕ, suc, Bool, true, false, cond, List, [], ◌∷◌, ◌++◌, None, refl, ap, ◌∙◌, subst}
use Rattle.certified_runs.specs.Below.{AccessFault, alignment_of, allows_shown, effect_of, entries_of, Entry}
use Rattle.certified_runs.specs.Below.{events_of, goes_on, profile_of}
use Rattle.certified_runs.specs.Below.{guarded, here, MachineProgram, Observation, observed, program_counter}
use Rattle.certified_runs.specs.Below.{ProgramRuns, ProgramStep, RecorderRefused, State, StepEnding, Stop, stops}
use Rattle.certified_runs.proofs.Below.{ending_own, entries_of-append, goes_own, IsOwn, run_of_state, Runs-determined}
use Rattle.certified_runs.proofs.Below.{Runs-more, Runs-stop, stops_own}
use Rattle.certified_runs.specs.Known.{KnownState, Covers}
use Rattle.certified_runs.specs.Certified.{undecided, may_differ, CertifiedRun, cut, steps_on}
use Rattle.certified_runs.proofs.Runs.{step_at, leads_kept}

-- a run that shows this list, and then an observation with this program counter
abbrev pub RunsPast : MachineProgram → ℕ → State → List Observation → ℕ → Type 0
RunsPast program budget s seen pc =
    (o : Observation) × (rest : List Observation) × (stop : Stop) × (t : State) × (o.pc ≡ pc)
    × ProgramRuns program budget s (seen ++ o ∷ rest) stop t × (stop ≢ RecorderRefused)

begins_run : {program : MachineProgram} {s : State} {ending : StepEnding} (n : ℕ) → ProgramStep program s ending → IsOwn s ending
    → RunsPast program (suc n) s [] s.pc
begins_run {program} {s} n step (goes_own {shown = shown} {t = t}) =
    let rest = run_of_state program n t in
    (observed s shown, rest.0, rest.1, rest.2, refl, Runs-more step rest.3, rest.4)
begins_run {s = s} n step (stops_own {stop = stop} calm more) =
    (observed s None, [], stop, s, refl, Runs-stop step, calm)

guarded_own : (writable : ℕ → Bool) {s : State} {e : StepEnding} → IsOwn s e → IsOwn s (guarded writable s e)
guarded_own writable {s} (goes_own {shown = shown} {t = t}) = chosen (allows_shown writable shown)
  where
    chosen : (b : Bool) → IsOwn s (cond b (goes_on (observed s shown) t) (stops (here s) AccessFault))
    chosen true = goes_own
    chosen false = stops_own (λ e. cc) (λ e. cc)
guarded_own writable (stops_own calm more) = stops_own calm more

pub runs_past : {program : MachineProgram} {budget : ℕ} {k : KnownState} {s : State} {seen : List Observation} {pc : ℕ}
    → CertifiedRun program budget k seen (may_differ pc) → Covers k s → RunsPast program budget s seen pc
runs_past {program} {s = s} (cut {n = n} {k = k} (undecided i at unknown)) covers =
    subst (RunsPast program (suc n) s []) covers.pc
    (begins_run n (step_at program k s covers i at)
    (guarded_own program.writable (ending_own at.0 (alignment_of (program.code k.state.pc)) (profile_of (program.code k.state.pc))
    (effect_of i s.pc s.regs) s)))
runs_past {program} {s = s} (steps_on {k = k} {next = next} {o = o} step rest) covers =
    let first = leads_kept program k s covers o next step in
    let then = runs_past rest first.2 in
    (then.0, then.1, then.2, then.3, then.4, Runs-more first.1 then.5, then.6)

-- so all such runs have the entries of that list, and then that program counter, in common
pub entries_in_common : {program : MachineProgram} {budget : ℕ} {k : KnownState} {s t : State} {seen shown : List Observation}
    {stop : Stop} {pc : ℕ} → CertifiedRun program budget k seen (may_differ pc) → Covers k s
    → ProgramRuns program budget s shown stop t → stop ≢ RecorderRefused
    → (rest : List Entry) × (entries_of shown ≡ entries_of seen ++ program_counter pc ∷ rest)
entries_in_common {seen = seen} {pc = pc} run covers ran quiet =
    let past = runs_past run covers in
    let both = Runs-determined ran past.5 quiet past.6 in
    let more = events_of past.0.event ++ entries_of past.1 in (
      more,
      ap entries_of both.0 ∙ entries_of-append seen (past.0 ∷ past.1)
          ∙ ap (λ p. entries_of seen ++ program_counter p ∷ more) past.4,
    )
