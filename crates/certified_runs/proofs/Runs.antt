-- Steps and runs of covered states.
use Rattle.std.proofs.Common.{◌≡◌, ◌≢◌, ℕ, suc, ◌<◌, Bool, true, false, cond, List, ◌++◌, ◌+◌, refl, sym, ap, ◌∙◌, add-one, arith}
use Rattle.certified_runs.specs.Below.{AccessFault, alignment_of, allows_shown, CodeStep, ending_in, executes, goes_on}
use Rattle.certified_runs.specs.Below.{guarded, halts, here, Instr, MachineProgram, no_instruction, not_code}
use Rattle.certified_runs.specs.Below.{Observation, pc_misaligned, profile_of, ProgramHalts, ProgramLeads, ProgramRuns}
use Rattle.certified_runs.specs.Below.{ProgramStep, RecorderRefused, Size, spent, StandsAt, StandsIn, State, stays}
use Rattle.certified_runs.specs.Below.{StepEnding, steps_on, Stop, stops}
use Rattle.certified_runs.proofs.Below.{executed, stands_in_range}
use Rattle.certified_runs.proofs.Below.{Runs-determined, Runs-more, Runs-stop, Step-determined, step_stops, stops_so}
use Rattle.certified_runs.specs.Known.{KnownState, Covers}
use Rattle.certified_runs.specs.Certified as certified
use Rattle.certified_runs.specs.Certified.{is_decided, known_after, KnownLeads, KnownStep, CertifiedRun, decided, leads_on, ends, same}
use Rattle.certified_runs.specs.Certified.{may_differ}
use Rattle.certified_runs.proofs.Covering.{StaysCovered, goes_alike, stops_alike, itself, step_kept}

module _ (program : MachineProgram) (k : KnownState) (s : State) (covers : Covers k s) where
  -- the step of an instruction at the program counter
  step_of : (i : Instr) (length : Size) → StandsIn (program.code k.state.pc) k.state.pc i length
      → ProgramStep program s (guarded program.writable s (ending_in (program.code k.state.pc) i length s))
  step_of i length at =
      let there : StandsIn (program.code s.pc) s.pc i length = rw covers.pc at in
      record {
        unguarded = ending_in (program.code s.pc) i length s;
        step = executes i length there refl;
        end = rw covers.pc refl;
      }

  pub step_at : (i : Instr) (at : StandsAt program k.state.pc i)
      → ProgramStep program s (guarded program.writable s (ending_in (program.code k.state.pc) i at.0 s))
  step_at i at = step_of i at.0 at.1

  -- what is stored to shows, so a store of the one is refused where that of the other is
  guarded_kept : {i : Instr} {e e' : StepEnding} → StaysCovered i k e e'
      → StaysCovered i k (guarded program.writable k.state e) (guarded program.writable s e')
  guarded_kept {i} (goes_alike {o = o} {t = t} {t' = t'} covered) = chosen (allows_shown program.writable o.event)
    where
      chosen : (b : Bool) → StaysCovered i k (cond b (goes_on o t) (stops (here k.state) AccessFault))
          (cond b (goes_on o t') (stops (here s) AccessFault))
      chosen true = goes_alike covered
      chosen false = rw covers.pc stops_alike
  guarded_kept stops_alike = stops_alike

  covered_step : (i : Instr) (length : Size) → StandsIn (program.code k.state.pc) k.state.pc i length
      → is_decided program k i ≡ true
      → StaysCovered i k (guarded program.writable k.state (ending_in (program.code k.state.pc) i length k.state))
      (guarded program.writable s (ending_in (program.code k.state.pc) i length s))
  covered_step i length at known =
      let code = program.code k.state.pc in
      guarded_kept (step_kept length (alignment_of code) k s covers (profile_of code) i (stands_in_range at) known)

  goes_on_kept : {i : Instr} {o : Observation} {t : State} {e' : StepEnding} → ProgramStep program s e'
      → StaysCovered i k (goes_on o t) e' → (t' : State) × ProgramStep program s (goes_on o t') × Covers (known_after i k t) t'
  goes_on_kept step (goes_alike covered) = (_, step, covered)

  stops_kept : {i : Instr} {seen : List Observation} {stop : Stop} {e' : StepEnding} → ProgramStep program s e'
      → StaysCovered i k (stops seen stop) e' → ProgramStep program s (stops seen stop)
  stops_kept step stops_alike = step

  pub leads_kept : (o : Observation) (next : KnownState) → KnownStep program k (leads_on o next)
      → (t : State) × ProgramStep program s (goes_on o t) × Covers next t
  leads_kept o next (decided i at known step) =
      goes_on_kept (step_at i at)
      (rw (Step-determined (executed at.1) step) at (covered_step i at.0 at.1 known))

  moved_stop : {e : StepEnding} (seen : List Observation) (stop : Stop)
      → ((i : Instr) → StandsAt program k.state.pc i → is_decided program k i ≡ true)
      → CodeStep (program.code k.state.pc) k.state e → stops seen stop ≡ guarded program.writable k.state e
      → ProgramStep program s (stops seen stop)
  moved_stop seen stop known (executes i length there is) end =
      let same = end ∙ ap (guarded program.writable k.state) is in
      stops_kept (step_of i length there) (rw (sym same) at (covered_step i length there (known i (length, there))))
  moved_stop seen stop known (pc_misaligned odd) end =
      rw end (stops_so (pc_misaligned (λ even. odd (rw covers.pc at even))))
  moved_stop seen stop known (not_code even none) end =
      rw end (stops_so (not_code (rw covers.pc even) (rw covers.pc none)))
  moved_stop seen stop known (no_instruction even some misfit) end =
      rw (end, sym covers.pc) (stops_so (no_instruction (rw covers.pc even)
      (λ none. some (rw covers.pc at none)) (λ i length there. misfit i length (rw covers.pc at there))))

  pub stop_kept : (seen : List Observation) (stop : Stop) → KnownStep program k (ends seen stop)
      → ProgramStep program s (stops seen stop)
  stop_kept seen stop (certified.stopped known step) = moved_stop seen stop known step.step step.end

-- a run that is the same is a run of each covered state
pub same_run : {program : MachineProgram} {budget : ℕ} {k : KnownState} {s : State} {seen : List Observation} {stop : Stop}
    → CertifiedRun program budget k seen (same stop) → Covers k s → (t : State) × ProgramRuns program budget s seen stop t
same_run {s = s} certified.spent covers = (s, spent stays)
same_run {program} {s = s} (certified.halts {k = k} {seen = seen} {stop = stop} step) covers =
    (s, Runs-stop (stop_kept program k s covers seen stop step))
same_run {program} {s = s} (certified.steps_on {k = k} {next = next} {o = o} step rest) covers =
    let first = leads_kept program k s covers o next step in
    let then = same_run rest first.2 in
    (then.0, Runs-more first.1 then.1)

-- no run that is the same ends by a recorder's refusal
pub calm : {program : MachineProgram} {budget : ℕ} {k : KnownState} {seen : List Observation} {stop : Stop}
    → CertifiedRun program budget k seen (same stop) → stop ≢ RecorderRefused
calm certified.spent = λ e. cc
calm {program} (certified.halts {k = k} {seen = seen} {stop = stop} step) =
    (step_stops program k.state seen stop (stop_kept program k k.state (itself k) seen stop step)).0
calm (certified.steps_on step rest) = calm rest

pub every_run : {program : MachineProgram} {budget : ℕ} {k : KnownState} {s t : State} {seen shown : List Observation}
    {stop other : Stop} → CertifiedRun program budget k seen (same stop) → Covers k s
    → ProgramRuns program budget s shown other t → other ≢ RecorderRefused → (shown ≡ seen) × (other ≡ stop)
every_run run covers ran quiet =
    let ours = same_run run covers in
    let both = Runs-determined ran ours.1 quiet (calm run) in
    (both.0, both.1)

-- the steps before one that may differ
pub steps_before : {program : MachineProgram} {budget : ℕ} {k : KnownState} {s : State} {seen : List Observation} {pc : ℕ}
    → CertifiedRun program budget k seen (may_differ pc) → Covers k s
    → (n : ℕ) × (t : State) × (n < budget) × ProgramLeads program n s seen t × (t.pc ≡ pc)
steps_before {s = s} (certified.cut step) covers = (0, s, omega arith, stays, covers.pc)
steps_before {program} {s = s} (certified.steps_on {k = k} {next = next} {o = o} step rest) covers =
    let first = leads_kept program k s covers o next step in
    let then = steps_before rest first.2 in
    (suc then.0, then.1, omega (arith, then.2), steps_on first.1 then.3, then.4)

-- steps that lead on are steps of each covered state
leads_covered : {program : MachineProgram} {n : ℕ} {k now : KnownState} {s : State} {seen : List Observation}
    → KnownLeads program n k seen now → Covers k s
    → (t : State) × ProgramLeads program n s seen t × Covers now t
leads_covered {s = s} certified.stays covers = (s, stays, covers)
leads_covered {program} {s = s} (certified.leads {k = k} {next = next} {o = o} step rest) covers =
    let first = leads_kept program k s covers o next step in
    let then = leads_covered rest first.2 in
    (then.0, steps_on first.1 then.1, then.2)

-- and one that stops behind them stops each of them
pub stops_there : {program : MachineProgram} {n : ℕ} {k now : KnownState} {s : State} {seen last : List Observation}
    {stop : Stop} → KnownLeads program n k seen now → KnownStep program now (ends last stop) → Covers k s
    → (t : State) × ProgramHalts program (n + 1) s (seen ++ last) stop t × (t.pc ≡ now.state.pc)
stops_there {program} {n} {now = now} {last = last} {stop = stop} run step covers =
    let there = leads_covered run covers in
    (there.0, rw (add-one n) (halts there.1 (stop_kept program now there.0 there.2 last stop step) refl), there.2.pc)
