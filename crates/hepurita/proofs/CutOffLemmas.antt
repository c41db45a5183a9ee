-- A run that is cut off is a beginning of the run that halts.
use Rattle.std.specs.Prelude.{◌⊎◌}
use Rattle.std.proofs.Common.{◌≡◌, ◌≢◌, inl, inr, ℕ, suc, ◌<◌, ◌≤◌, List, ◌∷◌, ◌++◌, length, length-append, take}
use Rattle.std.proofs.Common.{refl, sym, ap, subst, ◌∙◌, arith}
use Rattle.std.proofs.lemmas.List.{take_all}
use Rattle.hepurita.specs.Below.{Agree, AreWithin, Arg, Budget, MachineCode, cut_short, Ecall, Fields, halted, Halts}
use Rattle.hepurita.specs.Below.{halts, Leads, Observation, params_of, ProcedureTree, ProgramTree, RecorderRefused}
use Rattle.hepurita.specs.Below.{results_in, RunsWithin, spent, State, stays, Stop, stops, Step, steps_on}
use Rattle.hepurita.proofs.AnswerLemmas.{IsExportImage, run_on, same_shown}
use Rattle.hepurita.specs.Bases.{frame_base}
use Rattle.hepurita.specs.Compiled.{Means}
use Rattle.hepurita.specs.CutOff.{IsRightSoFar}
use Rattle.hepurita.specs.Uncut.{RunsFor}
use Rattle.hepurita.proofs.Below.{Step-determined, goes_on≢stops, Halts-determined, step_stops}

-- each step shows one observation, and the one that stops at most one
as_many_shown : {code : MachineCode} {n : ℕ} {s t : State} {seen : List Observation} → Leads code n s seen t
    → length seen ≡ n
as_many_shown stays = refl
as_many_shown (steps_on step rest) = ap suc (as_many_shown rest)

few_shown : {code : MachineCode} {n : ℕ} {s t : State} {seen : List Observation} {stop : Stop}
    → Halts code n s seen stop t
    → length seen ≤ n
few_shown {code} (halts {n = n} {seen = seen} {last = last} {list = list} {stop = stop} {t = t} first end is) =
    omega (
      arith,
      ap length is ∙ length-append seen last,
      as_many_shown first,
      (step_stops code t last stop end).1,
    )

-- steps from a state whose later step stops are no more than those before it, and show a beginning
steps_begin : {code : MachineCode} {m n : ℕ} {s t u : State} {a b last : List Observation} {stop : Stop}
    → Leads code m s a t
    → Step code t (stops last stop) → Leads code n s b u → (n ≤ m) × (b ≡ take n (a ++ last))
steps_begin first end stays = (omega arith, refl)
steps_begin stays end (steps_on other then) = absurd (goes_on≢stops other end)
steps_begin {code} {u = u} {last = last} (steps_on {n = m} {o = o} {seen = a} {t = s'} first rest) end
    (steps_on {n = n} {o = p} {seen = b} {t = s''} other then) =
    let e = Step-determined first other in
    let same : s'' ≡ s' = cc in
    let head : p ≡ o = cc in
    let more = steps_begin rest end (subst (λ x. Leads code n x b u) same then) in
    (omega (arith, more.0), ap (λ x. x ∷ b) head ∙ ap (λ xs. o ∷ xs) more.1)

-- what a run is that was given so many steps, where the run that halts takes this many and shows this
record BegunRun (n given : ℕ) (whole : List Observation) (stop : Stop) (end : State) (seen : List Observation)
    (other : Stop) (now : State) : Type 0 where
  pub shown : seen ≡ take given whole
  pub ended : ((other ≡ stop) × (now ≡ end)) ⊎ ((other ≡ Budget) × (given < n))

begun : {code : MachineCode} {n given : ℕ} {s end now : State} {whole seen : List Observation} {stop other : Stop}
    → Halts code n s whole stop end → RunsWithin code given s seen other now → other ≢ RecorderRefused
    → BegunRun n given whole stop end seen other now
begun {given = given} {whole = whole} halting (halted within halting') calm =
    let same = Halts-determined halting' halting in
    record {
      shown = same.1 ∙ sym (take_all given whole (omega (arith, few_shown halting, same.0)));
      ended = inl (same.2, same.3);
    }
begun halting (cut_short within first end shows) calm = absurd (calm refl)
begun {given = given} (halts {n = n} {seen = seen} {last = last} first end is) (spent all) calm =
    let both = steps_begin first end all in
    record { shown = both.1 ∙ ap (take given) (sym is); ended = inr (refl, omega (arith, both.0)) }

module _ {program : ProgramTree} {before : List ProcedureTree} {export : ProcedureTree} {image : Fields}
    (is : IsExportImage program before export image) where
  begun_on : (args : List Arg) (within : AreWithin (params_of image) args) (given : ℕ) (seen : List Observation)
      (stop : Stop) (end : State) → RunsFor given image args seen stop end
      → (let to = run_on is args within in
      BegunRun to.run.step_count given to.run.seen Ecall to.run.end seen stop end)
  begun_on args within given seen stop end run =
      begun (run_on is args within).run.halts run.0 run.1

  pub right_so_far : (args : List Arg) (given : ℕ) (seen : List Observation) (stop : Stop) (end : State)
      → AreWithin (params_of image) args → RunsFor given image args seen stop end
      → IsRightSoFar program image args given stop end
  right_so_far args given seen stop end within run =
      let to = run_on is args within in
      elim ((begun_on args within given seen stop end run).ended) [
        | inl it ↦ inl (
          it.0,
          subst (λ (t : State). Means program args (results_in frame_base image t.bytes)) (sym it.1) to.outcome,
        )
        | inr it ↦ inr (it.0, omega (arith, it.1, to.within_steps))
      ]

  pub same_so_far : (one other : List Arg) (given : ℕ) (seen seen' : List Observation) (stop stop' : Stop)
      (end end' : State) → Agree (params_of image) one other → RunsFor given image one seen stop end
      → RunsFor given image other seen' stop' end' → seen ≡ seen'
  same_so_far one other given seen seen' stop stop' end end' agree run run' =
      (begun_on one agree.one_within given seen stop end run).shown
      ∙ ap (take given) (same_shown is one other agree)
      ∙ sym (begun_on other agree.other_within given seen' stop' end' run').shown
