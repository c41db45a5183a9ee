-- A run, a step at a time, and what is written of it.
use Rattle.std.proofs.Common.{◌≡◌, ◌≢◌, ℕ, suc, ◌+◌, ◌-◌, ◌<◌, ◌≤◌, List, [], ◌∷◌, ◌++◌, Option, Some, None}
use Rattle.std.proofs.Common.{Result, Ok, Err, OnErr, refl, sym, ap, ◌∙◌, subst, add-one, append_assoc, append-nil, arith}
use Rattle.listing.proofs.Below.{entries_of-append, Leads-more, run_of_state, Runs-more, step_stops}
use Rattle.listing.specs.Below.{Budget, Done, entries_of, Entry, followed_by, GainsPart, halted, halts, listed}
use Rattle.listing.specs.Below.{MachineProgram, Observation, ProgramLeads, ProgramRuns, ProgramStep, RecorderRefused}
use Rattle.listing.specs.Below.{refused, spent, State, StepEnding, stays, steps_on, Stop, stopped, went_on, Writes}
use Rattle.listing.specs.Below.{WritesPart}
use Rattle.listing.specs.Lines.{entry_line, entry_lines, lines_of}
use Rattle.listing.specs.Listings.{AreLines, ProgramEnds}
use Rattle.listing.proofs.Pieces.{put-more, part-inside}

-- one observation or none, as a list
pub listed_alone : (shown : Option Observation) → listed shown ≡ followed_by shown []
listed_alone (Some o) = refl
listed_alone None = refl

entry_lines-append : (a b : List Entry) → entry_lines (a ++ b) ≡ entry_lines a ++ entry_lines b
entry_lines-append [] b = refl
entry_lines-append (entry ∷ a) b =
    ap (λ l. entry_line entry ++ l) (entry_lines-append a b)
    ∙ sym (append_assoc (entry_line entry) (entry_lines a) (entry_lines b))

lines_of-append : (a b : List Observation) → lines_of (a ++ b) ≡ lines_of a ++ lines_of b
lines_of-append a b = ap entry_lines (entries_of-append a b) ∙ entry_lines-append (entries_of a) (entries_of b)

-- steps, and then a run
Runs-after : {program : MachineProgram} {k n : ℕ} {s t u : State} {seen more : List Observation} {stop : Stop}
    → ProgramLeads program k s seen t → ProgramRuns program n t more stop u
    → ProgramRuns program (k + n) s (seen ++ more) stop u
Runs-after {program} {n = n} {u = u} {more = more} {stop = stop} (stays {s = s}) run =
    let e : n ≡ 0 + n = omega arith in
    subst (λ k. ProgramRuns program k s more stop u) e run
Runs-after {program} {n = n} {u = u} {more = more} {stop =
    stop} (steps_on {n = k} {o = o} {seen = seen} {s = s} first rest) run =
    let e : suc (k + n) ≡ suc k + n = omega arith in
    subst (λ k. ProgramRuns program k s (o ∷ (seen ++ more)) stop u) e (Runs-more first (Runs-after rest run))

-- so many steps were made from a state, which showed this
module _ (program : MachineProgram) (budget : ℕ) (s : State) (k : ℕ) (t : State) (seen : List Observation)
    (led : ProgramLeads program k s seen t) where
  -- and then the run goes on to its end
  ends_from : k ≤ budget
      → (more : List Observation) × (stop : Stop) × (end : State) × ProgramEnds program budget s (seen ++ more) stop end
  ends_from within =
      let run = run_of_state program (budget - k) t in
      let e : k + (budget - k) ≡ budget = omega arith in (
        run.0,
        run.1,
        run.2,
        (subst (λ n. ProgramRuns program n s (seen ++ run.0) run.1 run.2) e (Runs-after led run.3), run.4),
      )

  -- no more are allowed
  pub ends_spent : k ≡ budget → ProgramEnds program budget s seen Budget t
  ends_spent all = (spent (subst (λ n. ProgramLeads program n s seen t) all led), λ e. cc)

  -- the next one goes on
  pub leads_on : {ending : StepEnding} {u : State} {last : List Observation} → ProgramStep program t ending
      → Done t ending None u last → ProgramLeads program (k + 1) s (seen ++ last) u
  leads_on step went_on = rw add-one (Leads-more led step)

  -- the next one stops
  pub ends_here : {ending : StepEnding} {stop : Stop} {u : State} {last : List Observation} → k < budget
      → ProgramStep program t ending → Done t ending (Some stop) u last → Some stop ≢ Some RecorderRefused
      → ProgramEnds program budget s (seen ++ last) stop u
  ends_here within step (stopped {seen = last} {stop = stop}) calm =
      (halted (omega arith) (halts led step refl), (step_stops program t last stop step).0)
  ends_here within step (refused shows) calm = absurd (calm refl)

-- a step more is made, and then the run goes on to its end
pub ends_after : (program : MachineProgram) (budget : ℕ) (s : State) (k : ℕ) (t : State) (seen : List Observation)
    → ProgramLeads program k s seen t → {ending : StepEnding} {answer : Option Stop} {u : State}
    {last : List Observation} → k < budget → ProgramStep program t ending → Done t ending answer u last
    → answer ≢ Some RecorderRefused
    → (more : List Observation) × (stop : Stop) × (end : State)
    × ProgramEnds program budget s ((seen ++ last) ++ more) stop end
ends_after program budget s k t seen led {answer = None} {u = u} {last = last} within step done calm =
    ends_from program budget s (k + 1) u (seen ++ last) (leads_on program budget s k t seen led step done) (omega arith)
ends_after program budget s k t seen led {answer = Some stop} {u = u} {last = last} within step done calm =
    let ends = ends_here program budget s k t seen led within step done calm in
    ([], stop, u, rw append-nil ends)

-- what was written so far are the lines of this
module _ (before now : List ℕ) (seen : List Observation) (so_far : now ≡ before ++ lines_of seen) where
  pub wrote_more : (after : List ℕ) (last : List Observation) → after ≡ now ++ lines_of last
      → after ≡ before ++ lines_of (seen ++ last)
  wrote_more after last is = put-more before now after (lines_of seen) (lines_of last) so_far is
      ∙ ap (λ l. before ++ l) (sym (lines_of-append seen last))

  module _ (program : MachineProgram) (budget : ℕ) (s : State) where
    -- and the run has ended
    pub wrote_all : (stop : Stop) (end : State) → ProgramEnds program budget s seen stop end
        → Writes (AreLines program budget s stop end) before now
    wrote_all stop end ends = record { bytes = lines_of seen; such = (seen, ends, refl); added = so_far }

    -- and a part of the next step's lines
    pub cut_at_lines : (after : List ℕ) (last more : List Observation) (stop : Stop) (end : State)
        → ProgramEnds program budget s ((seen ++ last) ++ more) stop end → GainsPart now after (lines_of last)
        → WritesPart (λ bytes. (stop : Stop) × (end : State) × AreLines program budget s stop end bytes) before after
    cut_at_lines after last more stop end ends part =
        let whole : lines_of ((seen ++ last) ++ more) ≡ (lines_of seen ++ lines_of last) ++ lines_of more =
        lines_of-append (seen ++ last) more ∙ ap (λ l. l ++ lines_of more) (lines_of-append seen last) in
        record {
          bytes = lines_of ((seen ++ last) ++ more);
          such = (stop, end, ((seen ++ last) ++ more, ends, refl));
          part = subst (λ l. GainsPart before after l) (sym whole)
              (part-inside before now after (lines_of seen) (lines_of last) (lines_of more) so_far part);
        }

-- what is known of an answer that is an error
pub on_err : {T E P : Type 0} (r : Result T E) → P → OnErr r P
on_err (Ok x) p = tt
on_err (Err e) p = p
