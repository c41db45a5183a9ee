-- A run, a step at a time, and what it shows.
use Rattle.std.proofs.Common.{◌≡◌, ℕ, zero, suc, true, is_some, ◌+◌, ◌-◌, ◌<◌, ◌≤◌, List, [], ◌∷◌, ◌++◌, Option, Some}
use Rattle.std.proofs.Common.{None, length, refl, sym, ap, ◌∙◌, append_assoc, append-nil, add-one, zero-add, suc-add}
use Rattle.std.proofs.Common.{inl, inr, arith}
use Rattle.std.specs.Option.{option_map}
use Rattle.std.specs.Prelude.{slice_get}
use Rattle.std.proofs.lemmas.Option.{same_Some, slice_get_past, slice_get_within}
use Rattle.run_reports.specs.Below.{Budget, MachineCode, entries_of, Entry, goes_on, halted, halts, Leads, listed}
use Rattle.run_reports.specs.Below.{Observation, RunsWithin, spent, State, stays, Stop, stops, Step, OneStep, steps_on}
use Rattle.run_reports.proofs.run_places_lemmas.Below.{Leads-more, entries_of-append, entry_count-append, Runs-more}
use Rattle.run_reports.proofs.run_places_lemmas.Below.{step_stops, some_of, run_of_state, stopped_at, went_to}
use Rattle.run_reports.specs.run_places.Places.{Ends, ShowsNext, IsLastBefore, ShowsFewer}
use Rattle.run_reports.specs.run_places.Shown.{entry_or_stop, shown_entry, ShowsAt}
use Rattle.rv_machine.specs.OneStep as one_step
use Rattle.run_reports.specs.declared.run_places.shown.Shown.{Shown}
use Rattle.run_reports.specs.declared.run_places.shown.Shown.TheVariants.{Stopped}

shows_next : (code : MachineCode) (t u : State) (o : Observation) (answer : Option Stop) → OneStep code t
    (Some o) answer u
    → ShowsNext code t o
shows_next code t u o None (one_step.went_on step) = inl (u, step)
shows_next code t u o (Some stop) (one_step.stopped step) = inr (stop, step)

silent : (code : MachineCode) (t u : State) (answer : Option Stop) → OneStep code t None answer u
    → (stop : Stop) × Step code t (stops [] stop)
silent code t u None one_step = elim one_step [ ]
silent code t u (Some stop) (one_step.stopped step) = (stop, step)

pub Leads-length : {code : MachineCode} {k : ℕ} {s t : State} {seen : List Observation} → Leads code k s seen t
    → length seen ≡ k
Leads-length stays = refl
Leads-length (steps_on first rest) = ap suc (Leads-length rest)

-- steps, and then a run
pub Runs-after : {code : MachineCode} {k n : ℕ} {s t u : State} {seen more : List Observation} {stop : Stop}
    → Leads code k s seen t → RunsWithin code n t more stop u → RunsWithin code (k + n) s (seen ++ more) stop u
Runs-after stays run = rw zero-add run
Runs-after (steps_on first rest) run = rw suc-add (Runs-more first (Runs-after rest run))

-- an element behind others, and one of the first of them
get_after : {A : Type 0} (xs ys : List A) (n : ℕ) → slice_get (xs ++ ys) (length xs + n) ≡ slice_get ys n
get_after [] ys n = rw zero-add refl
get_after (x ∷ xs) ys n = rw suc-add (get_after xs ys n)

get_within : {A : Type 0} (xs ys : List A) (n : ℕ) (x : A) → slice_get xs n ≡ Some x → slice_get (xs ++ ys) n ≡ Some x
get_within [] ys n x is = absurd (omega (arith, slice_get_within [] n x is))
get_within (y ∷ xs) ys zero x is = is
get_within (y ∷ xs) ys (suc n) x is = get_within xs ys n x is

-- so many steps were made from a state, which showed this
module _ {code : MachineCode} {s : State} {k : ℕ} {t : State} {seen : List Observation}
    (led : Leads code k s seen t) where
  -- the next one goes on
  leads_on : {o : Observation} {u : State} → Step code t (goes_on o u) → Leads code (k + 1) s (seen ++ o ∷ []) u
  leads_on step = rw add-one (Leads-more led step)

  -- the next one shows this and goes on
  pub went_on_by : {u : State} {last : Option Observation} {o : Observation} {answer : Option Stop}
      → OneStep code t last answer u → last ≡ Some o → answer ≡ None → Leads code (k + 1) s (seen ++ o ∷ []) u
  went_on_by {u} {last} {o} {answer} one_step is none =
      let went = went_to code t u last answer one_step none in
      rw (same_Some went.0 o (sym went.1 ∙ is)) at (leads_on went.2)

module _ {code : MachineCode} {budget : ℕ} {s : State} {k : ℕ} {t : State} {seen : List Observation}
    (led : Leads code k s seen t) where
  -- the next one stops
  pub ends_here : {last : List Observation} {stop : Stop} → k < budget → Step code t (stops last stop)
      → Ends code budget s (seen ++ last) stop
  ends_here {last} {stop} within step =
      (t, halted (omega arith) (halts led step refl), (step_stops code t last stop step).0)

  -- no more are allowed
  pub ends_spent : k ≡ budget → Ends code budget s seen Budget
  ends_spent all = (t, spent (rw all at led), λ e. cc)

  -- the next one shows nothing and stops
  pub ends_silently : {u : State} {last : Option Observation} {answer : Option Stop} → k < budget
      → OneStep code t last answer u → last ≡ None → (stop : Stop) × Ends code budget s seen stop
  ends_silently {u} {answer = answer} within one_step is =
      let end = silent code t u answer (rw is at one_step) in
      (end.0, rw append-nil at (ends_here within end.1))

  -- the next one is the last whose program counter comes before a place
  pub is_last : {u : State} {last : Option Observation} {o : Observation} {answer : Option Stop} {place : ℕ}
      → k < budget → OneStep code t last answer u → last ≡ Some o
      → length (entries_of seen) < place → place ≤ length (entries_of seen) + length (entries_of (o ∷ []))
      → IsLastBefore code budget s place seen t
  is_last {u} {o = o} {answer = answer} within one_step is before reached = record {
    leads = rw (Leads-length led) led;
    within = omega (arith, Leads-length led, within);
    next = o;
    shown = shows_next code t u o answer (rw is at one_step);
    before = before;
    reached = omega (arith, entry_count-append seen (o ∷ []), reached);
  }

  -- and stops: then the run shows no more
  pub fewer_here : {u : State} {last : Option Observation} {o : Observation} {answer : Option Stop} {place : ℕ}
      → k < budget → OneStep code t last answer u → last ≡ Some o → is_some answer ≡ true
      → length (entries_of seen) + length (entries_of (o ∷ [])) < place → ShowsFewer code budget s place
  fewer_here {u} {o = o} {answer = answer} within one_step is ended few =
      let stop = some_of answer ended in
      let step = stopped_at code t u (Some o) answer stop.0 (rw is at one_step) stop.1 in
      (seen ++ o ∷ [], stop.0, ends_here within step, omega (arith, entry_count-append seen (o ∷ []), few))

  -- it shows something, and the run goes on to its end
  pub ends_next : (o : Observation) → ShowsNext code t o → k < budget
      → (more : List Observation) × (stop : Stop) × Ends code budget s (seen ++ o ∷ more) stop
  ends_next o (inl (u, step)) within =
      let run = run_of_state code (budget - (k + 1)) u in
      let e : (k + 1) + (budget - (k + 1)) ≡ budget = omega (arith, within) in
      (run.0, run.1, (run.2, rw (e, append_assoc) at (Runs-after (leads_on led step) run.3), run.4))
  ends_next o (inr (stop, step)) within = ([], stop, ends_here within step)

  -- it shows an entry at a place
  shows_entry : (o : Observation) (place left : ℕ) (entry : Entry) → ShowsNext code t o → k < budget
      → length (entries_of seen) + left ≡ place → slice_get (entries_of (o ∷ [])) left ≡ Some entry
      → ShowsAt code budget s place (shown_entry entry)
  shows_entry o place left entry next within there is =
      let ends = ends_next o next within in
      let more = ends.0 in
      let whole : entries_of (seen ++ o ∷ more) ≡ entries_of seen ++ (entries_of (o ∷ []) ++ entries_of more) =
      entries_of-append seen (o ∷ more) ∙ ap (λ l. entries_of seen ++ l) (entries_of-append (o ∷ []) more) in
      let at_place : slice_get (entries_of (seen ++ o ∷ more)) place ≡ Some entry = rw (whole, sym there)
      (get_after (entries_of seen) (entries_of (o ∷ []) ++ entries_of more) left
      ∙ get_within (entries_of (o ∷ [])) (entries_of more) left entry is) in
      (seen ++ o ∷ more, ends.1, ends.2, ap (λ e. entry_or_stop e ends.1) (sym at_place))

  pub shows_shown : {u : State} {last : Option Observation} {answer : Option Stop} {place : ℕ} {shown : Shown}
      (left : ℕ) → k < budget → OneStep code t last answer u → length (entries_of seen) + left ≡ place
      → option_map shown_entry (slice_get (entries_of (listed last)) left) ≡ Some shown
      → ShowsAt code budget s place shown
  shows_shown {last = None} left within one_step there is = cc
  shows_shown {u = u} {last = Some o} {answer = answer} {place = place} {shown = shown} left within one_step there is =
      from_entry (slice_get (entries_of (o ∷ [])) left) refl is
    where
      from_entry : (e : Option Entry) → slice_get (entries_of (o ∷ [])) left ≡ e
          → option_map shown_entry e ≡ Some shown → ShowsAt code budget s place shown
      from_entry None at none = cc
      from_entry (Some entry) at some =
          rw (same_Some (shown_entry entry) shown some) at
          (shows_entry o place left entry (shows_next code t u o answer one_step) within there at)

-- behind all entries of a run there is its stop
pub shows_stop : (code : MachineCode) (budget : ℕ) (s : State) (seen : List Observation) (stop : Stop) (place : ℕ)
    → Ends code budget s seen stop → length (entries_of seen) ≤ place → ShowsAt code budget s place (Stopped stop)
shows_stop code budget s seen stop place ends past =
    (seen, stop, ends, ap (λ e. entry_or_stop e stop) (sym (slice_get_past (entries_of seen) place past)))

-- what a run shows at a place behind the entries of steps is what the state after them shows
pub later_place : (code : MachineCode) (budget : ℕ) (s t : State) (seen : List Observation) (place : ℕ) (shown : Shown)
    → Leads code (length seen) s seen t → length seen ≤ budget
    → ShowsAt code (budget - length seen) t place shown
    → ShowsAt code budget s (length (entries_of seen) + place) shown
later_place code budget s t seen place shown led within shows =
    let more = shows.0 in
    let stop = shows.1 in
    let e : length seen + (budget - length seen) ≡ budget = omega (arith, within) in (
      seen ++ more,
      stop,
      (shows.2.0, rw e at (Runs-after led shows.2.1), shows.2.2),
      rw (entries_of-append seen more, get_after (entries_of seen) (entries_of more) place) shows.3,
    )

-- what is left of the entries before a place, once a step has shown some
pub left_after : (seen : List Observation) (last : Option Observation) (left left' place : ℕ)
    → length (entries_of seen) + left ≡ place → length (entries_of (listed last)) + left' ≡ left
    → length (entries_of (seen ++ listed last)) + left' ≡ place
left_after seen last left left' place before is = omega (arith, entry_count-append seen (listed last), before, is)
