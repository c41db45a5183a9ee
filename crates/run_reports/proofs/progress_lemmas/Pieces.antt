-- A run in pieces: steps that go on, and then a run.
use Rattle.std.proofs.Common.{◌≡◌, ◌≢◌, ℕ, ◌+◌, ◌≤◌, List, ◌++◌, refl, arith, sym}
use Rattle.rv_machine.proofs.Face.{Leads-append, Halts-after, no_longer, step_within_budget}
use Rattle.run_reports.specs.Below.{Budget, MachineCode, cut_short, halted, halts, Leads, Observation, RecorderRefused}
use Rattle.run_reports.specs.Below.{RunsWithin, spent, State, Stop}

-- a run of steps that stops by the budget has made them all
pub all_made : {code : MachineCode} {n : ℕ} {s t : State} {seen : List Observation} {stop : Stop}
    → RunsWithin code n s seen stop t → stop ≡ Budget → Leads code n s seen t
all_made (halted le (halts first end is)) budget = absurd (step_within_budget end budget)
all_made (cut_short lt first end shows) budget = cc
all_made (spent all) budget = all

-- steps that go on, and then a run
pub run_after : {code : MachineCode} {m n budget : ℕ} {s t u : State} {seen more : List Observation} {stop : Stop}
    → Leads code m s seen t → RunsWithin code n t more stop u → m + n ≡ budget → stop ≢ RecorderRefused
    → RunsWithin code budget s (seen ++ more) stop u
run_after first (halted le end) all calm = halted (omega (arith, le, all)) (Halts-after first end)
run_after first (cut_short lt then end shows) all calm = absurd (calm refl)
run_after first (spent then) all calm = rw (sym all) (spent (Leads-append first then))

-- one that stops within fewer steps
pub stop_after : {code : MachineCode} {m n budget : ℕ} {s t u : State} {seen more : List Observation} {stop : Stop}
    → Leads code m s seen t → RunsWithin code n t more stop u → m + n ≤ budget → stop ≢ RecorderRefused → stop ≢ Budget
    → RunsWithin code budget s (seen ++ more) stop u
stop_after first (halted le end) within calm other = halted (omega (arith, le, within)) (Halts-after first end)
stop_after first (cut_short lt then end shows) within calm other = absurd (calm refl)
stop_after first (spent then) within calm other = absurd (other refl)

-- does not go on
pub not_on : {code : MachineCode} {m n : ℕ} {s t u v : State} {seen more others : List Observation} {stop : Stop}
    → Leads code m s seen t → RunsWithin code n t more stop u → stop ≢ RecorderRefused → stop ≢ Budget
    → Leads code (m + n) s others v → ⊥
not_on first (halted le (halts {n = k} then end is)) calm other all =
    omega (arith, le, no_longer (Leads-append first then) end all)
not_on first (cut_short lt then end shows) calm other all = absurd (calm refl)
not_on first (spent then) calm other all = absurd (other refl)
