-- Steps of a run that are counted, and what goes out behind them.
use Rattle.std.proofs.Common.{◌≡◌, ◌≢◌, ℕ, suc, ◌*◌, ◌<◌, ◌≤◌, Bool, true, false, List, [], ◌∷◌, ◌++◌, Option, Some}
use Rattle.std.proofs.Common.{None, Result, Ok, Err, OnOk, OnErr, inr, refl, sym, ◌∙◌, subst, arith}
use Rattle.std.specs.Prelude.{slice_get}
use Rattle.commands.specs.Below.{Arg, code_at, code_base, Collected, Counting, Fields, frame_base, GoesOn, Halts}
use Rattle.commands.specs.Below.{halts, HasLines, IsPut, IsTold, Leads, loaded_at, MachineCode, Observation, Reaches, RecorderRefused}
use Rattle.commands.specs.Below.{State, Stop}
use Rattle.commands.specs.Progress.{RunGoesOn, RunTells, Tells}
use Rattle.commands.specs.StepCounts.{MakesSteps, RunMakes, steps_line}
use Rattle.command_line.specs.declared.options.StepOptions.{StepOptions}
use Rattle.commands.proofs.ProgressLemmas.{told_of_image}
use Rattle.run_reports.proofs.progress_lemmas.Told.{all_told, reaches}
use Rattle.run_reports.specs.progress.Lines.{steps_a_line, WentOut}
use Rattle.rv_machine.proofs.Face.{Leads-more, no_longer, step_made, stopped_at, went_to}
use Rattle.rv_machine.specs.Leakage.{Stepped}
use Rattle.rv_machine.specs.OneStep.{listed, OneStep, stopped, went_on}

-- the step that a call has made
pub made_one : {code : MachineCode} {s t : State} {answer : Option Stop} {list : List Observation}
    → Stepped code true s [] answer t list → answer ≢ Some RecorderRefused
    → (last : Option Observation) × OneStep code s last answer t
made_one {code} {s} {t} {answer} stepped calm =
    (slice_get stepped.2.0 0, step_made code s t stepped.0 answer stepped.2.0 stepped.1 stepped.2.1 calm)

-- where it stops, so does the run
stays_there : {code : MachineCode} {t u : State} {last : Option Observation} {answer : Option Stop} {stop : Stop}
    → OneStep code t last answer u → answer ≡ Some stop → u ≡ t
stays_there (went_on step) is = cc
stays_there (stopped step) is = refl

pub run_halts : {code : MachineCode} {n : ℕ} {s t u : State} {seen : List Observation} {last : Option Observation}
    {answer : Option Stop} {stop : Stop} → Leads code n s seen t → OneStep code t last answer u → answer ≡ Some stop
    → Halts code (suc n) s (seen ++ listed last) stop u
run_halts {code} {t = t} {u} {last = last} {answer} {stop} led one is =
    rw (stays_there one is) (halts led (stopped_at code t u last answer stop one is) refl)

-- where it goes on, so does the run
pub run_leads : {code : MachineCode} {m n : ℕ} {s t u : State} {seen : List Observation} {last : Option Observation}
    {answer : Option Stop} → Leads code n s seen t → OneStep code t last answer u → answer ≡ None → m ≡ suc n
    → (all : List Observation) × Leads code m s all u
run_leads {code} {t = t} {u} {seen} {last} {answer} led one is more =
    let found = went_to code t u last answer one is in (seen ++ found.0 ∷ [], rw more (Leads-more led found.2))

-- where it goes on behind a line, it reaches that line
pub reached_more : {code : MachineCode} {budget n count : ℕ} {s t : State} {seen : List Observation}
    → Leads code n s seen t → n ≡ count * steps_a_line → n < budget → Reaches (GoesOn code budget s) count
reached_more {t = t} {seen = seen} led is less = inr (omega (arith, is, less), (seen, t, rw (sym is) led))

-- lines of progress behind so many steps, where no more are made, or no more may be
pub lines_halted : {code : MachineCode} {budget n count : ℕ} {s t : State} {seen : List Observation} {stop : Stop}
    → Halts code n s seen stop t → n ≤ suc count * steps_a_line → Reaches (GoesOn code budget s) count
    → HasLines (GoesOn code budget s) count
lines_halted (halts led step is) due reached =
    record { reached = reached; no_more = λ on. omega (arith, due, no_longer led step on.1.2) }

pub lines_spent : {code : MachineCode} {budget n count : ℕ} {s : State} → n ≡ budget → n ≤ suc count * steps_a_line
    → Reaches (GoesOn code budget s) count → HasLines (GoesOn code budget s) count
lines_spent all due reached = record { reached = reached; no_more = λ on. omega (arith, all, due, on.0) }

-- a flag is not both
pub apart : {flag : Bool} → flag ≡ true → flag ≡ false → ⊥
apart on off = let both : true ≡ false = sym on ∙ off in cc

-- they went out where they are asked for
pub told_by : (progress whole : Bool) (count : ℕ) {GoesOnAfter : ℕ → Type 0} (before after : Collected)
    → (progress ≡ true → HasLines GoesOnAfter count) → (progress ≡ false → after ≡ before)
    → WentOut whole count before after → Tells HasLines progress GoesOnAfter before after
told_by false whole count before after has quiet went = quiet refl
told_by true whole count before after has quiet went = (count, has refl, all_told whole count before after went)

pub tells_of_image : {code : MachineCode} {budget : ℕ} {s : State} (before after : Collected) (progress : Bool)
    (image : Fields) (args : List Arg) → code ≡ code_at code_base image → budget ≡ image.max_steps
    → s ≡ loaded_at code_base frame_base image args → Tells HasLines progress (GoesOn code budget s) before after
    → Tells HasLines progress (RunGoesOn image args) before after
tells_of_image before after false image args code_is budget_is state_is told = told
tells_of_image before after true image args code_is budget_is state_is told =
    told_of_image HasLines image args code_is budget_is state_is told

-- the steps of a run from the loaded state are those of the image's run
pub steps_of_image : {code : MachineCode} {budget steps : ℕ} {s : State} (image : Fields) (args : List Arg)
    → code ≡ code_at code_base image → budget ≡ image.max_steps → s ≡ loaded_at code_base frame_base image args
    → MakesSteps code budget s steps → RunMakes image args steps
steps_of_image {code} {budget} {steps} {s} image args code_is budget_is state_is made =
    subst (λ (x : State). MakesSteps (code_at code_base image) image.max_steps x steps) state_is
    (subst (λ (x : ℕ). MakesSteps (code_at code_base image) x s steps) budget_is
    (subst (λ (x : MachineCode). MakesSteps x budget s steps) code_is made))

-- what goes out where nothing is asked for, lines of progress alone, and the line of steps
pub quiet_tells : (Has : Counting) (options : StepOptions) (image : Fields) (args : List Arg) (now : Collected)
    → options.steps ≡ false → options.progress ≡ false → RunTells Has options image args now now
quiet_tells Has options image args now off quiet = (now, rw quiet refl, rw off refl)

pub progress_tells : (Has : Counting) (options : StepOptions) (image : Fields) (args : List Arg)
    (before after : Collected) → options.steps ≡ false → options.progress ≡ true
    → IsTold Has (RunGoesOn image args) before after → RunTells Has options image args before after
progress_tells Has options image args before after off on told = (after, rw on told, rw off refl)

pub counted_tells : (progress : Bool) (image : Fields) (args : List Arg) (steps : ℕ)
    (before middle after : Collected) → Tells HasLines progress (RunGoesOn image args) before middle → RunMakes image args steps
    → IsPut (steps_line steps) middle after
    → RunTells HasLines (record { progress = progress; steps = true }) image args before after
counted_tells progress image args steps before middle after lines made put = (middle, lines, (steps, made, put))

-- all lines are some
tells_reaches : (progress : Bool) (GoesOnAfter : ℕ → Type 0) (before after : Collected)
    → Tells HasLines progress GoesOnAfter before after → Tells Reaches progress GoesOnAfter before after
tells_reaches false GoesOnAfter before after told = told
tells_reaches true GoesOnAfter before after told = reaches told

pub run_tells_reaches : (options : StepOptions) (image : Fields) (args : List Arg) (before after : Collected)
    → RunTells HasLines options image args before after → RunTells Reaches options image args before after
run_tells_reaches options image args before after told =
    (told.0, tells_reaches options.progress (RunGoesOn image args) before told.0 told.1, told.2)

-- where the answer is a fault
pub err_map : {T E P Q : Type 0} (answer : Result T E) → (P → Q) → OnErr answer P → OnErr answer Q
err_map (Ok done) f h = tt
err_map (Err fault) f h = f h

pub ok_map : {T E P Q : Type 0} (answer : Result T E) → (P → Q) → OnOk answer P → OnOk answer Q
ok_map (Ok done) f h = f h
ok_map (Err fault) f h = tt
