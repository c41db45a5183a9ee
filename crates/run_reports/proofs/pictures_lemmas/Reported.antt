-- What went out while runs were counted, of the same runs from the same states on.
use Rattle.std.proofs.Common.{◌≡◌, ℕ, Result, Ok, Err, OnOk, OnErr, subst}
use Rattle.run_reports.proofs.progress_lemmas.Told.{none_told, reaches}
use Rattle.run_reports.specs.Below.{Collected, MachineCode, State}
use Rattle.run_reports.specs.pictures.Telling.{PictureTells}
use Rattle.run_reports.specs.progress.GoingOn.{Counting, GoesOn, HasLines, IsTold, OneGoesOn, Reaches}

-- the lines of a run are those of another that begins alike
pub told_again : {code : MachineCode} {steps steps' : ℕ} {s s' : State} {before after : Collected} → steps ≡ steps'
    → s ≡ s' → IsTold HasLines (GoesOn code steps s) before after → IsTold HasLines (GoesOn code steps' s') before after
told_again {code} {steps' = steps'} {s} {before = before} {after = after} same_steps same_state told =
    subst (λ (x : State). IsTold HasLines (GoesOn code steps' x) before after) same_state
    (subst (λ (n : ℕ). IsTold HasLines (GoesOn code n s) before after) same_steps told)

-- what went out of both counted, and then of both drawn
pub picture_tells : {Has : Counting} {code : MachineCode} {steps steps' : ℕ} {s s' : State}
    {before between counted after : Collected} → IsTold Has (GoesOn code steps s) before between
    → IsTold Has (GoesOn code steps' s') between counted → IsTold Has (OneGoesOn code steps s steps' s') counted after
    → PictureTells Has code steps s steps' s' before after
picture_tells {between = between} {counted = counted} one other drawn =
    record { between = between; counted = counted; one = one; other = other; drawn = drawn }

-- and where they were not drawn
pub counts_tell : {code : MachineCode} {steps steps' : ℕ} {s s' : State} {before between after : Collected}
    → IsTold Reaches (GoesOn code steps s) before between → IsTold Reaches (GoesOn code steps' s') between after
    → PictureTells Reaches code steps s steps' s' before after
counts_tell {code} {steps} {steps'} {s} {s'} {after = after} one other =
    picture_tells one other (none_told (OneGoesOn code steps s steps' s') after)

-- nor counted
pub nothing_tells : (code : MachineCode) (steps : ℕ) (s : State) (steps' : ℕ) (s' : State) (now : Collected)
    → PictureTells Reaches code steps s steps' s' now now
nothing_tells code steps s steps' s' now =
    counts_tell (none_told (GoesOn code steps s) now) (none_told (GoesOn code steps' s') now)

-- all lines are some
pub picture_reaches : {code : MachineCode} {steps steps' : ℕ} {s s' : State} {before after : Collected}
    → PictureTells HasLines code steps s steps' s' before after → PictureTells Reaches code steps s steps' s' before after
picture_reaches told = picture_tells (reaches told.one) (reaches told.other) (reaches told.drawn)

-- where it holds whatever the answer is
pub on_ok : {T E P : Type 0} (answer : Result T E) → P → OnOk answer P
on_ok (Ok done) p = p
on_ok (Err fault) p = tt

pub on_err : {T E P : Type 0} (answer : Result T E) → P → OnErr answer P
on_err (Ok done) p = tt
on_err (Err fault) p = p
