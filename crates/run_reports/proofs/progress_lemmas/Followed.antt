-- A run as it is followed, step by step: how far it goes on.
use Rattle.std.proofs.Common.{◌≡◌, ℕ, zero, suc, ◌+◌, ◌*◌, ◌≤◌, ◌<◌, ◌⊎◌, max, Bool, true, List, [], ◌∷◌, ◌++◌, length}
use Rattle.std.proofs.Common.{length-append, Option, Some, None, is_some, inl, inr, refl, sym, ◌∙◌, arith}
use Rattle.std.proofs.lemmas.Option.{none-some}
use Rattle.run_reports.proofs.progress_lemmas.Together.{along, leads_all, step_along}
use Rattle.run_reports.proofs.progress_lemmas.Told.{all_told}
use Rattle.run_reports.specs.progress.GoingOn.{GoesOn, HasLines, IsTold, OneGoesOn, Reaches}
use Rattle.run_reports.specs.progress.Lines.{steps_a_line, WentOut}
use Rattle.run_reports.specs.Below.{begins, Collected, further, MachineCode, MakesAll, MakesProgress, Observation, State}

-- it has shown something in each of so many steps, or it has ended before that
pub data Followed (code : MachineCode) (m : ℕ) (s : State) (n : ℕ) (t : State) (steps : ℕ) : Type 0 where
  shows : (seen : List Observation) → MakesAll code m s seen n t → length seen ≡ steps → Followed code m s n t steps
  is_over : n ≡ 0 → ((due : ℕ) → steps ≤ due → GoesOn code m s due → ⊥) → Followed code m s n t steps

pub followed_from : {code : MachineCode} {m : ℕ} {s : State} → Followed code m s m s 0
followed_from = shows [] begins refl

-- behind a step that shows nothing it does not go on
no_further : {code : MachineCode} {m n k due : ℕ} {s t u : State} {seen : List Observation} {last : Option Observation}
    → MakesAll code m s seen n t → MakesProgress code n t last k u → last ≡ None → length seen ≤ due
    → (0 < n → length seen < due) → GoesOn code m s due → ⊥
no_further {n = n} made step none far near on =
    let way = along made on.1.2 on.0 far in
    let some : 0 < n = omega (arith, way.5, far, on.0) in
    let found = step_along step way.4 some (omega (arith, way.2, near some)) in
    none-some found.0 (sym none ∙ found.3)

-- one more step
pub followed_on : {code : MachineCode} {m n k steps : ℕ} {s t u : State} (last : Option Observation)
    → Followed code m s n t steps → MakesProgress code n t last k u → (is_some last ≡ true → k < n)
    → (last ≡ None → k ≡ 0) → Followed code m s k u (steps + 1)
followed_on (Some o) (shows seen made is) step fewer ended =
    shows (seen ++ o ∷ []) (further made step) (omega (arith, length-append seen (o ∷ []), is))
followed_on None (shows seen made is) step fewer ended =
    is_over (ended refl) (λ due later on.
    no_further made step refl (omega (arith, is, later)) (λ some. omega (arith, is, later)) on)
followed_on (Some o) (is_over none past) step fewer ended = absurd (omega (arith, fewer refl, none))
followed_on None (is_over none past) step fewer ended =
    is_over (ended refl) (λ due later on. past due (omega (arith, later)) on)

-- where more steps are left, all but these were made
pub followed_few : {code : MachineCode} {m n steps : ℕ} {s t : State} → Followed code m s n t steps → 0 < n
    → steps + n ≡ m
followed_few (shows seen made is) more = let led = leads_all made more in omega (arith, led.1, is)
followed_few (is_over none past) more = absurd (omega (arith, none, more))

-- and it goes on
pub followed_reaches : {code : MachineCode} {m n steps due : ℕ} {s t : State} → Followed code m s n t steps → 0 < n
    → steps ≡ due → GoesOn code m s due
followed_reaches {t = t} (shows seen made is) more equal =
    let led = leads_all made more in (omega (arith, led.1, more, is, equal), (seen, t, rw (is ∙ equal) at led.0))
followed_reaches (is_over none past) more equal = absurd (omega (arith, none, more))

-- it does not, where the next step shows nothing
followed_ends : {code : MachineCode} {m n k steps due : ℕ} {s t u : State} {last : Option Observation}
    → Followed code m s n t steps → MakesProgress code n t last k u → last ≡ None → steps ≤ due
    → (0 < n → steps < due) → GoesOn code m s due → ⊥
followed_ends (shows seen made is) step none far near on =
    no_further made step none (omega (arith, is, far)) (λ some. omega (arith, is, near some)) on
followed_ends {due = due} (is_over none past) step is far near on = past due far on

-- so the lines that went out of it are all
pub told_alone : {code : MachineCode} {m n k steps : ℕ} {s t u : State} {last : Option Observation}
    {before after : Collected} (whole : Bool) (count : ℕ) → Followed code m s n t steps
    → MakesProgress code n t last k u → last ≡ None → steps ≤ suc count * steps_a_line
    → (0 < n → steps < suc count * steps_a_line) → Reaches (GoesOn code m s) count → WentOut whole count before after
    → IsTold HasLines (GoesOn code m s) before after
told_alone {before = before} {after = after} whole count followed step none due next reached went = (
  count,
  record { reached = reached; no_more = λ on. followed_ends followed step none due next on },
  all_told whole count before after went,
)

-- where one of two shows something, more steps were left of it
pub left_of_one : {n k n' k' : ℕ} (one other : Option Observation) → (is_some one ≡ true → k < n)
    → (is_some other ≡ true → k' < n') → ((one ≡ None) × (other ≡ None) → ⊥) → (0 < n) ⊎ (0 < n')
left_of_one (Some o) other fewer fewer' some = inl (omega (arith, fewer refl))
left_of_one None (Some p) fewer fewer' some = inr (omega (arith, fewer' refl))
left_of_one None None fewer fewer' some = absurd (some (refl, refl))

-- and so where more are left of the longer
pub left_of_longer : (n n' : ℕ) {left : ℕ} → left ≡ max n n' → 0 < left → (0 < n) ⊎ (0 < n')
left_of_longer zero n' is more = inr (omega (arith, is, more))
left_of_longer (suc n) n' is more = inl (omega arith)

-- two runs, each as it is followed
module _ {code : MachineCode} {m n m' n' steps : ℕ} {s t s' t' : State} (one : Followed code m s n t steps)
    (other : Followed code m' s' n' t' steps) where
  -- where more are left of one of them, that one goes on
  pub one_goes_on : {due : ℕ} → (0 < n) ⊎ (0 < n') → steps ≡ due → OneGoesOn code m s m' s' due
  one_goes_on (inl more) is = inl (followed_reaches one more is)
  one_goes_on (inr more) is = inr (followed_reaches other more is)

  -- fewer steps were made than one of them may make
  pub few_of_one : {limit : ℕ} → (0 < n) ⊎ (0 < n') → m < limit → m' < limit → steps + 1 < limit
  few_of_one (inl more) low low' = omega (arith, followed_few one more, more, low)
  few_of_one (inr more) low low' = omega (arith, followed_few other more, more, low')

  -- where neither shows more, the lines that went out of both are all
  pub told_of_both : {k k' : ℕ} {u u' : State} {last last' : Option Observation} {before after : Collected}
      (whole : Bool) (count : ℕ) → MakesProgress code n t last k u → MakesProgress code n' t' last' k' u'
      → last ≡ None → last' ≡ None → steps ≤ suc count * steps_a_line
      → ((0 < n) ⊎ (0 < n') → steps < suc count * steps_a_line) → Reaches (OneGoesOn code m s m' s') count
      → WentOut whole count before after → IsTold HasLines (OneGoesOn code m s m' s') before after
  told_of_both {before = before} {after = after} whole count step step' none none' due next reached went = (
    count,
    record {
      reached = reached;
      no_more = λ on. elim on [
        | inl goes ↦ followed_ends one step none due (λ more. next (inl more)) goes
        | inr goes ↦ followed_ends other step' none' due (λ more. next (inr more)) goes
      ];
    },
    all_told whole count before after went,
  )
