-- Steps of which more is known: one after another, and what follows of each.
use Rattle.std.proofs.Common.{◌≡◌, ℕ, ◌+◌, List, [], ◌∷◌, ◌++◌, All, Option, ◌∙◌, suc-add, zero-add, arith}
use Rattle.std.proofs.lemmas.List.Elements.{All-cons, All-head, All-nil, All-tail}
use Rattle.expression_code.specs.program_logic.MachineSteps.{at_most, Bound, exactly, IsCounted, LeadsBy, LeadsWithin}
use Rattle.expression_code.specs.program_logic.MachineSteps.{stays_by}
use Rattle.expression_code.specs.program_logic.MachineSteps.{steps_by}
use Rattle.expression_code.specs.Below.{MachineCode, Event, Leads, Observation, State, stays, steps_on}

module _ {code : MachineCode} {Each : State → Option Event → State → Type 0} where
  pub LeadsBy-append : {m n : ℕ} {s t u : State} {seen more : List Observation} → LeadsBy code Each m s seen t
      → LeadsBy code Each n t more u → LeadsBy code Each (m + n) s (seen ++ more) u
  LeadsBy-append stays_by then = rw zero-add then
  LeadsBy-append (steps_by first holds rest) then = rw suc-add (steps_by first holds (LeadsBy-append rest then))

  pub LeadsBy-weaken : {Less : State → Option Event → State → Type 0} {n : ℕ} {s t : State} {seen : List Observation}
      → ((s : State) (event : Option Event) (t : State) → Each s event t → Less s event t)
      → LeadsBy code Each n s seen t → LeadsBy code Less n s seen t
  LeadsBy-weaken less stays_by = stays_by
  LeadsBy-weaken less (steps_by first holds rest) = steps_by first (less _ _ _ holds) (LeadsBy-weaken less rest)

  -- one step
  pub one_by : {s t : State} {o : Observation} → Leads code 1 s (o ∷ []) t → Each s o.event t
      → LeadsBy code Each 1 s (o ∷ []) t
  one_by (steps_on first stays) holds = steps_by first holds stays_by

  -- the steps alone
  pub leads_alone : {n : ℕ} {s t : State} {seen : List Observation} → LeadsBy code Each n s seen t
      → Leads code n s seen t
  leads_alone stays_by = stays
  leads_alone (steps_by first holds rest) = steps_on first (leads_alone rest)

  -- what each keeps, all keep
  pub all_keep : {Keeps : State → State → Type 0} {n : ℕ} {s t : State} {seen : List Observation}
      → ((s : State) → Keeps s s) → ((s t u : State) → Keeps s t → Keeps t u → Keeps s u)
      → ((s : State) (event : Option Event) (t : State) → Each s event t → Keeps s t)
      → LeadsBy code Each n s seen t → Keeps s t
  all_keep same more keeps stays_by = same _
  all_keep same more keeps (steps_by first holds rest) =
      more _ _ _ (keeps _ _ _ holds) (all_keep same more keeps rest)

  -- what holds of what each shows, holds of all the list
  pub all_show : (Shows : Option Event → Type 0) {n : ℕ} {s t : State} {seen : List Observation}
      → ((s : State) (event : Option Event) (t : State) → Each s event t → Shows event)
      → LeadsBy code Each n s seen t → All (λ (o : Observation). Shows o.event) seen
  all_show Shows shows stays_by = All-nil (λ (o : Observation). Shows o.event)
  all_show Shows shows (steps_by first holds rest) =
      All-cons (λ (o : Observation). Shows o.event) _ _ (shows _ _ _ holds) (all_show Shows shows rest)

  -- what is known of the list as well
  pub both_within : {Shows : Option Event → Type 0} {Both : State → Option Event → State → Type 0} {n : ℕ} {s t : State}
      {seen : List Observation}
      → ((s : State) (event : Option Event) (t : State) → Each s event t → Shows event → Both s event t)
      → LeadsBy code Each n s seen t → All (λ (o : Observation). Shows o.event) seen → LeadsBy code Both n s seen t
  both_within may stays_by all = stays_by
  both_within {Shows = Shows} may (steps_by {o = o} {seen = seen} first one rest) all =
      steps_by first (may _ _ _ one (All-head (λ (o : Observation). Shows o.event) o seen all))
      (both_within may rest (All-tail (λ (o : Observation). Shows o.event) o seen all))

  -- where each keeps x2, it stays where it was
  pub still_there : {n : ℕ} {s t : State} {seen : List Observation} (sp : ℕ)
      → ((s : State) (event : Option Event) (t : State) → Each s event t → t.regs 2 ≡ s.regs 2) → s.regs 2 ≡ sp
      → LeadsBy code Each n s seen t → LeadsWithin code (λ x event. x ≡ sp) n s seen t
  still_there sp same there stays_by = stays_by
  still_there sp same there (steps_by first holds rest) =
      steps_by first there (still_there sp same (same _ _ _ holds ∙ there) rest)

-- How steps are counted.

pub counted : {m n : ℕ} (bound : Bound) → m ≡ n → IsCounted bound m n
counted exactly same = same
counted at_most same = omega arith

pub counted_then : (bound : Bound) (k m n : ℕ) → IsCounted bound k m → IsCounted bound m n → IsCounted bound k n
counted_then exactly k m n one other = one ∙ other
counted_then at_most k m n one other = omega arith

pub counted_both : (bound : Bound) (k l m n : ℕ) → IsCounted bound k m → IsCounted bound l n
    → IsCounted bound (k + l) (m + n)
counted_both exactly k l m n one other = omega arith
counted_both at_most k l m n one other = omega arith
