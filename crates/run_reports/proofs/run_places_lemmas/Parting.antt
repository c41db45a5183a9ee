-- The last steps before the first difference of two runs are one step.
use Rattle.std.proofs.Common.{◌≡◌, ℕ, zero, suc, ◌+◌, ◌-◌, ◌<◌, ◌≤◌, List, [], ◌∷◌, ◌++◌, Option, Some, None, length}
use Rattle.std.proofs.Common.{take, refl, sym, ap, ◌∙◌, inl, inr, arith}
use Rattle.std.proofs.Math.Seq.{take-append-add}
use Rattle.run_reports.specs.Below.{MachineCode, effect_of, StepEnding, entries_of, Entry, Event, events_of, executes}
use Rattle.run_reports.specs.Below.{goes_on, here, IsFirstDifference, no_instruction, not_code, Observation}
use Rattle.run_reports.specs.Below.{pc_misaligned, program_counter, State, Stop, stops, Step}
use Rattle.run_reports.proofs.run_places_lemmas.Below.{IsOwn, goes_own, stops_own, effect_own, entry_count-append}
use Rattle.run_reports.proofs.run_places_lemmas.Below.{entries_of-injective, Runs-determined, entries_of-append}
use Rattle.run_reports.specs.run_places.Places.{Ends, ShowsNext, IsLastBefore}
use Rattle.run_reports.proofs.run_places_lemmas.Runs.{ends_next}

-- What a step shows, it shows of its own program counter.

abbrev IsHere : ℕ → StepEnding → Type 0
IsHere pc (goes_on o t) = o.pc ≡ pc
IsHere pc (stops seen stop) = (o : Observation) → seen ≡ o ∷ [] → o.pc ≡ pc

first_pc : List Observation → ℕ
first_pc [] = 0
first_pc (o ∷ list) = o.pc

here_alone : (s : State) (o : Observation) → here s ≡ o ∷ [] → o.pc ≡ s.pc
unfolding first_pc
here_alone s o same = sym (ap first_pc same)

step_here : {code : MachineCode} {s : State} {e : StepEnding} → Step code s e → IsHere s.pc e
step_here (pc_misaligned odd) = λ o same. cc
step_here (not_code even none) = λ o same. cc
step_here {s = s} (no_instruction even is misfit) = here_alone s
step_here {code} {s} (executes {ending = e} i even is ok ends) =
    from_own {e = e} (rw ends (effect_own code.profile (effect_of i s.pc s.regs) s))
  where
    from_own : {e : StepEnding} → IsOwn s e → IsHere s.pc e
    from_own goes_own = refl
    from_own (stops_own calm more) = here_alone s

next_here : (code : MachineCode) (t : State) (o : Observation) → ShowsNext code t o → o.pc ≡ t.pc
next_here code t o (inl (u, step)) = step_here step
next_here code t o (inr (stop, step)) = step_here step o refl

-- The entries before the place are those of whole steps, but that the last one's event may not be before it.

cut : (pc : ℕ) (ev : Option Event) (rest : List Entry) (k : ℕ) → 0 < k
    → k ≤ length (program_counter pc ∷ events_of ev ++ [])
    → (p : Option Event)
    × (take k (program_counter pc ∷ events_of ev ++ rest) ≡ program_counter pc ∷ events_of p ++ [])
cut pc ev rest zero some fits = absurd (omega (arith, some))
cut pc None rest (suc zero) some fits = (None, refl)
cut pc None rest (suc (suc k)) some fits = absurd (omega (arith, fits))
cut pc (Some e) rest (suc zero) some fits = (None, refl)
cut pc (Some e) rest (suc (suc zero)) some fits = (Some e, refl)
cut pc (Some e) rest (suc (suc (suc k))) some fits = absurd (omega (arith, fits))

module _ (code : MachineCode) (budget : ℕ) (s : State) (whole : List Observation) (stop : Stop)
    (ends : Ends code budget s whole stop) (place : ℕ) (seen : List Observation) (t : State)
    (last : IsLastBefore code budget s place seen t) where
  whole_is : (more : List Observation) × (whole ≡ seen ++ last.next ∷ more)
  whole_is =
      let run = ends_next last.leads last.next last.shown last.within in
      (run.0, (Runs-determined ends.1 run.2.1 ends.2 run.2.2).0)

  pub entries_before : (p : Observation) × (p.pc ≡ last.next.pc)
      × (take place (entries_of whole) ≡ entries_of (seen ++ p ∷ []))
  entries_before =
      let o = last.next in
      let more = whole_is.0 in
      let k = place - length (entries_of seen) in
      let at : length (entries_of seen) + k ≡ place = omega (arith, last.before) in
      let some : 0 < k = omega (arith, last.before) in
      let fits : k ≤ length (program_counter o.pc ∷ events_of o.event ++ []) =
      omega (arith, last.reached, entry_count-append seen (o ∷ []), last.before) in
      let last_one = cut o.pc o.event (entries_of more) k some fits in
      let p : Observation = record { pc = o.pc; event = last_one.0 } in
      let split : entries_of whole ≡ entries_of seen ++ entries_of (o ∷ more) = ap entries_of whole_is.1
      ∙ entries_of-append seen (o ∷ more) in
      let taken : take place (entries_of whole) ≡ entries_of seen ++ take k (entries_of (o ∷ more)) =
      ap (take place) split ∙ (ap (λ n. take n (entries_of seen ++ entries_of (o ∷ more))) (sym at)
      ∙ take-append-add (entries_of seen) (entries_of (o ∷ more)) k) in
      (p, refl, taken ∙ (ap (λ l. entries_of seen ++ l) last_one.1 ∙ sym (entries_of-append seen (p ∷ []))))

-- Lists with one more at the end.

not_empty : (b : List Observation) (q : Observation) → [] ≡ b ++ q ∷ [] → ⊥
not_empty [] q same = cc
not_empty (y ∷ b) q same = cc

last_apart : (a b : List Observation) (p q : Observation) → a ++ p ∷ [] ≡ b ++ q ∷ [] → (a ≡ b) × (p ≡ q)
last_apart [] [] p q same = (refl, cc)
last_apart [] (y ∷ b) p q same = let rest : [] ≡ b ++ q ∷ [] = cc in absurd (not_empty b q rest)
last_apart (x ∷ a) [] p q same = let rest : [] ≡ a ++ p ∷ [] = cc in absurd (not_empty a p rest)
last_apart (x ∷ a) (y ∷ b) p q same =
    let head : x ≡ y = cc in
    let rest : a ++ p ∷ [] ≡ b ++ q ∷ [] = cc in
    let parts = last_apart a b p q rest in
    let tail : a ≡ b = parts.0 in
    (cc, parts.1)

pub one_last_step : (code : MachineCode) (budget : ℕ) (s s' t t' : State) (whole whole' seen seen' : List Observation)
    (stop stop' : Stop) (place : ℕ)
    → Ends code budget s whole stop → Ends code budget s' whole' stop'
    → IsFirstDifference (entries_of whole) (entries_of whole') place
    → IsLastBefore code budget s place seen t → IsLastBefore code budget s' place seen' t'
    → (seen ≡ seen') × (t.pc ≡ t'.pc)
one_last_step code budget s s' t t' whole whole' seen seen' stop stop' place ends ends' differ last last' =
    let one = entries_before code budget s whole stop ends place seen t last in
    let other = entries_before code budget s' whole' stop' ends' place seen' t' last' in
    let same : entries_of (seen ++ one.0 ∷ []) ≡ entries_of (seen' ++ other.0 ∷ []) = sym one.2
    ∙ (differ.before ∙ other.2) in
    let parts = last_apart seen seen' one.0 other.0 (entries_of-injective _ _ same) in
    let pc : one.0.pc ≡ other.0.pc = ap (λ (o : Observation). o.pc) parts.1 in (
      parts.0,
      sym (next_here code t last.next last.shown)
          ∙ (sym one.1 ∙ (pc ∙ (other.1 ∙ next_here code t' last'.next last'.shown))),
    )
