-- A hart alone whose run stops, and what it is after any number of steps.
use Rattle.std.specs.Prelude.{◌⊎◌}
use Rattle.std.proofs.Common.{◌≡◌, ◌≢◌, ℕ, zero, suc, ◌≤◌, List, [], ◌∷◌, ◌++◌, length, take, Some, None, refl, sym, ap}
use Rattle.std.proofs.Common.{◌∙◌, inl, inr, arith, append-nil}
use Rattle.std.proofs.lemmas.Option.{same_Some}
use Rattle.rv_machine.specs.declared.observation.Observation.{Observation}
use Rattle.rv_machine.specs.declared.stops.Stop.{Stop}
use Rattle.rv_machine.specs.declared.stops.Stop.TheVariants.{AccessFault}
use Rattle.rv_machine.specs.Apart.{KeepsInside}
use Rattle.rv_machine.specs.Bytes.{ByteMap}
use Rattle.rv_machine.specs.Leakage.{Leads, stays, steps_on, Halts, halts}
use Rattle.rv_machine.specs.Machine.{State, stops, Step}
use Rattle.rv_machine.specs.System.{Member, state_in, gone_on, MemberStep, rests, moves, ends, HartMakes, none}
use Rattle.rv_machine.specs.System.{one_more}
use Rattle.rv_machine.proofs.RunLaws.{Step-determined, goes_on-determined, goes_on≢stops}
use Rattle.rv_machine.proofs.TotalLaws.{step_stops}

-- what a hart is after k steps, where its run of n steps shows this and stops there
pub record Made (k n : ℕ) (seen : List Observation) (stop : Stop) (t : State) (list : List Observation)
    (bytes : ByteMap) (after : Member) : Type 0 where
  pub stands : (after.stop ≡ None) ⊎ (after.stop ≡ Some stop)
  pub shown : list ≡ take k seen
  pub finished : n ≤ k → (after.stop ≡ Some stop) × (bytes ≡ t.bytes) × (list ≡ seen)

-- one that has stopped stays so
stays_stopped : {k : ℕ} {bytes bytes' : ByteMap} {m after : Member} {list : List Observation} {stop : Stop}
    → m.stop ≡ Some stop → HartMakes k bytes m list bytes' after
    → (after.stop ≡ Some stop) × (bytes' ≡ bytes) × (list ≡ [])
stays_stopped is none = (is, refl, refl)
stays_stopped is (one_more (rests same) more e) =
    let then = stays_stopped is more in
    (then.0, then.1, e ∙ then.2)
stays_stopped is (one_more (moves going step) more e) = cc
stays_stopped is (one_more (ends going step) more e) = cc

take_short : (k : ℕ) (last : List Observation) → length last ≤ 1 → take (suc k) last ≡ last
take_short k [] short = refl
take_short zero (o ∷ []) short = refl
take_short (suc k) (o ∷ []) short = refl
take_short k (o ∷ p ∷ rest) short = absurd (omega arith)

-- the step that stops, and then any number
last_made : {k : ℕ} {own bytes between : ByteMap} {m after next : Member} {last seen rest list : List Observation}
    {stop : Stop} → m.stop ≡ None → Step m.code (state_in own m) (stops last stop)
    → MemberStep own m seen between next → HartMakes k between next rest bytes after → list ≡ seen ++ rest
    → Made (suc k) 1 last stop (state_in own m) list bytes after
last_made going end (rests is) more e = cc
last_made going end (moves still step) more e = absurd (goes_on≢stops step end)
last_made {k} {own = own} {m = m} {last = last} {seen = seen} {stop = stop} going end
    (ends {stop = other} still step) more e =
    let same = Step-determined step end in
    let same_stop : other ≡ stop = cc in
    let same_list : seen ≡ last = cc in
    let then = stays_stopped {stop = other} refl more in
    let all = e ∙ ap (λ xs. seen ++ xs) then.2 ∙ append-nil seen ∙ same_list in
    let short = (step_stops m.code (state_in own m) last stop end).1 in
    record {
      stands = inr (then.0 ∙ ap Some same_stop);
      shown = all ∙ sym (take_short k last short);
      finished = λ within. (then.0 ∙ ap Some same_stop, then.1, all);
    }

more_made : {k n : ℕ} {o : Observation} {seen rest list : List Observation} {stop : Stop} {t : State}
    {bytes : ByteMap} {after : Member} → Made k n seen stop t rest bytes after → list ≡ o ∷ rest
    → Made (suc k) (suc n) (o ∷ seen) stop t list bytes after
more_made {o = o} then e = record {
  stands = then.stands;
  shown = e ∙ ap (λ xs. o ∷ xs) then.shown;
  finished = λ within.
      let end = then.finished (omega arith) in
      (end.0, end.1, e ∙ ap (λ xs. o ∷ xs) end.2);
}

not_yet : {n : ℕ} {own : ByteMap} {m : Member} {seen : List Observation} {stop : Stop} {t : State} → m.stop ≡ None
    → Made zero (suc n) seen stop t [] own m
not_yet going = record { stands = inl going; shown = refl; finished = λ within. absurd (omega arith) }

made : {k n : ℕ} {own bytes : ByteMap} {m after : Member} {seen last list : List Observation} {stop : Stop}
    {t : State} → m.stop ≡ None → Leads m.code n (state_in own m) seen t → Step m.code t (stops last stop)
    → HartMakes k own m list bytes after → Made k (suc n) (seen ++ last) stop t list bytes after
made going first end none = not_yet going
made going stays end (one_more step more e) = last_made going end step more e
made going (steps_on first then) end (one_more (rests is) more e) = cc
made going (steps_on first then) end (one_more (ends still step) more e) = absurd (goes_on≢stops first step)
made {m = m} going (steps_on first then) end (one_more (moves {t = u} still step) more e) =
    let same = goes_on-determined first step in
    more_made (made {m = gone_on m u} refl (rw same.1 at then) end more) (rw (e, same.0))

made_of : {k n : ℕ} {own bytes : ByteMap} {m after : Member} {seen list : List Observation} {stop : Stop} {t : State}
    → m.stop ≡ None → Halts m.code n (state_in own m) seen stop t → HartMakes k own m list bytes after
    → Made k n seen stop t list bytes after
made_of going (halts first end is) makes = rw is (made going first end makes)

pub keeps_inside : (m : Member) (own : ByteMap) (n : ℕ) (seen : List Observation) (stop : Stop) (t : State)
    → m.stop ≡ None → Halts m.code n (state_in own m) seen stop t → stop ≢ AccessFault → KeepsInside own m
keeps_inside m own n seen stop t going halting calm k list bytes after makes e =
    elim (made_of going halting makes).stands [ inl is ↦ cc | inr is ↦ calm (same_Some stop AccessFault (sym is ∙ e)) ]

pub shown_alone : (m after : Member) (own bytes : ByteMap) (n k : ℕ) (seen list : List Observation) (stop : Stop)
    (t : State) → m.stop ≡ None → Halts m.code n (state_in own m) seen stop t → HartMakes k own m list bytes after
    → list ≡ take k seen
shown_alone m after own bytes n k seen list stop t going halting makes = (made_of going halting makes).shown

pub stopped_alone : (m after : Member) (own bytes : ByteMap) (n k : ℕ) (seen list : List Observation) (stop : Stop)
    (t : State) → m.stop ≡ None → Halts m.code n (state_in own m) seen stop t → HartMakes k own m list bytes after
    → n ≤ k → (after.stop ≡ Some stop) × (bytes ≡ t.bytes) × (list ≡ seen)
stopped_alone m after own bytes n k seen list stop t going halting makes = (made_of going halting makes).finished
