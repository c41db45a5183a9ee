-- Laws of entries: they tell lists of observations apart, and the first difference is one place.
use Rattle.std.proofs.Common.{◌≡◌, ℕ, ◌<◌, List, [], ◌∷◌, ◌++◌, Option, Some, None, zero, suc, take, refl, sym, ap}
use Rattle.std.proofs.Common.{ap₂, inl, inr, arith}
use Rattle.std.specs.Prelude.{slice_get}
use Rattle.std.proofs.lemmas.Bool.{cases_lt}
use Rattle.std.proofs.lemmas.List.{append_cancel_left}
use Rattle.rv_machine.specs.declared.observation.Event.{Event}
use Rattle.rv_machine.specs.declared.observation.Observation.{Observation}
use Rattle.rv_machine.specs.Entries.{Entry, event, events_of, entries_of, IsFirstDifference}

-- no list of entries begins with an event
no_event_first : (e : Event) (seen : List Observation) → slice_get (entries_of seen) 0 ≡ Some (event e) → ⊥
no_event_first e [] same = cc
no_event_first e (o ∷ seen) same = cc

-- so the event of the first step is determined by the next entry
pub first_event : (a b : Option Event) (one other : List Observation)
    → slice_get (events_of a ++ entries_of one) 0 ≡ slice_get (events_of b ++ entries_of other) 0 → a ≡ b
first_event None None one other same = refl
first_event None (Some e) one other same = absurd (no_event_first e one same)
first_event (Some e) None one other same = absurd (no_event_first e other (sym same))
first_event (Some d) (Some e) one other same = cc

-- equal entries come from equal observations
pub entries_of-injective : (one other : List Observation) → entries_of one ≡ entries_of other → one ≡ other
entries_of-injective [] [] same = refl
entries_of-injective [] (p ∷ other) same = cc
entries_of-injective (o ∷ one) [] same = cc
entries_of-injective (o ∷ one) (p ∷ other) same =
    let pcs : o.pc ≡ p.pc = cc in
    let rests : events_of o.event ++ entries_of one ≡ events_of p.event ++ entries_of other = cc in
    let events = first_event o.event p.event one other (ap (λ list. slice_get list 0) rests) in
    let tails : entries_of one ≡ entries_of other =
    append_cancel_left (events_of p.event) (entries_of one) (entries_of other) (rw events at rests) in
    let step : o ≡ p = ap₂ (λ n e. record { pc = n; event = e }) pcs events in
    let steps : one ≡ other = entries_of-injective one other tails in
    cc

-- lists that differ somewhere first are not equal
pub differ-apart : (one other : List Entry) (place : ℕ) → IsFirstDifference one other place → one ≡ other → ⊥
differ-apart one other place first same = first.there (ap (λ list. slice_get list place) same)

-- lists that agree before a place have one entry at each place before it
before_place : (one other : List Entry) (n k : ℕ) → take n one ≡ take n other → k < n
    → slice_get one k ≡ slice_get other k
before_place one other zero k same less = absurd (omega arith)
before_place [] [] (suc n) k same less = refl
before_place [] (y ∷ other) (suc n) k same less = cc
before_place (x ∷ one) [] (suc n) k same less = cc
before_place (x ∷ one) (y ∷ other) (suc n) zero same less = cc
before_place (x ∷ one) (y ∷ other) (suc n) (suc k) same less = before_place one other n k (cc) (omega arith)

-- so the first difference is one place
pub first-unique : (one other : List Entry) (a b : ℕ) → IsFirstDifference one other a
    → IsFirstDifference one other b → a ≡ b
first-unique one other a b first second = elim (cases_lt a b) [
  | inl less ↦ absurd (first.there (before_place one other b a second.before less))
  | inr from ↦ elim (cases_lt b a) [
    | inl less ↦ absurd (second.there (before_place one other a b first.before less))
    | inr to ↦ omega arith
  ]
]
