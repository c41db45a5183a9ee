-- Where what two steps show differs first.
use Rattle.std.proofs.Common.{◌≡◌, ℕ, List, [], ◌∷◌, ◌++◌, Option, Some, None, suc, length, ◌≤◌, refl, ap, arith}
use Rattle.rv_machine.specs.declared.observation.Event.{Event}
use Rattle.rv_machine.specs.declared.observation.Observation.{Observation}
use Rattle.rv_machine.specs.Entries.{Entry, program_counter, events_of, entries_of, IsFirstDifference}
use Rattle.rv_machine.proofs.EntryLaws.{first_event}

-- a common beginning moves the first difference by its length
pub first-after : (x : Entry) (one other : List Entry) (place : ℕ)
    → IsFirstDifference one other place → IsFirstDifference (x ∷ one) (x ∷ other) (suc place)
first-after x one other place first = record { before = ap (λ list. x ∷ list) first.before; there = first.there }

-- two steps at one program counter that show other events differ after it
pub events-differ : (a b : Observation) (one other : List Observation) → a.pc ≡ b.pc → (a.event ≡ b.event → ⊥)
    → IsFirstDifference (entries_of (a ∷ one)) (entries_of (b ∷ other)) 1
events-differ a b one other pcs apart = record {
  before = ap (λ n. program_counter n ∷ []) pcs;
  there = λ same. apart (first_event a.event b.event one other same);
}

pub count-few : (o : Observation) → length (entries_of (o ∷ [])) ≤ 2
count-few o = few o.event
  where
    few : (seen : Option Event) → suc (length (events_of seen ++ [])) ≤ 2
    few None = omega arith
    few (Some e) = omega arith

-- where one list has ended and the other has not, they differ at once
pub other-ends : (o : Observation) (seen : List Observation)
    → IsFirstDifference (entries_of (o ∷ seen)) (entries_of []) 0
other-ends o seen = record { before = refl; there = λ same. cc }

pub one-ends : (o : Observation) (seen : List Observation)
    → IsFirstDifference (entries_of []) (entries_of (o ∷ seen)) 0
one-ends o seen = record { before = refl; there = λ same. cc }
