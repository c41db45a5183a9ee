-- One element of an array, copied from where x5 is to where x6 is: inward, from where an argument points into its slot,
-- as what it means, or as it is. What is done with it is one computation for all kinds and both ways.
use Rattle.std.specs.Prelude.{is_some}
use Rattle.std.proofs.Common.{◌≡◌, ℕ, suc, ◌+◌, ◌*◌, ◌/◌, ◌%◌, ◌<◌, ◌≤◌, ◌==◌, Bool, true, false, List, [], ◌∷◌, ◌++◌}
use Rattle.std.proofs.Common.{length, Option, refl, sym, ap, arith}
use Rattle.std.proofs.lemmas.Bool.{lt-ltb}
use Rattle.linked_calls.specs.Paces.{few_elements, per_round, times}
use Rattle.linked_calls.specs.declared.pace.Pace.{Pace}
use Rattle.linked_calls.specs.declared.pace.Pace.TheVariants.{Fast, Small}
use Rattle.linked_calls.specs.declared.round.Round.{Round}
use Rattle.linked_calls.specs.declared.round.Round.TheVariants.{Four, One, Two}
use Rattle.linked_calls.proofs.Below.{after_all, are_straight, AreFit, AreMet, Boolean, copied_in_code}
use Rattle.linked_calls.proofs.Below.{copied_out_code, Data, element_bytes, elements_code, Event, Instr, IsFit, Kind}
use Rattle.linked_calls.proofs.Below.{LiesIn, meant, next_code, number_at, number_or_zero, sign_extended, Size, sum_of}
use Rattle.linked_calls.proofs.Below.{Uint16, Uint32, Uint8, with_number}
use Rattle.rv_machine.specs.declared.observation.Event.TheVariants as event
use Rattle.linked_calls.specs.Below.{Byte, Half, Word}
use Rattle.linked_calls.proofs.Bytes.{same_truth, with_number_cut}

-- The two ways.

abbrev pub element_code : Bool → Kind → ℕ → List Instr
element_code true kind = copied_in_code kind
element_code false kind = copied_out_code kind

-- what an element becomes
abbrev pub copied_value : Bool → Kind → ℕ → ℕ
copied_value true kind = meant kind
copied_value false kind = λ v. v

-- The sizes of elements.

abbrev pub element_size : Kind → Size
element_size Boolean = Byte
element_size Uint8 = Byte
element_size Uint16 = Half
element_size Uint32 = Word

-- an element lies in a stretch
pub element_lies : (kind : Kind) (low high x : ℕ) → low ≤ x → x + element_bytes kind ≤ high
    → LiesIn low high x (element_size kind)
element_lies Boolean low high x from to = (from, to)
element_lies kind low high x from to = (from, to)

pub some_bytes : (kind : Kind) → 0 < element_bytes kind
some_bytes Boolean = omega arith
some_bytes kind = omega arith

-- so many elements, and one more
pub elements_fit : (kind : Kind) (i k : ℕ) → i < k
    → element_bytes kind * i + element_bytes kind ≤ element_bytes kind * k
elements_fit Boolean i k few = omega arith
elements_fit kind i k few = omega arith

-- Rounds of a loop.

-- so many rounds, and once more
pub rounds_fit : (round : Round) (kind : Kind) (i k : ℕ) → i < k
    → element_bytes kind * (times round * i) + times round * element_bytes kind ≤ element_bytes kind * (times round * k)
rounds_fit One Boolean i k few = omega arith
rounds_fit One kind i k few = omega arith
rounds_fit Two Boolean i k few = omega arith
rounds_fit Two kind i k few = omega arith
rounds_fit Four Boolean i k few = omega arith
rounds_fit Four kind i k few = omega arith

-- a round copies some, and few
pub round_some : (round : Round) (kind : Kind) → 0 < times round * element_bytes kind
round_some One Boolean = omega arith
round_some One kind = omega arith
round_some Two Boolean = omega arith
round_some Two kind = omega arith
round_some Four Boolean = omega arith
round_some Four kind = omega arith

pub round_few : (round : Round) → times round ≤ 4
round_few One = omega arith
round_few Two = omega arith
round_few Four = omega arith

-- rounds and what is left are all
pub rounds_split : (round : Round) (k : ℕ) → times round * (k / times round) + k % times round ≡ k
rounds_split One k = omega arith
rounds_split Two k = omega arith
rounds_split Four k = omega arith

-- and few are left
pub left_few : (round : Round) (k : ℕ) → k % times round < 4
left_few One k = omega arith
left_few Two k = omega arith
left_few Four k = omega arith

pub round_inside : (round : Round) (i k : ℕ) → i < k → times round * i + times round ≤ times round * k
round_inside One i k few = omega arith
round_inside Two i k few = omega arith
round_inside Four i k few = omega arith

pub next_round : (round : Round) (i : ℕ) → times round * i + times round ≡ times round * suc i
next_round One i = omega arith
next_round Two i = omega arith
next_round Four i = omega arith

pub no_round : (round : Round) → 0 ≡ times round * 0
no_round One = omega arith
no_round Two = omega arith
no_round Four = omega arith

-- where there are not few elements, some go by rounds
pub rounds_some : (pace : Pace) (kind : Kind) (k : ℕ) → few_elements pace kind ≤ k → 0 < k / per_round pace kind
rounds_some Fast Boolean k many = omega arith
rounds_some Fast kind k many = omega arith
rounds_some Small Boolean k many = omega arith
rounds_some Small kind k many = omega arith

pub few_enough : (pace : Pace) (kind : Kind) → few_elements pace kind ≤ 16
few_enough Fast Boolean = omega arith
few_enough Fast kind = omega arith
few_enough Small Boolean = omega arith
few_enough Small kind = omega arith

pub fewer_fit : (kind : Kind) (i k : ℕ) → i ≤ k → element_bytes kind * i ≤ element_bytes kind * k
fewer_fit Boolean i k few = omega arith
fewer_fit kind i k few = omega arith

pub near_elements : (kind : Kind) (j : ℕ) → j ≤ 16 → element_bytes kind * j ≤ 64
near_elements Boolean j few = omega arith
near_elements kind j few = omega arith

pub element_even : (kind : Kind) (a i : ℕ) → a % element_bytes kind ≡ 0
    → (a + element_bytes kind * i) % element_bytes kind ≡ 0
element_even Boolean a i even = omega arith
element_even kind a i even = omega arith

pub word_even : (kind : Kind) (a : ℕ) → a % 4 ≡ 0 → a % element_bytes kind ≡ 0
word_even Boolean a even = omega arith
word_even kind a even = omega arith

-- The code of one element.

-- the register that it writes
abbrev pub element_works : ℕ → Bool
element_works q = q == 28

pub element_plain : (inward : Bool) (kind : Kind) (offset : ℕ) → offset < 4096
    → are_straight element_works (element_code inward kind offset) ≡ true
element_plain true Boolean offset near = simp (lt-ltb offset 4096 near)
element_plain false Boolean offset near = simp (lt-ltb offset 4096 near)
element_plain true kind offset near = simp (lt-ltb offset 4096 near)
element_plain false kind offset near = simp (lt-ltb offset 4096 near)

-- those of a round, and x5 and x6 moved
abbrev pub round_code : Bool → Kind → ℕ → List Instr
round_code inward kind count =
    elements_code (element_code inward kind) (element_bytes kind) 0 count ++ next_code (count * element_bytes kind)

pub round_length : (round : Round) (inward : Bool) (kind : Kind)
    → (0 < length (round_code inward kind (times round))) × (length (round_code inward kind (times round)) < 1024)
round_length One true Boolean = (omega arith, omega arith)
round_length One false Boolean = (omega arith, omega arith)
round_length One true kind = (omega arith, omega arith)
round_length One false kind = (omega arith, omega arith)
round_length Two true Boolean = (omega arith, omega arith)
round_length Two false Boolean = (omega arith, omega arith)
round_length Two true kind = (omega arith, omega arith)
round_length Two false kind = (omega arith, omega arith)
round_length Four true Boolean = (omega arith, omega arith)
round_length Four false Boolean = (omega arith, omega arith)
round_length Four true kind = (omega arith, omega arith)
round_length Four false kind = (omega arith, omega arith)

pub element_fit : (Allows : Option Event → Type 0) (inward : Bool) (kind : Kind) (offset a b : ℕ)
    → IsFit Allows (element_bytes kind) (event.Load a (element_size kind)) a
    → IsFit Allows (element_bytes kind) (event.Store b (element_size kind)) b
    → AreFit Allows (element_code inward kind offset) (a ∷ b ∷ [])
element_fit Allows true Boolean offset a b one other = (one, (other, tt))
element_fit Allows false Boolean offset a b one other = (one, (other, tt))
element_fit Allows true kind offset a b one other = (one, (other, tt))
element_fit Allows false kind offset a b one other = (one, (other, tt))

-- a register and an offset go to an address, where data is
pub record Reached (n value offset a : ℕ) (d : Data) : Type 0 where
  pub is : sum_of value (sign_extended 12 offset) ≡ a
  pub there : is_some (number_at d.bytes n a) ≡ true

pub element_met : (inward : Bool) (kind : Kind) (offset a b : ℕ) (d : Data)
    → Reached (element_bytes kind) (d.regs 5) offset a d → Reached (element_bytes kind) (d.regs 6) offset b d
    → AreMet (element_code inward kind offset) (a ∷ b ∷ []) d
element_met true Boolean offset a b d one other = (
  record { address = one.is; data_there = one.there },
  (record { address = other.is; data_there = other.there }, tt),
)
element_met false Boolean offset a b d one other = (
  record { address = one.is; data_there = one.there },
  (record { address = other.is; data_there = other.there }, tt),
)
element_met true kind offset a b d one other = (
  record { address = one.is; data_there = one.there },
  (record { address = other.is; data_there = other.there }, tt),
)
element_met false kind offset a b d one other = (
  record { address = one.is; data_there = one.there },
  (record { address = other.is; data_there = other.there }, tt),
)

-- what it makes
pub element_made : (inward : Bool) (kind : Kind) (offset a b : ℕ) (d : Data)
    → (after_all (element_code inward kind offset) (a ∷ b ∷ []) d).bytes
    ≡ with_number d.bytes (element_bytes kind) b
    (copied_value inward kind (number_or_zero (number_at d.bytes (element_bytes kind) a)))
element_made true Boolean offset a b d =
    ap (λ v. with_number d.bytes 1 b v) (same_truth (number_or_zero (number_at d.bytes 1 a)))
element_made true kind offset a b d =
    sym (with_number_cut d.bytes (element_bytes kind) b (number_or_zero (number_at d.bytes (element_bytes kind) a)))
element_made false Boolean offset a b d = refl
element_made false kind offset a b d = refl
