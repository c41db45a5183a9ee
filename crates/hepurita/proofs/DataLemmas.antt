-- Where the data is, before and after stores.
use Rattle.std.proofs.Common.{◌≡◌, ℕ, ◌+◌, ◌*◌, ◌<◌, ◌≤◌, Bool, true, ◌&&◌, nat_le, nat_lt, List, length, Some, None}
use Rattle.std.proofs.Common.{cond, is_some, ap, ◌∙◌, arith}
use Rattle.std.proofs.lemmas.Bool.Decides.{nat_tests}
use Rattle.hepurita.specs.Below.{Arg, Array, array_words, Boolean, ByteMap, element_bytes, Form, HasShape, number_at}
use Rattle.hepurita.specs.Below.{SingleWord, Slot, slot_bytes, slot_end, with_argument, Word, zeros}
use Rattle.hepurita.proofs.Below.{is_some-with_number}
use Rattle.language.specs.declared.signature.Kind.{Kind}
use Rattle.hepurita.specs.Frames.{HoldsSlot}
use Rattle.hepurita.proofs.ElementLemmas.{number_there, is_some-with_numbers}

within : (base n a : ℕ) → base ≤ a → a < base + n → (nat_le base a && nat_lt a (base + n)) ≡ true
within base n a low high = grind (arith, nat_tests)

-- the frame's bytes are data
pub zeros_there : (base n x : ℕ) → base ≤ x → x < base + n → is_some (zeros base n x) ≡ true
zeros_there base n x low high = ap (λ (b : Bool). is_some {T = ℕ} (cond b (Some 0) None)) (within base n x low high)

-- an argument that is a word lies in its slot
pub word_within : (form : Form) (kind : Kind) (n w : ℕ) → HasShape form n (Word w) → 4 ≤ slot_bytes form kind n
word_within SingleWord kind n w shape = omega arith
word_within form kind n w shape = absurd shape

pub bytes_within : (kind : Kind) (n : ℕ) → element_bytes kind * n ≤ 4 * array_words kind n
bytes_within Boolean n = omega arith
bytes_within kind n = omega arith

-- an array lies in its slot
pub elements_within : (form : Form) (kind : Kind) (n : ℕ) (words : List ℕ) → HasShape form n (Array words)
    → element_bytes kind * length words ≤ slot_bytes form kind n
elements_within SingleWord kind n words shape = absurd shape
elements_within form kind n words shape = rw shape (bytes_within kind n)

module _ (frame : ℕ) (bytes : ByteMap) (slot : Slot)
    (there : (x : ℕ) → frame + slot.offset ≤ x → x < frame + slot_end slot → is_some (bytes x) ≡ true) where
  pub word_there : (w : ℕ) → HasShape slot.param.form slot.param.length (Word w)
      → is_some (number_at bytes 4 (frame + slot.offset)) ≡ true
  word_there w shape =
      let fits = word_within slot.param.form slot.param.kind slot.param.length w shape in
      number_there bytes 4 (frame + slot.offset) (λ x low high. there x low (omega arith))

  -- an argument's store changes no place of the data
  pub argument_extent : (arg : Arg) → HasShape slot.param.form slot.param.length arg → (x : ℕ)
      → is_some (with_argument frame bytes slot arg x) ≡ is_some (bytes x)
  argument_extent (Word word) shape x =
      is_some-with_number bytes 4 (frame + slot.offset) word x (word_there word shape)
  argument_extent (Array words) shape x =
      let fits = elements_within slot.param.form slot.param.kind slot.param.length words shape in
      is_some-with_numbers bytes (element_bytes slot.param.kind) (frame + slot.offset) words
      (λ y low high. there y low (omega arith)) x

pub is_some-with_argument : (frame : ℕ) (bytes : ByteMap) (slot : Slot) → HoldsSlot frame bytes slot → (arg : Arg)
    → HasShape slot.param.form slot.param.length arg → (x : ℕ)
    → is_some (with_argument frame bytes slot arg x) ≡ is_some (bytes x)
is_some-with_argument frame bytes slot holds = argument_extent frame bytes slot holds.data_there

-- a slot's bytes stay data
pub HoldsSlot-same : (frame : ℕ) (old new : ByteMap) (slot : Slot) → ((x : ℕ) → is_some (new x) ≡ is_some (old x))
    → HoldsSlot frame old slot → HoldsSlot frame new slot
HoldsSlot-same frame old new slot same holds =
    record { below = holds.below; data_there = λ x low high. same x ∙ holds.data_there x low high }
