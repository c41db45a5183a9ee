-- Arguments that are put into their slots: what lies there then, and that bytes beside the slots are as they were,
-- whatever they are.
use Rattle.std.proofs.Common.{◌≡◌, ◌⊎◌, inl, inr, ℕ, zero, suc, ◌+◌, ◌*◌, ◌<◌, ◌≤◌, List, [], ◌∷◌, length, map, take}
use Rattle.std.proofs.Common.{drop, ◌/◌, ◌%◌, Option, None, Some, slice_get, slice_index, is_some, true, refl, sym, ap, ap₂}
use Rattle.std.proofs.Common.{◌∙◌}
use Rattle.std.proofs.Common.{subst, arith}
use Rattle.inline.proofs.FittingBodies.{argument_held}
use Rattle.codegen.proofs.Machine.{slots_from, with_numbers, with_argument, with_arguments, ByteMap, number_at}
use Rattle.codegen.proofs.Machine.{with_number}
use Rattle.expression_code.specs.declared.image_fields.slot.Slot.{Slot}
use Rattle.rv_machine.specs.Bytes.{with_byte}
use Rattle.codegen.proofs.Language.{AreWithin, IsWithin, HasShape, words_of, FlatVariable, numbers_in, declaration_of}
use Rattle.codegen.proofs.Language.{given, declared_words, Form, SingleWord, FixedArray, MutableArray, Kind, Boolean}
use Rattle.codegen.proofs.Language.{Label, Param, WordType, Arg, Word, Array, element_bytes, array_words}
use Rattle.codegen.proofs.Logic.{number_at_same, place_within, none-some, bytes_by, bytes_of, place_of}
use Rattle.codegen.proofs.Logic.{cases_eq, with_byte_same, with_byte_other, with_number-zero, with_number-suc}
use Rattle.codegen.proofs.Slots.{cut_number}
use Rattle.inline.specs.FlatSize as flat_size
use Rattle.codegen.proofs.Numbers.{number_data, numbers_beside, numbers_data, numbers_there}

in_words : (word : WordType) (elements : Option ℕ)
    → bytes_by word.kind elements * numbers_in elements ≤ 4 * flat_size.words_by word elements
in_words word None = omega arith
in_words word (Some n) = in_array word.kind
  where
    in_array : (kind : Kind) → element_bytes kind * n ≤ 4 * array_words kind n
    in_array Boolean = omega arith
    in_array kind = omega arith

-- One argument.

abbrev made : Kind → Label → ℕ → Form → Param
made k l n form = record { kind = k; label = l; form = form; length = n }

-- its numbers are put one after another
module _ (frame : ℕ) where
  lies : (k : Kind) (l : Label) (n : ℕ) (form : Form) (arg : Arg) → HasShape form n arg → (bytes : ByteMap) (low : ℕ)
      → with_argument frame bytes (record { param = made k l n form; offset = low }) arg
      ≡ with_numbers bytes (bytes_of (declaration_of (made k l n form))) (frame + low) (words_of arg)
  lies k l n SingleWord (Word w) shape bytes low = refl
  lies k l n FixedArray (Array ws) shape bytes low = refl
  lies k l n MutableArray (Array ws) shape bytes low = refl
  lies k l n form arg shape bytes low = absurd shape

  -- they lie in its slot
  argument_there : (p : Param) (bytes : ByteMap) (low : ℕ) (arg : Arg) (i : ℕ) → IsWithin p arg
      → i < numbers_in (declaration_of p).elements
      → number_at (with_argument frame bytes (record { param = p; offset = low }) arg) (bytes_of (declaration_of p))
      (frame + (low + bytes_of (declaration_of p) * i)) ≡ Some (slice_index (words_of arg) i)
  argument_there p bytes low arg i within below =
      let d = declaration_of p in
      let held = argument_held p arg within in
      let at : frame + (low + bytes_of d * i) ≡ frame + low + bytes_of d * i = omega arith in
      ap₂ (λ (b : ByteMap) a. number_at b (bytes_of d) a)
      (lies p.kind p.label p.length p.form arg within.shape bytes low) at
      ∙ numbers_there bytes (bytes_of d) (frame + low) (words_of arg) i
      (λ j less. cut_number p.kind d.elements _ (held.within j 0 less)) (omega (arith, below, held.count))

  -- bytes beside its slot are as they were
  argument_beside : (p : Param) (bytes : ByteMap) (low : ℕ) (arg : Arg) (x : ℕ) → IsWithin p arg
      → (x < frame + low) ⊎ (frame + low + 4 * flat_size.words_of (declaration_of p) ≤ x)
      → with_argument frame bytes (record { param = p; offset = low }) arg x ≡ bytes x
  argument_beside p bytes low arg x within side =
      ap (λ (b : ByteMap). b x) (lies p.kind p.label p.length p.form arg within.shape bytes low)
      ∙ numbers_beside bytes (bytes_of (declaration_of p)) (frame + low) (words_of arg) x (by_side side)
    where
      by_side : (x < frame + low) ⊎ (frame + low + 4 * flat_size.words_of (declaration_of p) ≤ x)
          → (x < frame + low) ⊎ (frame + low + bytes_of (declaration_of p) * length (words_of arg) ≤ x)
      by_side (inl below) = inl below
      by_side (inr above) =
          let d = declaration_of p in
          let few : bytes_of d * length (words_of arg) ≤ 4 * flat_size.words_of d =
          rw (argument_held p arg within).count (in_words d.word d.elements) in
          inr (omega (arith, above, few))

  -- All of them.

  -- bytes beside all slots are as they were
  pub arguments_beside : (bytes : ByteMap) (low : ℕ) (ps : List Param) (args : List Arg) (x : ℕ) → AreWithin ps args
      → (x < frame + low) ⊎ (frame + low + 4 * declared_words (map declaration_of ps) ≤ x)
      → with_arguments frame bytes (slots_from low ps) args x ≡ bytes x
  arguments_beside bytes low [] args x within side = refl
  arguments_beside bytes low (p ∷ ps) (arg ∷ args) x within (inl below) =
      arguments_beside (with_argument frame bytes (record { param = p; offset = low }) arg)
      (low + 4 * flat_size.words_of (declaration_of p)) ps args x within.1 (inl (omega (arith, below)))
      ∙ argument_beside p bytes low arg x within.0 (inl below)
  arguments_beside bytes low (p ∷ ps) (arg ∷ args) x within (inr above) =
      arguments_beside (with_argument frame bytes (record { param = p; offset = low }) arg)
      (low + 4 * flat_size.words_of (declaration_of p)) ps args x within.1 (inr (omega (arith, above)))
      ∙ argument_beside p bytes low arg x within.0 (inr (omega (arith, above)))
  arguments_beside bytes low ps args x within side = absurd within

  -- what is data stays data
  pub arguments_data : (bytes : ByteMap) (low : ℕ) (ps : List Param) (args : List Arg) (x : ℕ) → is_some (bytes x) ≡ true
      → is_some (with_arguments frame bytes (slots_from low ps) args x) ≡ true
  arguments_data bytes low [] args x here = here
  arguments_data bytes low (p ∷ ps) [] x here = here
  arguments_data bytes low (p ∷ ps) (Word w ∷ args) x here =
      arguments_data (with_number bytes 4 (frame + low) w) (low + 4 * flat_size.words_of (declaration_of p)) ps args x
      (number_data bytes 4 (frame + low) w x here)
  arguments_data bytes low (p ∷ ps) (Array ws ∷ args) x here =
      arguments_data (with_numbers bytes (element_bytes p.kind) (frame + low) ws)
      (low + 4 * flat_size.words_of (declaration_of p)) ps args x
      (numbers_data bytes (element_bytes p.kind) (frame + low) ws x here)

  -- each parameter's numbers lie in its slot; the parameters are the first variables
  pub given_there : (bytes : ByteMap) (low : ℕ) (ps : List Param) (args : List Arg) (ds : List FlatVariable) (x : ℕ)
      (d : FlatVariable) (i : ℕ)
      → AreWithin ps args → take (length ps) ds ≡ map declaration_of ps → x < length ps
      → slice_get ds x ≡ Some d → i < numbers_in d.elements
      → number_at (with_arguments frame bytes (slots_from low ps) args) (bytes_of d)
      (frame + (low + place_of ds x d i)) ≡ Some (slice_index (given ds args x) i)
  given_there bytes low [] args ds x d i within first less is below = absurd (omega (arith, less))
  given_there bytes low (p ∷ ps) args [] x d i within first less is below = absurd (none-some d is)
  given_there bytes low (p ∷ ps) (arg ∷ args) (e ∷ ds) zero d i within first less is below =
      let own = declaration_of p in
      let next = with_argument frame bytes (record { param = p; offset = low }) arg in
      let at = low + 4 * flat_size.words_of own in
      let all = with_arguments frame next (slots_from at ps) args in
      let same : own ≡ d = cc in
      subst (λ (f : FlatVariable). i < numbers_in f.elements
      → number_at all (bytes_of f) (frame + (low + place_of (e ∷ ds) 0 f i)) ≡ Some (slice_index (words_of arg) i)) same
      (λ less.
      let here : frame + (low + place_of (e ∷ ds) 0 own i) ≡ frame + (low + bytes_of own * i) = omega arith in
      let w = place_within (own ∷ []) 0 own i less in
      ap (λ a. number_at all (bytes_of own) a) here
      ∙ (number_at_same next all (bytes_of own) (frame + (low + bytes_of own * i))
      (λ a from to. arguments_beside next at ps args a within.1 (inl (omega (arith, to, w))))
      ∙ argument_there p bytes low arg i within.0 less))
      below
  given_there bytes low (p ∷ ps) (arg ∷ args) (e ∷ ds) (suc x) d i within first less is below =
      let next = with_argument frame bytes (record { param = p; offset = low }) arg in
      let at = low + 4 * flat_size.words_of (declaration_of p) in
      let same : e ≡ declaration_of p = cc in
      let words = ap flat_size.words_of same in
      let there : frame + (low + place_of (e ∷ ds) (suc x) d i) ≡ frame + (at + place_of ds x d i) =
      omega (arith, words) in
      ap (λ a. number_at (with_arguments frame next (slots_from at ps) args) (bytes_of d) a) there
      ∙ given_there next at ps args ds x d i within.1 (ap (λ xs. drop 1 xs) first) (omega (arith, less)) is below
  given_there bytes low ps args ds x d i within first less is below = absurd within

-- Where two maps hold the same, they do so with arguments put into both.

with_byte_agree : (one other : ByteMap) (a b x : ℕ) → one x ≡ other x → with_byte one a b x ≡ with_byte other a b x
with_byte_agree one other a b x same =
    elim (cases_eq x a) [
      | inl at ↦ with_byte_same one a b x at ∙ sym (with_byte_same other a b x at)
      | inr apart ↦ with_byte_other one a b x apart ∙ (same ∙ sym (with_byte_other other a b x apart))
    ]

with_number_agree : (one other : ByteMap) (n a v x : ℕ) → one x ≡ other x
    → with_number one n a v x ≡ with_number other n a v x
with_number_agree one other zero a v x same =
    ap (λ (b : ByteMap). b x) (with_number-zero one a v)
    ∙ (same ∙ sym (ap (λ (b : ByteMap). b x) (with_number-zero other a v)))
with_number_agree one other (suc n) a v x same =
    ap (λ (b : ByteMap). b x) (with_number-suc one n a v)
    ∙ (with_byte_agree (with_number one n (a + 1) (v / 256)) (with_number other n (a + 1) (v / 256)) a (v % 256) x
    (with_number_agree one other n (a + 1) (v / 256) x same)
    ∙ sym (ap (λ (b : ByteMap). b x) (with_number-suc other n a v)))

with_numbers_agree : (one other : ByteMap) (size at : ℕ) (vs : List ℕ) (x : ℕ) → one x ≡ other x
    → with_numbers one size at vs x ≡ with_numbers other size at vs x
with_numbers_agree one other size at [] x same = same
with_numbers_agree one other size at (v ∷ vs) x same =
    with_numbers_agree (with_number one size at v) (with_number other size at v) size (at + size) vs x
    (with_number_agree one other size at v x same)

with_argument_agree : (frame : ℕ) (one other : ByteMap) (slot : Slot) (arg : Arg) (x : ℕ) → one x ≡ other x
    → with_argument frame one slot arg x ≡ with_argument frame other slot arg x
with_argument_agree frame one other slot (Word w) x same =
    with_number_agree one other 4 (frame + slot.offset) w x same
with_argument_agree frame one other slot (Array ws) x same =
    with_numbers_agree one other (element_bytes slot.param.kind) (frame + slot.offset) ws x same

pub with_arguments_agree : (frame : ℕ) (one other : ByteMap) (slots : List Slot) (args : List Arg) (x : ℕ)
    → one x ≡ other x → with_arguments frame one slots args x ≡ with_arguments frame other slots args x
with_arguments_agree frame one other [] args x same = same
with_arguments_agree frame one other (slot ∷ slots) [] x same = same
with_arguments_agree frame one other (slot ∷ slots) (arg ∷ args) x same =
    with_arguments_agree frame (with_argument frame one slot arg) (with_argument frame other slot arg) slots args x
    (with_argument_agree frame one other slot arg x same)
