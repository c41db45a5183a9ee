-- What is known of an image that was loaded with what is given covers each state that it is loaded to with arguments
-- that agree.
use Rattle.std.specs.Prelude.{◌⊎◌, ◌&&◌, is_some, nat_eq, nat_le, nat_lt}
use Rattle.std.specs.List.{AllByRecursion}
use Rattle.std.proofs.Common.{◌≡◌, ◌≢◌, ℕ, zero, suc, ◌+◌, ◌*◌, ◌/◌, ◌%◌, ◌^◌, ◌<◌, ◌≤◌, Bool, true, false, cond, List, []}
use Rattle.std.proofs.Common.{◌∷◌, length, map, Option, Some, None, inl, inr, ⊎_elim, refl, sym, ap, ◌∙◌, subst}
use Rattle.std.proofs.Common.{arith}
use Rattle.std.proofs.Math.Nat.{mul-suc}
use Rattle.std.proofs.lemmas.Bool.{cases_eq, cases_lt, le-leb, lt-leb, lt-ltb, le-ltb, cond_both}
use Rattle.std.proofs.lemmas.Nat.Bits.{bit_at_above, bit_at_ones}
use Rattle.std.proofs.lemmas.Option.{same_Some}
use Rattle.image_reports.specs.Below.{Agree, AreBytes, byte_unknown, initial_registers}
use Rattle.image_reports.specs.Below.{AreWithin, Arg, Array, ByteMap, Covers, element_bytes, Fields, FixedArray, Form}
use Rattle.image_reports.specs.Below.{HasShape, HoldsSlot, IsImage, Kind, loaded_at, MutableArray, params_of, Shifts}
use Rattle.image_reports.specs.Below.{SingleWord, Slot, with_argument, with_arguments, with_number}
use Rattle.image_reports.specs.Below.{with_numbers, Word, zeros}
use Rattle.rv_machine.specs.Registers.{register}
use Rattle.image_reports.proofs.certificates_lemmas.Below.{HoldsSlot-same, is_some-with_argument, slots_hold}
use Rattle.image_reports.proofs.certificates_lemmas.Below.{with_number-zero, with_number-suc, with_byte_same}
use Rattle.image_reports.proofs.certificates_lemmas.Below.{with_byte_other, with_number_below, with_number_above}
use Rattle.image_reports.specs.certificates.Given.{AreAsGiven, no_more, as_given, any_value, Completes}
use Rattle.image_reports.specs.certificates.KnownImage.{argument_bytes, known_at, marks_with_given, with_given}
use Rattle.image_reports.specs.certificates.KnownImage.{with_unknown}

-- A byte after something was put.

-- it is decided by what was put, and what it was before
number_same : (old new : ByteMap) (n a v x : ℕ) → new x ≡ old x → with_number new n a v x ≡ with_number old n a v x
number_same old new zero a v x same = ap (λ (m : ByteMap). m x) (with_number-zero new a v) ∙ same
    ∙ sym (ap (λ (m : ByteMap). m x) (with_number-zero old a v))
number_same old new (suc n) a v x same =
    let above = with_number old n (a + 1) (v / 256) in
    let above' = with_number new n (a + 1) (v / 256) in
    let step = ap (λ (m : ByteMap). m x) (with_number-suc old n a v) in
    let step' = ap (λ (m : ByteMap). m x) (with_number-suc new n a v) in
    ⊎_elim
    (λ (e : x ≡ a). step' ∙ with_byte_same above' a (v % 256) x e ∙ sym (step ∙ with_byte_same above a (v % 256) x e))
    (λ (e : x ≢ a). step' ∙ with_byte_other above' a (v % 256) x e ∙ number_same old new n (a + 1) (v / 256) x same
    ∙ sym (step ∙ with_byte_other above a (v % 256) x e))
    (cases_eq x a)

numbers_same : (old new : ByteMap) (size at : ℕ) (vs : List ℕ) (x : ℕ) → new x ≡ old x
    → with_numbers new size at vs x ≡ with_numbers old size at vs x
numbers_same old new size at [] x same = same
numbers_same old new size at (v ∷ vs) x same =
    numbers_same (with_number old size at v) (with_number new size at v) size (at + size) vs x
    (number_same old new size at v x same)

argument_same : (frame : ℕ) (old new : ByteMap) (slot : Slot) (arg : Arg) (x : ℕ) → new x ≡ old x
    → with_argument frame new slot arg x ≡ with_argument frame old slot arg x
argument_same frame old new slot (Word w) x same = number_same old new 4 (frame + slot.offset) w x same
argument_same frame old new slot (Array vs) x same =
    numbers_same old new (element_bytes slot.param.kind) (frame + slot.offset) vs x same

-- it is what it was, apart from where something was put
numbers_apart : (bytes : ByteMap) (size at : ℕ) (vs : List ℕ) (x : ℕ) → (x < at) ⊎ (at + size * length vs ≤ x)
    → with_numbers bytes size at vs x ≡ bytes x
numbers_apart bytes size at [] x apart = refl
numbers_apart bytes size at (v ∷ vs) x (inl below) =
    numbers_apart (with_number bytes size at v) size (at + size) vs x (inl (omega arith))
    ∙ with_number_below bytes size at v x below
numbers_apart bytes size at (v ∷ vs) x (inr above) =
    let all = mul-suc size (length vs) in
    numbers_apart (with_number bytes size at v) size (at + size) vs x (inr (omega (arith, all, above)))
    ∙ with_number_above bytes size at v x (omega (arith, all, above))

-- how many bytes are put
abbrev bytes_put : Kind → Arg → ℕ
bytes_put kind (Word w) = 4
bytes_put kind (Array vs) = element_bytes kind * length vs

as_stated : (form : Form) (kind : Kind) (n : ℕ) (arg : Arg) → HasShape form n arg
    → argument_bytes form kind n ≡ bytes_put kind arg
as_stated SingleWord kind n (Word w) shape = refl
as_stated SingleWord kind n (Array vs) shape = absurd shape
as_stated FixedArray kind n (Word w) shape = absurd shape
as_stated FixedArray kind n (Array vs) shape = ap (λ m. element_bytes kind * m) (sym shape)
as_stated MutableArray kind n (Word w) shape = absurd shape
as_stated MutableArray kind n (Array vs) shape = ap (λ m. element_bytes kind * m) (sym shape)

put_apart : (frame : ℕ) (bytes : ByteMap) (slot : Slot) (arg : Arg) (x : ℕ)
    → (x < frame + slot.offset) ⊎ (frame + slot.offset + bytes_put slot.param.kind arg ≤ x)
    → with_argument frame bytes slot arg x ≡ bytes x
put_apart frame bytes slot (Word w) x (inl below) = with_number_below bytes 4 (frame + slot.offset) w x below
put_apart frame bytes slot (Word w) x (inr above) = with_number_above bytes 4 (frame + slot.offset) w x above
put_apart frame bytes slot (Array vs) x apart =
    numbers_apart bytes (element_bytes slot.param.kind) (frame + slot.offset) vs x apart

argument_apart : (frame : ℕ) (bytes : ByteMap) (slot : Slot) (arg : Arg) (x : ℕ)
    → HasShape slot.param.form slot.param.length arg
    → (x < frame + slot.offset)
    ⊎ (frame + slot.offset + argument_bytes slot.param.form slot.param.kind slot.param.length ≤ x)
    → with_argument frame bytes slot arg x ≡ bytes x
argument_apart frame bytes slot arg x shape apart =
    put_apart frame bytes slot arg x
    (subst (λ n. (x < frame + slot.offset) ⊎ (frame + slot.offset + n ≤ x))
    (as_stated slot.param.form slot.param.kind slot.param.length arg shape) apart)

-- a byte is unknown, or lies apart from those that became so
data StaysMarked (marks : ByteMap) (n a x : ℕ) : Type 0 where
  unknown_there : with_unknown marks n a x ≡ Some 255 → StaysMarked marks n a x
  apart_there : with_unknown marks n a x ≡ marks x → (x < a) ⊎ (a + n ≤ x) → StaysMarked marks n a x

stays_marked : (marks : ByteMap) (n a x : ℕ) → StaysMarked marks n a x
stays_marked marks n a x =
    ⊎_elim
    (λ (below : x < a).
    let is : with_unknown marks n a x ≡ marks x = rw (lt-leb a x below) refl in
    apart_there is (inl below))
    (λ (low : a ≤ x). ⊎_elim
    (λ (high : x < a + n).
    let is : with_unknown marks n a x ≡ Some 255 = rw (le-leb a x low, lt-ltb x (a + n) high) refl in
    unknown_there is)
    (λ (above : a + n ≤ x).
    let is : with_unknown marks n a x ≡ marks x = rw (le-leb a x low, le-ltb x (a + n) above) refl in
    apart_there is (inr above))
    (cases_lt x (a + n)))
    (cases_lt x a)

-- Bytes.

number_bytes : (bytes : ByteMap) → AreBytes bytes → (n a v : ℕ) → AreBytes (with_number bytes n a v)
number_bytes bytes are zero a v = λ x b is.
    are x b (sym (ap (λ (m : ByteMap). m x) (with_number-zero bytes a v)) ∙ is)
number_bytes bytes are (suc n) a v = λ x b is.
    let above = with_number bytes n (a + 1) (v / 256) in
    let here = sym (ap (λ (m : ByteMap). m x) (with_number-suc bytes n a v)) ∙ is in
    ⊎_elim
    (λ (e : x ≡ a).
    omega (arith, same_Some (v % 256) b (sym (with_byte_same above a (v % 256) x e) ∙ here)))
    (λ (e : x ≢ a).
    number_bytes bytes are n (a + 1) (v / 256) x b (sym (with_byte_other above a (v % 256) x e) ∙ here))
    (cases_eq x a)

numbers_bytes : (bytes : ByteMap) → AreBytes bytes → (size at : ℕ) (vs : List ℕ)
    → AreBytes (with_numbers bytes size at vs)
numbers_bytes bytes are size at [] = are
numbers_bytes bytes are size at (v ∷ vs) =
    numbers_bytes (with_number bytes size at v) (number_bytes bytes are size at v) size (at + size) vs

argument_put : (frame : ℕ) (bytes : ByteMap) → AreBytes bytes → (slot : Slot) (arg : Arg)
    → AreBytes (with_argument frame bytes slot arg)
argument_put frame bytes are slot (Word w) = number_bytes bytes are 4 (frame + slot.offset) w
argument_put frame bytes are slot (Array vs) =
    numbers_bytes bytes are (element_bytes slot.param.kind) (frame + slot.offset) vs

-- bytes agree where each of their bits may be unknown
bytes_agree : (b c : ℕ) → b < 2 ^ 8 → c < 2 ^ 8 → Agree 255 b c
bytes_agree b c fits fits' = record {
  bits = λ i none. ⊎_elim
      (λ (within : i < 8). absurd (omega (arith, none, bit_at_ones 8 i within)))
      (λ (from : 8 ≤ i). bit_at_above c 8 i fits' from ∙ sym (bit_at_above b 8 i fits from))
      (cases_lt i 8);
}

-- The bytes of all arguments.

module _ (frame : ℕ) where
  -- a byte is what it is with any arguments that agree, or it is unknown
  same_byte : {given : List (Option Arg)} {args : List Arg} (x : ℕ) (marks old new : ByteMap) (slots : List Slot)
      → AreAsGiven given args → AreWithin (map (λ (slot : Slot). slot.param) slots) args
      → (new x ≡ old x) ⊎ (marks x ≡ Some 255)
      → (with_arguments frame new slots args x ≡ with_given frame old slots given x)
      ⊎ (marks_with_given frame marks slots given x ≡ Some 255)
  same_byte x marks old new [] fits within same = same
  same_byte x marks old new (slot ∷ slots) no_more within same = absurd within
  same_byte x marks old new (slot ∷ slots) (as_given {arg = arg} fits) within (inl same) =
      same_byte x marks (with_argument frame old slot arg) (with_argument frame new slot arg) slots fits within.1
      (inl (argument_same frame old new slot arg x same))
  same_byte x marks old new (slot ∷ slots) (as_given {arg = arg} fits) within (inr unknown) =
      same_byte x marks (with_argument frame old slot arg) (with_argument frame new slot arg) slots fits within.1
      (inr unknown)
  same_byte x marks old new (slot ∷ slots) (any_value {arg = arg} {given = given} fits) within same =
      let n = argument_bytes slot.param.form slot.param.kind slot.param.length in
      same_byte x (with_unknown marks n (frame + slot.offset)) old (with_argument frame new slot arg) slots fits
      within.1 (elim (stays_marked marks n (frame + slot.offset) x) [
        | unknown_there is ↦ inr is
        | apart_there is apart ↦ elim same [
          | inl one ↦ inl (argument_apart frame new slot arg x within.0.shape apart ∙ one)
          | inr unknown ↦ inr (is ∙ unknown)
        ]
      ])

  arguments_bytes : (bytes : ByteMap) → AreBytes bytes → (slots : List Slot) (args : List Arg)
      → AreBytes (with_arguments frame bytes slots args)
  arguments_bytes bytes are [] args = are
  arguments_bytes bytes are (slot ∷ slots) [] = are
  arguments_bytes bytes are (slot ∷ slots) (arg ∷ args) =
      arguments_bytes (with_argument frame bytes slot arg) (argument_put frame bytes are slot arg) slots args

  given_bytes : (bytes : ByteMap) → AreBytes bytes → (slots : List Slot) (given : List (Option Arg))
      → AreBytes (with_given frame bytes slots given)
  given_bytes bytes are [] given = are
  given_bytes bytes are (slot ∷ slots) [] = are
  given_bytes bytes are (slot ∷ slots) (Some arg ∷ given) =
      given_bytes (with_argument frame bytes slot arg) (argument_put frame bytes are slot arg) slots given
  given_bytes bytes are (slot ∷ slots) (None ∷ given) = given_bytes bytes are slots given

  unknown_bytes : (marks : ByteMap) → AreBytes marks → (n a : ℕ) → AreBytes (with_unknown marks n a)
  unknown_bytes marks are n a = λ x b is. elim (stays_marked marks n a x) [
    | unknown_there there ↦ omega (arith, same_Some 255 b (sym there ∙ is))
    | apart_there there apart ↦ are x b (sym there ∙ is)
  ]

  marks_bytes : (marks : ByteMap) → AreBytes marks → (slots : List Slot) (given : List (Option Arg))
      → AreBytes (marks_with_given frame marks slots given)
  marks_bytes marks are [] given = are
  marks_bytes marks are (slot ∷ slots) [] = are
  marks_bytes marks are (slot ∷ slots) (Some arg ∷ given) = marks_bytes marks are slots given
  marks_bytes marks are (slot ∷ slots) (None ∷ given) =
      let n = argument_bytes slot.param.form slot.param.kind slot.param.length in
      marks_bytes (with_unknown marks n (frame + slot.offset)) (unknown_bytes marks are n (frame + slot.offset)) slots
      given

  still_held : (old new : ByteMap) (slots : List Slot) → ((x : ℕ) → is_some (new x) ≡ is_some (old x))
      → AllByRecursion (HoldsSlot frame old) slots → AllByRecursion (HoldsSlot frame new) slots
  still_held old new [] same held = tt
  still_held old new (slot ∷ slots) same held =
      (HoldsSlot-same frame old new slot same held.0, still_held old new slots same held.1)

  -- the same addresses are data
  same_extent : {given : List (Option Arg)} {args : List Arg} (old new : ByteMap) (slots : List Slot)
      → AreAsGiven given args → AreWithin (map (λ (slot : Slot). slot.param) slots) args
      → AllByRecursion (HoldsSlot frame old) slots → ((x : ℕ) → is_some (new x) ≡ is_some (old x)) → (x : ℕ)
      → is_some (with_arguments frame new slots args x) ≡ is_some (with_given frame old slots given x)
  same_extent old new [] fits within held same x = same x
  same_extent old new (slot ∷ slots) no_more within held same x = absurd within
  same_extent old new (slot ∷ slots) (as_given {arg = arg} fits) within held same x =
      let kept = is_some-with_argument frame old slot held.0 arg within.0.shape in
      let kept' = is_some-with_argument frame new slot (HoldsSlot-same frame old new slot same held.0) arg
      within.0.shape in
      same_extent (with_argument frame old slot arg) (with_argument frame new slot arg) slots fits within.1
      (still_held old (with_argument frame old slot arg) slots kept held.1) (λ y. kept' y ∙ same y ∙ sym (kept y)) x
  same_extent old new (slot ∷ slots) (any_value {arg = arg} fits) within held same x =
      let kept' = is_some-with_argument frame new slot (HoldsSlot-same frame old new slot same held.0) arg
      within.0.shape in
      same_extent old (with_argument frame new slot arg) slots fits within.1 held.1 (λ y. kept' y ∙ same y) x

zero_bytes : (base n : ℕ) → AreBytes (zeros base n)
zero_bytes base n x b is = small (nat_le base x && nat_lt x (base + n)) is
  where
    small : (t : Bool) → ◌≡◌ {A = Option ℕ} (cond t (Some 0) None) (Some b) → b < 2 ^ 8
    small true is = omega (arith, same_Some 0 b is)
    small false is = cc

-- its registers are words
first_fits : (frame r : ℕ) → frame < 2 ^ 32 → register (initial_registers frame) r < 2 ^ 32
first_fits frame r below =
    cond_both (nat_eq r 0) 0 (initial_registers frame r) (λ v. v < 2 ^ 32) (λ is. omega arith)
    (λ is. cond_both (nat_eq r 2) frame 0 (λ v. v < 2 ^ 32) (λ is. below) (λ is. omega arith))

pub loaded_covered : (code frame : ℕ) (image : Fields) (given : List (Option Arg)) (shifts : Shifts) (args : List Arg)
    → IsImage image → frame + image.frame_bytes < 2 ^ 32 → Completes (params_of image) given args
    → Covers (known_at code frame image given shifts) (loaded_at code frame image args)
loaded_covered code frame image given shifts args allowed below agree =
    let begun = zeros frame image.frame_bytes in
    let are = zero_bytes frame image.frame_bytes in
    let held = slots_hold frame image.frame_bytes image.slots allowed.slots_inside below in
    let old = given_bytes frame begun are image.slots given in
    let new = arguments_bytes frame begun are image.slots args in
    let first = λ (r : ℕ). first_fits frame r (omega (arith, below)) in
    record {
      pc = refl;
      registers = λ r. record { bits = λ i none. refl };
      extent = same_extent frame begun begun image.slots agree.fits agree.within held (λ x. refl);
      bytes = λ a b c is is'. covered_byte (marks_with_given frame begun image.slots given a) b c (old a b is)
          (new a c is') (same_or (same_byte frame a begun begun begun image.slots agree.fits agree.within (inl refl))
          is is');
      words = inl (record {
        known = record { registers = first; bytes = old };
        covered = record { registers = first; bytes = new };
        masks = marks_bytes frame begun are image.slots given;
      });
    }
  where
    covered_byte : (mark : Option ℕ) (b c : ℕ) → b < 2 ^ 8 → c < 2 ^ 8 → (c ≡ b) ⊎ (mark ≡ Some 255)
        → Agree (byte_unknown mark) b c
    covered_byte mark b c fits fits' (inl same) =
        subst (λ n. Agree (byte_unknown mark) b n) (sym same) (record { bits = λ i none. refl })
    covered_byte mark b c fits fits' (inr unknown) =
        subst (λ m. Agree (byte_unknown m) b c) (sym unknown) (bytes_agree b c fits fits')

    same_or : {p q mark : Option ℕ} {b c : ℕ} → (q ≡ p) ⊎ (mark ≡ Some 255) → p ≡ Some b → q ≡ Some c
        → (c ≡ b) ⊎ (mark ≡ Some 255)
    same_or {b = b} {c = c} (inl same) is is' = inl (same_Some c b (sym is' ∙ same ∙ is))
    same_or (inr unknown) is is' = inr unknown
