-- What is given is put, and what is not is marked, one argument after another.
use Rattle.std.specs.Prelude.{not, is_some, nat_le, nat_lt, ◌&&◌}
use Rattle.std.proofs.Math.Path.{fun_ext}
use Rattle.std.proofs.Common.{◌≡◌, ◌≢◌, ℕ, suc, ◌+◌, ◌<◌, ◌≤◌, Bool, true, false, cond, List, ◌∷◌, length, map, drop}
use Rattle.std.proofs.Common.{slice_index_or, Option, Some, None, refl, sym, ap, ap₂, ◌∙◌, ⊎_elim, arith, drop-cons, inl, inr}
use Rattle.std.proofs.Common.{add-one}
use Rattle.std.proofs.lemmas.Bool.{cases_eq, cases_lt, le-leb, lt-leb, lt-ltb, le-ltb, false≢true}
use Rattle.std.proofs.lemmas.List.{length-map}
use Rattle.std.proofs.Math.ListN.{get_or-map}
use Rattle.image_reports.proofs.certificates_lemmas.Below.{fault_from-left, fault_by-None, IsWithin-from_rule_of}
use Rattle.image_reports.proofs.certificates_lemmas.Below.{is_some-with_argument, no_slot, with_byte_other}
use Rattle.image_reports.proofs.certificates_lemmas.Below.{with_byte_same, with_number-suc, with_number-zero}
use Rattle.image_reports.specs.Below.{Arg, ByteMap, fault_from, HasShape, HoldsSlot, KnownState, Param, Shifts, Slot}
use Rattle.image_reports.specs.Below.{with_number}
use Rattle.image_reports.specs.certificates.Given.{rule_of_given, fault_of_given}
use Rattle.image_reports.specs.certificates.KnownImage.{argument_bytes, marks_with_given, marks_with_one, with_given}
use Rattle.image_reports.specs.certificates.KnownImage.{with_one, with_unknown}

-- Unknown bytes.

-- one more, behind those that are unknown already
module _ (marks : ByteMap) (at i x : ℕ) where
  abbrev now : ByteMap
  now = with_unknown (with_unknown marks i at) 1 (at + i)

  below_all : x < at → now x ≡ with_unknown marks (i + 1) at x
  below_all below =
      let low : x < at + i = omega arith in
      rw (lt-leb (at + i) x low, lt-leb at x below) refl

  among_old : at ≤ x → x < at + i → now x ≡ with_unknown marks (i + 1) at x
  among_old low high =
      let more : x < at + (i + 1) = omega arith in
      rw (lt-leb (at + i) x high, le-leb at x low, lt-ltb x (at + i) high, lt-ltb x (at + (i + 1)) more) refl

  at_new : x ≡ at + i → now x ≡ with_unknown marks (i + 1) at x
  at_new is =
      let low : at ≤ x = omega arith in
      let from : at + i ≤ x = omega arith in
      let to : x < at + i + 1 = omega arith in
      let more : x < at + (i + 1) = omega arith in
      rw (le-leb (at + i) x from, lt-ltb x (at + i + 1) to, le-leb at x low, lt-ltb x (at + (i + 1)) more) refl

  above_all : at + i < x → now x ≡ with_unknown marks (i + 1) at x
  above_all above =
      let low : at ≤ x = omega arith in
      let from : at + i ≤ x = omega arith in
      let past : at + i + 1 ≤ x = omega arith in
      let past' : at + (i + 1) ≤ x = omega arith in
      rw (
        le-leb (at + i) x from,
        le-ltb x (at + i + 1) past,
        le-leb at x low,
        le-ltb x (at + i) from,
        le-ltb x (at + (i + 1)) past',
      ) refl

  one_more : now x ≡ with_unknown marks (i + 1) at x
  one_more =
      ⊎_elim below_all
      (λ (low : at ≤ x). ⊎_elim (among_old low)
      (λ (from : at + i ≤ x). ⊎_elim at_new (λ (n : x ≢ at + i). above_all (omega (arith, n))) (cases_eq x (at + i)))
      (cases_lt x (at + i)))
      (cases_lt x at)

pub one_more_unknown : (marks : ByteMap) (at i : ℕ)
    → with_unknown (with_unknown marks i at) 1 (at + i) ≡ with_unknown marks (i + 1) at
one_more_unknown marks at i = fun_ext (one_more marks at i)

-- none is unknown yet
pub none_unknown : (marks : ByteMap) (at : ℕ) → with_unknown marks 0 at ≡ marks
none_unknown marks at =
    fun_ext (λ x. ⊎_elim
    (λ (below : x < at). let is : with_unknown marks 0 at x ≡ marks x = rw (lt-leb at x below) refl in is)
    (λ (low : at ≤ x). let past : at + 0 ≤ x = omega arith in
    let is : with_unknown marks 0 at x ≡ marks x =
    rw (le-leb at x low, le-ltb x (at + 0) past) refl in is)
    (cases_lt x at))

-- one byte, by its mark
pub one_unknown : (marks : ByteMap) (at : ℕ) → with_number marks 1 at 255 ≡ with_unknown marks 1 at
one_unknown marks at = fun_ext (λ x. elim (cases_eq x at) [
  | inl is ↦
      let low : at ≤ x = omega (arith, is) in
      let to : x < at + 1 = omega (arith, is) in
      let unknown : with_unknown marks 1 at x ≡ Some 255 = rw (le-leb at x low, lt-ltb x (at + 1) to) refl in
      ap (λ (m : ByteMap). m x) (with_number-suc marks 0 at 255)
      ∙ with_byte_same (with_number marks 0 (at + 1) 0) at 255 x is ∙ sym unknown
  | inr apart ↦
      let put = ap (λ (m : ByteMap). m x) (with_number-suc marks 0 at 255)
      ∙ with_byte_other (with_number marks 0 (at + 1) 0) at 255 x apart
      ∙ ap (λ (m : ByteMap). m x) (with_number-zero marks (at + 1) 0) in
      put ∙ sym (outside x apart)
])
  where
    outside : (x : ℕ) → x ≢ at → with_unknown marks 1 at x ≡ marks x
    outside x apart = elim (cases_lt x at) [
      | inl below ↦
          let is : with_unknown marks 1 at x ≡ marks x = rw (lt-leb at x below) refl in is
      | inr low ↦
          let past : at + 1 ≤ x = omega (arith, low, apart) in
          let is : with_unknown marks 1 at x ≡ marks x = rw (le-leb at x low, le-ltb x (at + 1) past) refl in is
    ]

-- Arguments.

pub with_given-next : (frame : ℕ) (bytes : ByteMap) (slots : List Slot) (given : List (Option Arg)) (i : ℕ)
    (slot : Slot) (one : Option Arg) → i < length slots → i < length given
    → with_given frame bytes (drop i slots) (drop i given)
    ≡ with_given frame (with_one frame bytes (slice_index_or slots i slot) (slice_index_or given i one))
    (drop (i + 1) slots) (drop (i + 1) given)
with_given-next frame bytes slots given i slot one below below' =
    let next = with_one frame bytes (slice_index_or slots i slot) (slice_index_or given i one) in
    ap (λ (s : List Slot). with_given frame bytes s (drop i given)) (drop-cons slots i slot below)
    ∙ (ap (λ (g : List (Option Arg)). with_given frame bytes (slice_index_or slots i slot ∷ drop (suc i) slots) g)
    (drop-cons given i one below')
    ∙ ap (λ (k : ℕ). with_given frame next (drop k slots) (drop k given)) (sym (add-one i)))

pub marks_with_given-next : (frame : ℕ) (marks : ByteMap) (slots : List Slot) (given : List (Option Arg)) (i : ℕ)
    (slot : Slot) (one : Option Arg) → i < length slots → i < length given
    → marks_with_given frame marks (drop i slots) (drop i given)
    ≡ marks_with_given frame (marks_with_one frame marks (slice_index_or slots i slot) (slice_index_or given i one))
    (drop (i + 1) slots) (drop (i + 1) given)
marks_with_given-next frame marks slots given i slot one below below' =
    let next = marks_with_one frame marks (slice_index_or slots i slot) (slice_index_or given i one) in
    ap (λ (s : List Slot). marks_with_given frame marks s (drop i given)) (drop-cons slots i slot below)
    ∙ (ap (λ (g : List (Option Arg)). marks_with_given frame marks (slice_index_or slots i slot ∷ drop (suc i) slots)
    g) (drop-cons given i one below')
    ∙ ap (λ (k : ℕ). marks_with_given frame next (drop k slots) (drop k given)) (sym (add-one i)))

pub is_some-with_one : (frame : ℕ) (bytes : ByteMap) (slot : Slot) → HoldsSlot frame bytes slot → (one : Option Arg)
    → ((arg : Arg) → one ≡ Some arg → HasShape slot.param.form slot.param.length arg) → (x : ℕ)
    → is_some (with_one frame bytes slot one x) ≡ is_some (bytes x)
is_some-with_one frame bytes slot holds (Some arg) shape x =
    is_some-with_argument frame bytes slot holds arg (shape arg refl) x
is_some-with_one frame bytes slot holds None shape x = refl

-- the marks after one argument, where its bytes became unknown and where nothing was done
pub forgotten : (frame : ℕ) (marks : ByteMap) (slot : Slot) (one : Option Arg) (none : Bool) → is_some one ≡ not none
    → none ≡ true → with_unknown marks (argument_bytes slot.param.form slot.param.kind slot.param.length)
    (frame + slot.offset) ≡ marks_with_one frame marks slot one
forgotten frame marks slot (Some arg) none is gone = absurd (false≢true (sym (is ∙ ap not gone)))
forgotten frame marks slot None none is gone = refl

pub left_known : (frame : ℕ) (marks : ByteMap) (slot : Slot) (one : Option Arg) (none : Bool)
    → is_some one ≡ not none → none ≡ false → marks ≡ marks_with_one frame marks slot one
left_known frame marks slot (Some arg) none is there = refl
left_known frame marks slot None none is there = absurd (false≢true (is ∙ ap not there))

abbrev pub params_in : List Slot → List Param
params_in slots = map (λ (slot : Slot). slot.param) slots

-- what is given without fault has its parameter's shape
pub shape_given : (slots : List Slot) (given : List (Option Arg)) (i : ℕ) (one : Option Arg) (arg : Arg)
    → i < length slots → i < length given → fault_from rule_of_given i (drop i (params_in slots)) (drop i given)
    ≡ None → one ≡ slice_index_or given i one → one ≡ Some arg
    → HasShape (slice_index_or slots i no_slot).param.form (slice_index_or slots i no_slot).param.length arg
shape_given slots given i one arg below below' none is some =
    let here =
    (fault_from-left rule_of_given i (params_in slots) given no_slot.param one
    (omega (arith, below, length-map slots (λ (slot : Slot). slot.param))) below' none).0 in
    let right : rule_of_given (slice_index_or slots i no_slot).param (Some arg) ≡ None =
    ap₂ rule_of_given (sym (get_or-map (λ (slot : Slot). slot.param) slots i no_slot)) (sym some ∙ is) ∙ here in
    (IsWithin-from_rule_of (slice_index_or slots i no_slot).param arg right).shape

-- one for each
pub as_many : (slots : List Slot) (given : List (Option Arg)) → fault_of_given (params_in slots) given ≡ None
    → length given ≡ length slots
as_many slots given none = (fault_by-None rule_of_given (params_in slots) given none).0
    ∙ length-map slots (λ (slot : Slot). slot.param)

-- The state.

pub same_known : (p p' : ℕ) (r r' : ℕ → ℕ) (b b' : ByteMap) (f f' : ℕ → ℕ) (k k' : ByteMap) (w w' : Shifts) → p ≡ p' → r ≡ r'
    → b ≡ b' → f ≡ f' → k ≡ k' → w ≡ w'
    → ◌≡◌ {A = KnownState} (record {
      state = record { pc = p; regs = r; bytes = b };
      registers = f;
      bytes = k;
      shifts = w;
    }) (record {
      state = record { pc = p'; regs = r'; bytes = b' };
      registers = f';
      bytes = k';
      shifts = w';
    })
same_known p p' r r' b b' f f' k k' w w' pcs regs bytes flags known shifts = cc
