-- What the variables hold where a body begins in a frame of any bytes: the parameters their arguments, each other variable
-- what lies in its slot. Where the words that have to be are zeros, all of it is within the variables' types.
use Rattle.std.proofs.Common.{◌≡◌, ◌⊎◌, inl, inr, ℕ, zero, suc, ◌+◌, ◌-◌, ◌*◌, ◌^◌, ◌<◌, ◌≤◌, ◌==◌, Bool, true, false, nat_lt}
use Rattle.std.proofs.Common.{if◌then◌else◌, List, [], ◌∷◌, ◌++◌, length, map, take, Option, None, Some, is_some}
use Rattle.std.proofs.Common.{get_or, slice_get, slice_index, unwrap_or, refl, sym, ap, ap₂, ◌∙◌, subst, arith, ne_eqb}
use Rattle.std.specs.List.{AllByRecursion}
use Rattle.std.proofs.Math.Nat.{pow-succ'}
use Rattle.std.proofs.lemmas.Bool.{cases_lt, le-ltb, lt-ltb, true≢false}
use Rattle.inline.proofs.FittingBodies.{given_fits}
use Rattle.inline.specs.Fitting.{IsWithinKind}
use Rattle.inline.specs.FlatSize.{words_of}
use Rattle.codegen.proofs.Machine.{control_offset, slots_from, variable_offset, with_arguments, numbers_at, ByteMap}
use Rattle.codegen.proofs.Machine.{number_at, joined, State}
use Rattle.codegen.proofs.Language.{AreWithin, FlatVariable, numbers_in, declaration_of, given, Values, declared_words}
use Rattle.codegen.proofs.Language.{Kind, Boolean, Uint32, Param, Arg}
use Rattle.language.specs.declared.signature.Kind.TheVariants.{Uint16, Uint8}
use Rattle.codegen.proofs.Logic.{number_at_same, number_at-suc, number_at-zero, none-some, same_Some, bytes_by, bytes_of}
use Rattle.codegen.proofs.Logic.{place_of, place_within, Setting, place_ends}
use Rattle.codegen.proofs.Slots.{Laid}
use Rattle.codegen.proofs.Slotted.{given_slotted, slotless_zero, slotted_first, slotted_kinds, slotted_was}
use Rattle.expression_code.proofs.Fitting.{AreOfKinds, held_kind, IsOfKind}
use Rattle.codegen.proofs.Language.{types_of}
use Rattle.codegen.proofs.Machine.{home_of}
use Rattle.expression_code.specs.Layout.{slotted}
use Rattle.codegen.specs.private.Homes.{is_no_array, is_word}
use Rattle.codegen.proofs.Numbers.{zero_number}
use Rattle.compilation.specs.Blank.{IsZeroWord, words_from, has_few_values, blank_from}
use Rattle.compilation.proofs.PutArguments.{arguments_beside, arguments_data, given_there}
use Rattle.variable_room.specs.set_first.Starts.{started}

-- a stretch of bytes
abbrev pub AreFrameBytes : ℕ → ℕ → ByteMap → Type 0
AreFrameBytes frame size before =
    (o : ℕ) → o < size → (byte : ℕ) × (before (frame + o) ≡ Some byte) × (byte < 2 ^ 8)

-- a number there
small_number : (before : ByteMap) (frame size n o : ℕ) → AreFrameBytes frame size before → o + n ≤ size
    → (v : ℕ) × (number_at before n (frame + o) ≡ Some v) × (v < 256 ^ n)
small_number before frame size zero o are inside = (0, number_at-zero before (frame + o), omega arith)
small_number before frame size (suc n) o are inside =
    let low = are o (omega (arith, inside)) in
    let high = small_number before frame size n (o + 1) are (omega (arith, inside)) in
    let next : frame + o + 1 ≡ frame + (o + 1) = omega arith in
    let less : low.0 + 256 * high.0 < 256 * 256 ^ n = omega (arith, low.2, high.2) in
    let power : 256 ^ suc n ≡ 256 * 256 ^ n = pow-succ' 256 n in (
      low.0 + 256 * high.0,
      number_at-suc before n (frame + o) ∙ ap₂ joined low.1 (ap (number_at before n) next ∙ high.1),
      subst (λ w. low.0 + 256 * high.0 < w) (sym power) less,
    )

numbers_count : (before : ByteMap) (n at k : ℕ) → length (numbers_at before n at k) ≡ k
numbers_count before n at zero = refl
numbers_count before n at (suc k) = ap suc (numbers_count before n (at + n) k)

number_of : (before : ByteMap) (n at k i d : ℕ) → i < k
    → get_or (numbers_at before n at k) i d ≡ unwrap_or (number_at before n (at + n * i)) 0
number_of before n at zero i d less = absurd (omega (arith, less))
number_of before n at (suc k) zero d less =
    let here : at ≡ at + n * 0 = omega arith in ap (λ a. unwrap_or (number_at before n a) 0) here
number_of before n at (suc k) (suc i) d less =
    let there : at + n + n * i ≡ at + n * suc i = omega arith in
    number_of before n (at + n) k i d (omega (arith, less)) ∙ ap (λ a. unwrap_or (number_at before n a) 0) there

-- Words that have to be zeros.

all_parts : (P : ℕ → Type 0) (xs ys : List ℕ) → AllByRecursion P (xs ++ ys)
    → AllByRecursion P xs × AllByRecursion P ys
all_parts P [] ys all = (tt, all)
all_parts P (x ∷ xs) ys all = let rest = all_parts P xs ys all.1 in ((all.0, rest.0), rest.1)

pub words_zero : (size frame : ℕ) (bytes : ByteMap) (low n b : ℕ)
    → AllByRecursion (IsZeroWord size frame bytes) (words_from low n) → b < 4 * n → low + b < size → bytes (frame + low + b) ≡ Some 0
words_zero size frame bytes low zero b all less inside = absurd (omega (arith, less))
words_zero size frame bytes low (suc n) b all less inside =
    elim (cases_lt b 4) [
      | inl first ↦ all.0 b first inside
      | inr later ↦
          let there : frame + (low + 4) + (b - 4) ≡ frame + low + b = omega (arith, later) in
          ap bytes (sym there) ∙ words_zero size frame bytes (low + 4) n (b - 4) all.1 (omega (arith, less, later))
          (omega (arith, inside, later))
    ]

if_true : (b : Bool) (xs : List ℕ) → b ≡ true → (if b then xs else []) ≡ xs
if_true true xs is = refl
if_true false xs is = cc

-- the slot of a variable that has few values is zeros
few_zero : (size frame : ℕ) (bytes : ByteMap) (n low : ℕ) (ds : List FlatVariable) (x : ℕ) (d : FlatVariable) (b : ℕ)
    → AllByRecursion (IsZeroWord size frame bytes) (blank_from n low ds) → n ≤ x → slice_get ds x ≡ Some d
    → has_few_values d.word.kind d.elements ≡ true → b < 4 * words_of d
    → low + 4 * declared_words (take x ds) + b < size → bytes (frame + (low + 4 * declared_words (take x ds)) + b) ≡ Some 0
few_zero size frame bytes n low [] x d b all above is few less inside = absurd (none-some d is)
few_zero size frame bytes (suc n) low (e ∷ ds) zero d b all above is few less inside = absurd (omega (arith, above))
few_zero size frame bytes (suc n) low (e ∷ ds) (suc x) d b all above is few less inside =
    let there : frame + (low + 4 * words_of e + 4 * declared_words (take x ds)) + b
    ≡ frame + (low + 4 * declared_words (take (suc x) (e ∷ ds))) + b = omega arith in
    ap bytes (sym there) ∙ few_zero size frame bytes n (low + 4 * words_of e) ds x d b all (omega (arith, above)) is few less
    (omega (arith, inside))
few_zero size frame bytes zero low (e ∷ ds) zero d b all above is few less inside =
    let same : e ≡ d = same_Some e d is in
    let here : frame + low + b ≡ frame + (low + 4 * declared_words (take 0 (e ∷ ds))) + b = omega arith in
    let first = (all_parts (IsZeroWord size frame bytes)
    (if has_few_values e.word.kind e.elements then words_from low (words_of e) else [])
    (blank_from zero (low + 4 * words_of e) ds) all).0 in
    let is_few = ap (λ (f : FlatVariable). has_few_values f.word.kind f.elements) same ∙ few in
    let words = ap words_of same in
    ap bytes (sym here)
    ∙ words_zero size frame bytes low (words_of e) b
    (subst (AllByRecursion (IsZeroWord size frame bytes))
    (if_true (has_few_values e.word.kind e.elements) (words_from low (words_of e)) is_few) first)
    (omega (arith, less, words)) (omega (arith, inside))
few_zero size frame bytes zero low (e ∷ ds) (suc x) d b all above is few less inside =
    let there : frame + (low + 4 * words_of e + 4 * declared_words (take x ds)) + b
    ≡ frame + (low + 4 * declared_words (take (suc x) (e ∷ ds))) + b = omega arith in
    let rest = (all_parts (IsZeroWord size frame bytes)
    (if has_few_values e.word.kind e.elements then words_from low (words_of e) else [])
    (blank_from zero (low + 4 * words_of e) ds) all).1 in
    ap bytes (sym there) ∙ few_zero size frame bytes zero (low + 4 * words_of e) ds x d b rest (omega arith) is few less
    (omega (arith, inside))

-- Variables.

words_behind : (n x : ℕ) (ds : List FlatVariable) → n ≤ x
    → declared_words (take n ds) ≤ declared_words (take x ds)
words_behind zero x ds above = omega arith
words_behind (suc n) zero ds above = absurd (omega (arith, above))
words_behind (suc n) (suc x) [] above = omega arith
words_behind (suc n) (suc x) (d ∷ ds) above = omega (arith, words_behind n x ds (omega (arith, above)))

words_among : (n : ℕ) (ds : List FlatVariable) → declared_words (take n ds) ≤ declared_words ds
words_among zero ds = omega arith
words_among (suc n) [] = omega arith
words_among (suc n) (d ∷ ds) = omega (arith, words_among n ds)

-- a number in a slot of no few values is within the kind
in_kind : (kind : Kind) (elements : Option ℕ) (v : ℕ) → has_few_values kind elements ≡ false
    → v < 256 ^ bytes_by kind elements → IsWithinKind kind v
in_kind Boolean elements v many less = cc
in_kind Uint8 None v many less = cc
in_kind Uint8 (Some size) v many less = omega (arith, less)
in_kind Uint16 None v many less = cc
in_kind Uint16 (Some size) v many less = omega (arith, less)
in_kind Uint32 None v many less = omega (arith, less)
in_kind Uint32 (Some size) v many less = omega (arith, less)

zero_in_kind : (kind : Kind) → IsWithinKind kind 0
zero_in_kind Boolean = omega arith
zero_in_kind kind = omega arith

module _ (z : Setting) (ps : List Param) (args : List Arg)
    (first : take (length ps) z.declared ≡ map declaration_of ps)
    (slots : z.laid ≡ slotted (length ps) z.allocation.homes z.declared)
    (within : AreWithin ps args) (before : ByteMap) (are : AreFrameBytes z.frame z.size before)
    (blank : AllByRecursion (IsZeroWord z.size z.frame before)
    (blank_from (length ps) 0 z.laid ++ words_from (control_offset z.laid 0) z.controls)) (s : State)
    (base : s.regs 2 ≡ z.frame)
    (there : (o : ℕ) → o < z.size
    → s.bytes (z.frame + o) ≡ with_arguments z.frame before (slots_from 0 ps) args (z.frame + o)) where
  -- what lies in a slot, and 0 where there is none
  held_by : Option FlatVariable → ℕ → List ℕ
  held_by None at = 0 ∷ []
  held_by (Some d) at =
      if numbers_in d.elements == 0 then 0 ∷ [] else numbers_at before (bytes_of d) at (numbers_in d.elements)

  pub frame_values : Values
  frame_values x =
      if nat_lt x (length ps) then given z.declared args x
      else held_by (slice_get z.laid x) (z.frame + variable_offset z.laid x)

  pub given_first : (x : ℕ) → x < length ps → frame_values x ≡ given z.declared args x
  unfolding frame_values
  given_first x less = rw (lt-ltb x (length ps) less) refl

  -- the parameters are laid out as they are declared
  first_laid : take (length ps) z.laid ≡ map declaration_of ps
  first_laid =
      ap (λ (ds : List FlatVariable). take (length ps) ds) slots
      ∙ (slotted_first (length ps) (length ps) z.allocation.homes 0 z.declared (omega arith) ∙ first)

  -- what has any numbers in its slot is laid out as it is declared
  was_declared : (x : ℕ) (d : FlatVariable) → slice_get z.laid x ≡ Some d → 0 < numbers_in d.elements
      → slice_get z.declared x ≡ Some d
  was_declared x d is some =
      slotted_was (length ps) z.allocation.homes z.declared x d
      (ap (λ (ds : List FlatVariable). slice_get ds x) (sym slots) ∙ is) some

  module _ (x : ℕ) (above : length ps ≤ x) where
    -- a variable behind the parameters without numbers in a slot
    no_numbers : ((d : FlatVariable) → slice_get z.laid x ≡ Some d → numbers_in d.elements ≡ 0)
        → frame_values x ≡ 0 ∷ []
    unfolding frame_values held_by
    no_numbers none = rw (le-ltb x (length ps) above) (by (slice_get z.laid x) refl)
      where
        by : (o : Option FlatVariable) → slice_get z.laid x ≡ o
            → held_by o (z.frame + variable_offset z.laid x) ≡ 0 ∷ []
        by None is = refl
        by (Some d) is = rw (none d is) refl

  module _ (x : ℕ) (d : FlatVariable) (above : length ps ≤ x) (is : slice_get z.laid x ≡ Some d) where
    held_there : 0 < numbers_in d.elements → frame_values x
        ≡ numbers_at before (bytes_of d) (z.frame + variable_offset z.laid x) (numbers_in d.elements)
    unfolding frame_values held_by
    held_there some =
        let not_none : (numbers_in d.elements == 0) ≡ false = ne_eqb (numbers_in d.elements) 0 (λ e. omega (arith, some, e)) in
        rw (le-ltb x (length ps) above, is, not_none) refl

    -- the slot lies behind those of the parameters
    behind : 4 * declared_words (map declaration_of ps) ≤ variable_offset z.laid x
    behind = omega (arith, words_behind (length ps) x z.laid above, ap declared_words first_laid)

    module _ (i : ℕ) (less : i < numbers_in d.elements) where
      number : (v : ℕ) × (number_at before (bytes_of d) (z.frame + place_of z.laid x d i) ≡ Some v)
          × (v < 256 ^ bytes_of d)
      number = small_number before z.frame z.size (bytes_of d) (place_of z.laid x d i) are
          (omega (arith, place_ends z x d i is less))

      at_place : z.frame + variable_offset z.laid x + bytes_of d * i ≡ z.frame + place_of z.laid x d i
      at_place = omega arith

      value_is : (e : ℕ) → get_or (frame_values x) i e ≡ number.0
      value_is e =
          ap (λ (l : List ℕ). get_or l i e) (held_there (omega (arith, less)))
          ∙ (number_of before (bytes_of d) (z.frame + variable_offset z.laid x) (numbers_in d.elements) i e less
          ∙ (ap (λ a. unwrap_or (number_at before (bytes_of d) a) 0) at_place
          ∙ ap (λ o. unwrap_or o 0) number.1))

      few_is_zero : has_few_values d.word.kind d.elements ≡ true → number.0 ≡ 0
      few_is_zero few =
          let inside = place_within z.laid x d i less in
          let zeros : number_at before (bytes_of d) (z.frame + place_of z.laid x d i) ≡ Some 0 =
          zero_number before z.frame (bytes_of d) (place_of z.laid x d i)
          (λ b from to.
          let at : z.frame + (0 + 4 * declared_words (take x z.laid)) + (b - variable_offset z.laid x)
          ≡ z.frame + b = omega (arith, from) in
          ap before (sym at)
          ∙ few_zero z.size z.frame before (length ps) 0 z.laid x d (b - variable_offset z.laid x)
          (all_parts (IsZeroWord z.size z.frame before) (blank_from (length ps) 0 z.laid)
          (words_from (control_offset z.laid 0) z.controls) blank).0 above is few
          (omega (arith, from, to, inside)) (omega (arith, from, to, place_ends z x d i is less))) in
          same_Some number.0 0 (sym number.1 ∙ zeros)

      value_within : (b : Bool) → has_few_values d.word.kind d.elements ≡ b → IsWithinKind d.word.kind number.0
      value_within true few = subst (IsWithinKind d.word.kind) (sym (few_is_zero few)) (zero_in_kind d.word.kind)
      value_within false many = in_kind d.word.kind d.elements number.0 many number.2

      number_there : number_at s.bytes (bytes_of d) (z.frame + place_of z.laid x d i) ≡ Some number.0
      number_there =
          let ends = place_ends z x d i is less in
          number_at_same before s.bytes (bytes_of d) (z.frame + place_of z.laid x d i)
          (λ a from to.
          let at : z.frame + (a - z.frame) ≡ a = omega (arith, from) in
          ap s.bytes (sym at)
          ∙ (there (a - z.frame) (omega (arith, from, to, ends))
          ∙ (arguments_beside z.frame before 0 ps args (z.frame + (a - z.frame)) within
          (inr (omega (arith, behind, from)))
          ∙ ap before at)))
          ∙ number.1

    held_fits : 0 < numbers_in d.elements → IsOfKind d (frame_values x)
    held_fits some =
        let count = ap length (held_there some)
        ∙ numbers_count before (bytes_of d) (z.frame + variable_offset z.laid x) (numbers_in d.elements) in
        record {
          count = λ some. count;
          within = λ i e less.
              let inside : i < numbers_in d.elements = omega (arith, less, count) in
              subst (IsWithinKind d.word.kind) (sym (value_is i inside e)) (value_within i inside _ refl);
        }

  -- 0 is a value of each kind
  zero_fits : (d : FlatVariable) → numbers_in d.elements ≤ 1 → IsOfKind d (0 ∷ [])
  zero_fits d few = record { count = λ some. omega (arith, few, some); within = alone }
    where
      alone : (i e : ℕ) → i < 1 → IsWithinKind d.word.kind (get_or (0 ∷ []) i e)
      alone zero e less = zero_in_kind d.word.kind
      alone (suc i) e less = absurd (omega (arith, less))

  -- a variable with a home is a word
  one_word : (x home : ℕ) → home_of z.allocation.homes x ≡ Some home → (d : FlatVariable)
      → slice_get z.declared x ≡ Some d → d.elements ≡ None
  one_word x home at d known = by d.elements refl
    where
      by : (elements : Option ℕ) → d.elements ≡ elements → elements ≡ None
      by None is = refl
      by (Some size) is = absurd (none-some home (sym (z.allocated.words x d size known is) ∙ at))

  -- a variable behind the parameters has numbers in its slot, or is 0
  HasNumbers : ℕ → Type 0
  HasNumbers x = (d : FlatVariable) × (slice_get z.laid x ≡ Some d) × (0 < numbers_in d.elements)

  numbers_or_zero : (x : ℕ) → length ps ≤ x → HasNumbers x ⊎ (frame_values x ≡ 0 ∷ [])
  unfolding HasNumbers
  numbers_or_zero x above = by (slice_get z.laid x) refl
    where
      by : (o : Option FlatVariable) → slice_get z.laid x ≡ o → HasNumbers x ⊎ (frame_values x ≡ 0 ∷ [])
      by None is = inr (no_numbers x above (λ d some. absurd (none-some d (sym is ∙ some))))
      by (Some d) is =
          elim (cases_lt 0 (numbers_in d.elements)) [
            | inl some ↦ inl (d, is, some)
            | inr none ↦
                inr (no_numbers x above (λ e other.
                ap (λ (f : FlatVariable). numbers_in f.elements) (same_Some e d (sym other ∙ is)) ∙ omega (arith, none)))
          ]

  -- what is data stays data
  data_there : (o : ℕ) → o < z.size → is_some (s.bytes (z.frame + o)) ≡ true
  data_there o inside =
      ap is_some (there o inside)
      ∙ arguments_data z.frame before 0 ps args (z.frame + o) (ap is_some (are o inside).1)

  behind_fits : (x : ℕ) (d : FlatVariable) → length ps ≤ x → slice_get z.declared x ≡ Some d
      → IsOfKind d (frame_values x)
  unfolding HasNumbers
  behind_fits x d above is =
      elim (numbers_or_zero x above) [
        | inl has ↦
            let same : has.0 ≡ d = same_Some has.0 d (sym (was_declared x has.0 has.1 has.2) ∙ is) in
            subst (λ (f : FlatVariable). IsOfKind f (frame_values x)) same (held_fits x has.0 above has.1 has.2)
        | inr zero_there ↦ subst (IsOfKind d) (sym zero_there) (zero_fits d (by (home_of z.allocation.homes x) refl zero_there))
      ]
    where
      by : (home : Option ℕ) → home_of z.allocation.homes x ≡ home → frame_values x ≡ 0 ∷ []
          → numbers_in d.elements ≤ 1
      by (Some home) at zero_there = omega (arith, ap numbers_in (one_word x home at d is))
      by None away zero_there =
          elim (cases_lt 0 (numbers_in d.elements)) [
            | inl some ↦
                omega (
                  arith,
                  ap length zero_there,
                  (held_fits x d above (z.lies x d is away) some).count some,
                )
            | inr none ↦ omega (arith, none)
          ]

  values_fit : AreOfKinds (types_of z.code.profile z.declared) frame_values
  values_fit x d is =
      elim (cases_lt x (length ps)) [
        | inl param ↦
            subst (IsOfKind d) (sym (given_first x param)) (held_kind (given_fits ps z.declared args within first x d is))
        | inr above ↦ behind_fits x d above is
      ]

  zero_there : (x home : ℕ) → home_of z.allocation.homes x ≡ Some home → is_no_array (slice_get z.laid x) ≡ false
      → slice_index (frame_values x) 0 ≡ 0
  unfolding HasNumbers
  zero_there x home at array =
      elim (cases_lt x (length ps)) [
        | inl param ↦
            ap (λ (l : List ℕ). slice_index l 0) (given_first x param)
            ∙ slotless_zero ps z.allocation.homes z.declared args x within (one_word x home at)
            (ap (λ (ds : List FlatVariable). is_no_array (slice_get ds x)) (sym slots) ∙ array)
        | inr above ↦
            elim (numbers_or_zero x above) [
              | inl has ↦
                  let word = one_word x home at has.0 (was_declared x has.0 has.1 has.2) in
                  absurd (true≢false (sym (ap is_word word) ∙ (ap is_no_array (sym has.1) ∙ array)))
              | inr nothing ↦ ap (λ (l : List ℕ). slice_index l 0) nothing
            ]
      ]

  -- where the body begins
  pub laid_any : Laid z (started frame_values) s
  laid_any = record {
    held = record {
      base = base;
      data_there = data_there;
    };
    fits = values_fit;
    laid_fits = subst (λ (ds : List FlatVariable). AreOfKinds (types_of z.code.profile ds) frame_values) (sym slots)
        (slotted_kinds z.code.profile (length ps) z.allocation.homes z.declared frame_values values_fit);
    slots_there = λ x d i is below.
        elim (cases_lt x (length ps)) [
          | inl param ↦
              let ends = place_ends z x d i is below in
              let at_zero : z.frame + place_of z.laid x d i ≡ z.frame + (0 + place_of z.laid x d i) = omega arith in
              let same : given z.laid args x ≡ given z.declared args x =
              ap (λ (ds : List FlatVariable). given ds args x) slots
              ∙ given_slotted (length ps) z.allocation.homes z.declared args x d
              (ap (λ (ds : List FlatVariable). slice_get ds x) (sym slots) ∙ is) (omega (arith, below)) in
              number_at_same (with_arguments z.frame before (slots_from 0 ps) args) s.bytes (bytes_of d)
              (z.frame + place_of z.laid x d i)
              (λ a from to.
              let at : z.frame + (a - z.frame) ≡ a = omega (arith, from) in
              subst (λ b. s.bytes b ≡ with_arguments z.frame before (slots_from 0 ps) args b) at
              (there (a - z.frame) (omega (arith, from, to, ends))))
              ∙ (ap (λ a. number_at (with_arguments z.frame before (slots_from 0 ps) args) (bytes_of d) a) at_zero
              ∙ given_there z.frame before 0 ps args z.laid x d i within first_laid param is below
              ∙ ap (λ (l : List ℕ). Some (slice_index l i)) (same ∙ sym (given_first x param)))
          | inr above ↦ number_there x d above is i below ∙ ap Some (sym (value_is x d above is i below 0))
        ];
    zeros_there = zero_there;
    controls_there = λ c below.
        zero_number s.bytes z.frame 4 (control_offset z.laid c)
        (λ b from to.
        let few = ap declared_words first_laid in
        let all = words_among (length ps) z.laid in
        let at : z.frame + control_offset z.laid 0 + (b - control_offset z.laid 0) ≡ z.frame + b =
        omega (arith, from) in
        there b (omega (arith, to, below, z.room))
        ∙ (arguments_beside z.frame before 0 ps args (z.frame + b) within (inr (omega (arith, from, few, all)))
        ∙ (ap before (sym at)
        ∙ words_zero z.size z.frame before (control_offset z.laid 0) z.controls (b - control_offset z.laid 0)
        (all_parts (IsZeroWord z.size z.frame before) (blank_from (length ps) 0 z.laid)
        (words_from (control_offset z.laid 0) z.controls) blank).1
        (omega (arith, from, to, below)) (omega (arith, from, to, below, z.room)))));
  }
