-- The arguments, loaded: what the variables hold, and what lies in the slots; and what the slots hold in the end.
use Rattle.std.proofs.Common.{◌≡◌, ◌⊎◌, inl, inr, ℕ, zero, suc, ◌+◌, ◌*◌, ◌<◌, ◌≤◌, true, List, [], ◌∷◌, ◌++◌, length}
use Rattle.std.proofs.Common.{map, take, drop, Option, None, Some, is_some, slice_get, slice_index, refl}
use Rattle.std.proofs.Common.{sym, ap, ap₂, ◌∙◌, subst, arith, unwrap_or, false}
use Rattle.std.proofs.lemmas.List.{get_or-replicate}
use Rattle.inline.proofs.FittingBodies.{argument_held, given_fits, given_none}
use Rattle.codegen.proofs.Machine.{result_offset, control_offset, slots_from, variable_offset, with_numbers}
use Rattle.codegen.proofs.Machine.{with_argument, with_arguments, word_in, numbers_at, array_in, arrays_in, ByteMap}
use Rattle.codegen.proofs.Machine.{number_at, with_number, zeros, State, result_slot}
use Rattle.codegen.proofs.Language.{AreWithin, IsWithin, HasShape, words_of, FlatVariable}
use Rattle.codegen.proofs.Language.{numbers_in, declaration_of}
use Rattle.codegen.proofs.Language.{TermTree, given, Values, value_in, array_of, arrays_from, declared_words, Types}
use Rattle.codegen.proofs.Language.{IsResult, Form, SingleWord, FixedArray, MutableArray, Kind, Boolean, Label, Param}
use Rattle.codegen.proofs.Language.{WordType, Arg, Word, Array, element_bytes, array_words}
use Rattle.codegen.proofs.Logic.{number_at_same, place_within, none-some, bytes_by, bytes_of, place_of, Setting}
use Rattle.codegen.proofs.Logic.{place_ends, option_map}
use Rattle.codegen.proofs.Slots.{Laid, cut_number}
use Rattle.codegen.proofs.Slotted.{given_slotted, slotless_zero, slotted_first, slotted_kinds}
use Rattle.codegen.proofs.Logic.{AreOfKinds, fits_kinds}
use Rattle.codegen.proofs.Language.{Fits, HasLength, types_of}
use Rattle.codegen.proofs.Machine.{home_of}
use Rattle.expression_code.specs.Layout.{slotted}
use Rattle.codegen.specs.private.Homes.{is_no_array}
use Rattle.std.specs.List.{AllByRecursion}
use Rattle.inline.specs.FlatSize as flat_size
use Rattle.codegen.proofs.Numbers.{numbers_beside, number_data, numbers_data, numbers_there, zero_byte, zero_number}

in_words : (word : WordType) (elements : Option ℕ)
    → bytes_by word.kind elements * numbers_in elements ≤ 4 * flat_size.words_by word elements
in_words word None = omega arith
in_words word (Some n) = in_array word.kind
  where
    in_array : (kind : Kind) → element_bytes kind * n ≤ 4 * array_words kind n
    in_array Boolean = omega arith
    in_array kind = omega arith

-- One argument.

abbrev made : Kind → Label → ℕ → Form → Param
made k l n form = record { kind = k; label = l; form = form; length = n }

-- its numbers are put one after another
module _ (frame : ℕ) where
  lies : (k : Kind) (l : Label) (n : ℕ) (form : Form) (arg : Arg) → HasShape form n arg → (bytes : ByteMap) (low : ℕ)
      → with_argument frame bytes (record { param = made k l n form; offset = low }) arg
      ≡ with_numbers bytes (bytes_of (declaration_of (made k l n form))) (frame + low) (words_of arg)
  lies k l n SingleWord (Word w) shape bytes low = refl
  lies k l n FixedArray (Array ws) shape bytes low = refl
  lies k l n MutableArray (Array ws) shape bytes low = refl
  lies k l n form arg shape bytes low = absurd shape

  -- they lie in its slot
  argument_there : (p : Param) (bytes : ByteMap) (low : ℕ) (arg : Arg) (i : ℕ) → IsWithin p arg
      → i < numbers_in (declaration_of p).elements
      → number_at (with_argument frame bytes (record { param = p; offset = low }) arg) (bytes_of (declaration_of p))
      (frame + (low + bytes_of (declaration_of p) * i)) ≡ Some (slice_index (words_of arg) i)
  argument_there p bytes low arg i within below =
      let d = declaration_of p in
      let held = argument_held p arg within in
      let at : frame + (low + bytes_of d * i) ≡ frame + low + bytes_of d * i = omega arith in
      ap₂ (λ (b : ByteMap) a. number_at b (bytes_of d) a)
      (lies p.kind p.label p.length p.form arg within.shape bytes low) at
      ∙ numbers_there bytes (bytes_of d) (frame + low) (words_of arg) i
      (λ j less. cut_number p.kind d.elements _ (held.within j 0 less)) (omega (arith, below, held.count))

  -- bytes beside its slot are as they were
  argument_beside : (p : Param) (bytes : ByteMap) (low : ℕ) (arg : Arg) (x : ℕ) → IsWithin p arg
      → (x < frame + low) ⊎ (frame + low + 4 * flat_size.words_of (declaration_of p) ≤ x)
      → with_argument frame bytes (record { param = p; offset = low }) arg x ≡ bytes x
  argument_beside p bytes low arg x within side =
      ap (λ (b : ByteMap). b x) (lies p.kind p.label p.length p.form arg within.shape bytes low)
      ∙ numbers_beside bytes (bytes_of (declaration_of p)) (frame + low) (words_of arg) x (by_side side)
    where
      by_side : (x < frame + low) ⊎ (frame + low + 4 * flat_size.words_of (declaration_of p) ≤ x)
          → (x < frame + low) ⊎ (frame + low + bytes_of (declaration_of p) * length (words_of arg) ≤ x)
      by_side (inl below) = inl below
      by_side (inr above) =
          let d = declaration_of p in
          let few : bytes_of d * length (words_of arg) ≤ 4 * flat_size.words_of d =
          rw (argument_held p arg within).count (in_words d.word d.elements) in
          inr (omega (arith, above, few))

  -- All of them.

  -- bytes beside all slots are as they were
  arguments_beside : (bytes : ByteMap) (low : ℕ) (ps : List Param) (args : List Arg) (x : ℕ) → AreWithin ps args
      → (x < frame + low) ⊎ (frame + low + 4 * declared_words (map declaration_of ps) ≤ x)
      → with_arguments frame bytes (slots_from low ps) args x ≡ bytes x
  arguments_beside bytes low [] args x within side = refl
  arguments_beside bytes low (p ∷ ps) (arg ∷ args) x within (inl below) =
      arguments_beside (with_argument frame bytes (record { param = p; offset = low }) arg)
      (low + 4 * flat_size.words_of (declaration_of p)) ps args x within.1 (inl (omega (arith, below)))
      ∙ argument_beside p bytes low arg x within.0 (inl below)
  arguments_beside bytes low (p ∷ ps) (arg ∷ args) x within (inr above) =
      arguments_beside (with_argument frame bytes (record { param = p; offset = low }) arg)
      (low + 4 * flat_size.words_of (declaration_of p)) ps args x within.1 (inr (omega (arith, above)))
      ∙ argument_beside p bytes low arg x within.0 (inr (omega (arith, above)))
  arguments_beside bytes low ps args x within side = absurd within

  -- what is data stays data
  arguments_data : (bytes : ByteMap) (low : ℕ) (ps : List Param) (args : List Arg) (x : ℕ) → is_some (bytes x) ≡ true
      → is_some (with_arguments frame bytes (slots_from low ps) args x) ≡ true
  arguments_data bytes low [] args x here = here
  arguments_data bytes low (p ∷ ps) [] x here = here
  arguments_data bytes low (p ∷ ps) (Word w ∷ args) x here =
      arguments_data (with_number bytes 4 (frame + low) w) (low + 4 * flat_size.words_of (declaration_of p)) ps args x
      (number_data bytes 4 (frame + low) w x here)
  arguments_data bytes low (p ∷ ps) (Array ws ∷ args) x here =
      arguments_data (with_numbers bytes (element_bytes p.kind) (frame + low) ws)
      (low + 4 * flat_size.words_of (declaration_of p)) ps args x
      (numbers_data bytes (element_bytes p.kind) (frame + low) ws x here)

module _ (frame size : ℕ) where
  -- from an offset on each byte of the frame is 0
  abbrev IsBlank : ℕ → ByteMap → Type 0
  IsBlank low bytes = (o : ℕ) → low ≤ o → o < size → bytes (frame + o) ≡ Some 0

  blank_number : (low : ℕ) (bytes : ByteMap) (n o : ℕ) → IsBlank low bytes → low ≤ o → o + n ≤ size
      → number_at bytes n (frame + o) ≡ Some 0
  blank_number low bytes n o blank above inside =
      zero_number bytes frame n o (λ b from to. blank b (omega (arith, from, above)) (omega (arith, to, inside)))

  -- the arguments lie in their order, and zeros after them; the parameters are the first variables
  laid : (bytes : ByteMap) (low : ℕ) (ps : List Param) (args : List Arg) (ds : List FlatVariable) (x : ℕ)
      (d : FlatVariable) (i : ℕ)
      → AreWithin ps args → take (length ps) ds ≡ map declaration_of ps → IsBlank low bytes
      → slice_get ds x ≡ Some d → i < numbers_in d.elements → low + place_of ds x d i + bytes_of d ≤ size
      → number_at (with_arguments frame bytes (slots_from low ps) args) (bytes_of d)
      (frame + (low + place_of ds x d i)) ≡ Some (slice_index (given ds args x) i)
  laid bytes low [] [] ds x d i within first blank is below inside =
      blank_number low bytes (bytes_of d) (low + place_of ds x d i) blank (omega arith) (omega (arith, inside))
      ∙ ap Some (sym (ap (λ (l : List ℕ). slice_index l i) (given_none ds x d is)
      ∙ get_or-replicate (numbers_in d.elements) i 0 0 below))
  laid bytes low (p ∷ ps) args [] x d i within first blank is below inside = absurd (none-some d is)
  laid bytes low (p ∷ ps) (arg ∷ args) (e ∷ ds) zero d i within first blank is below inside =
      let own = declaration_of p in
      let next = with_argument frame bytes (record { param = p; offset = low }) arg in
      let at = low + 4 * flat_size.words_of own in
      let all = with_arguments frame next (slots_from at ps) args in
      let same : own ≡ d = cc in
      subst (λ (f : FlatVariable). i < numbers_in f.elements
      → number_at all (bytes_of f) (frame + (low + place_of (e ∷ ds) 0 f i)) ≡ Some (slice_index (words_of arg) i)) same
      (λ less.
      let here : frame + (low + place_of (e ∷ ds) 0 own i) ≡ frame + (low + bytes_of own * i) = omega arith in
      let w = place_within (own ∷ []) 0 own i less in
      ap (λ a. number_at all (bytes_of own) a) here
      ∙ (number_at_same next all (bytes_of own) (frame + (low + bytes_of own * i))
      (λ a from to. arguments_beside frame next at ps args a within.1 (inl (omega (arith, to, w))))
      ∙ argument_there frame p bytes low arg i within.0 less))
      below
  laid bytes low (p ∷ ps) (arg ∷ args) (e ∷ ds) (suc x) d i within first blank is below inside =
      let next = with_argument frame bytes (record { param = p; offset = low }) arg in
      let at = low + 4 * flat_size.words_of (declaration_of p) in
      let same : e ≡ declaration_of p = cc in
      let words = ap flat_size.words_of same in
      let there : frame + (low + place_of (e ∷ ds) (suc x) d i) ≡ frame + (at + place_of ds x d i) =
      omega (arith, words) in
      ap (λ a. number_at (with_arguments frame next (slots_from at ps) args) (bytes_of d) a) there
      ∙ laid next at ps args ds x d i within.1 (ap (λ xs. drop 1 xs) first)
      (λ o above less. argument_beside frame p bytes low arg (frame + o) within.0 (inr (omega (arith, above)))
      ∙ blank o (omega (arith, above)) less)
      is below (omega (arith, inside, words))
  laid bytes low ps args ds x d i within first blank is below inside = absurd within

module _ (z : Setting) (ps : List Param) (args : List Arg)
    (first : take (length ps) z.declared ≡ map declaration_of ps)
    (slots : z.laid ≡ slotted (length ps) z.allocation.homes z.declared)
    (few : declared_words (map declaration_of ps) ≤ declared_words z.laid)
    (within : AreWithin ps args) (s : State) (base : s.regs 2 ≡ z.frame)
    (bytes : s.bytes ≡ with_arguments z.frame (zeros z.frame z.size) (slots_from 0 ps) args) where
  blank : (o : ℕ) → o < z.size → zeros z.frame z.size (z.frame + o) ≡ Some 0
  blank o inside = zero_byte z.frame z.size (z.frame + o) (omega arith) (omega (arith, inside))

  behind : (o : ℕ) → result_offset z.laid ≤ o → o < z.size → s.bytes (z.frame + o) ≡ Some 0
  behind o above inside =
      ap (λ (b : ByteMap). b (z.frame + o)) bytes
      ∙ (arguments_beside z.frame (zeros z.frame z.size) 0 ps args (z.frame + o) within
      (inr (omega (arith, few, above))) ∙ blank o inside)

  -- the parameters are laid out as they are declared
  first_laid : take (length ps) z.laid ≡ map declaration_of ps
  first_laid =
      ap (λ (ds : List FlatVariable). take (length ps) ds) slots
      ∙ (slotted_first (length ps) (length ps) z.allocation.homes 0 z.declared (omega arith) ∙ first)

  held : Fits (types_of z.code.profile z.declared) (given z.declared args)
  held x d is = given_fits ps z.declared args within first x d is

  -- a word with a home is no array
  one_word : (x home : ℕ) → home_of z.allocation.homes x ≡ Some home → (d : FlatVariable)
      → slice_get z.declared x ≡ Some d → d.elements ≡ None
  one_word x home at d known = by_elements d.elements refl
    where
      by_elements : (elements : Option ℕ) → d.elements ≡ elements → elements ≡ None
      by_elements None is = refl
      by_elements (Some size) is = absurd (none-some home (sym (z.allocated.words x d size known is) ∙ at))

  -- the beginning of a run
  pub loaded : Laid z (record { variables = given z.declared args; controls = λ c. false }) s
  loaded = record {
    held = record {
      base = base;
      data_there = λ o inside. ap (λ (b : ByteMap). is_some (b (z.frame + o))) bytes
          ∙ arguments_data z.frame (zeros z.frame z.size) 0 ps args (z.frame + o) (ap is_some (blank o inside));
    };
    fits = fits_kinds (types_of z.code.profile z.declared) (given z.declared args) held;
    laid_fits = subst (λ (ds : List FlatVariable). AreOfKinds (types_of z.code.profile ds) (given z.declared args))
        (sym slots)
        (slotted_kinds z.code.profile (length ps) z.allocation.homes z.declared (given z.declared args)
        (fits_kinds (types_of z.code.profile z.declared) (given z.declared args) held));
    slots_there = λ x d i is below.
        let from : place_of z.laid x d i ≡ 0 + place_of z.laid x d i = omega arith in
        let same : given z.laid args x ≡ given z.declared args x =
        ap (λ (ds : List FlatVariable). given ds args x) slots
        ∙ given_slotted (length ps) z.allocation.homes z.declared args x d
        (ap (λ (ds : List FlatVariable). slice_get ds x) (sym slots) ∙ is) (omega (arith, below)) in
        ap₂ (λ (b : ByteMap) o. number_at b (bytes_of d) (z.frame + o)) bytes from
        ∙ (laid z.frame z.size (zeros z.frame z.size) 0 ps args z.laid x d i within first_laid (λ o low. blank o) is
        below (omega (arith, place_ends z x d i is below))
        ∙ ap (λ (l : List ℕ). Some (slice_index l i)) same);
    zeros_there = λ x home at array.
        slotless_zero ps z.allocation.homes z.declared args x within (one_word x home at)
        (ap (λ (ds : List FlatVariable). is_no_array (slice_get ds x)) (sym slots) ∙ array);
    controls_there = λ c below.
        zero_number s.bytes z.frame 4 (control_offset z.laid c)
        (λ b from to. behind b (omega (arith, from)) (omega (arith, to, below, z.room)));
  }

-- In the end: the result, and the arrays that may be changed.

-- numbers that are there, one after another
numbers_are : (bytes : ByteMap) (size at : ℕ) (vs : List ℕ)
    → ((i : ℕ) → i < length vs → number_at bytes size (at + size * i) ≡ Some (slice_index vs i))
    → numbers_at bytes size at (length vs) ≡ vs
numbers_are bytes size at [] there = refl
numbers_are bytes size at (v ∷ vs) there =
    let here : at ≡ at + size * 0 = omega arith in
    let first : unwrap_or (number_at bytes size at) 0 ≡ v = ap (λ a. unwrap_or (number_at bytes size a) 0) here
    ∙ ap (λ o. unwrap_or o 0) (there 0 (omega arith)) in
    let rest = numbers_are bytes size (at + size) vs (λ i less.
    let e : at + size + size * i ≡ at + size * suc i = omega arith in
    ap (λ a. number_at bytes size a) e ∙ there (suc i) (omega (arith, less))) in
    ap₂ (λ w (ws : List ℕ). w ∷ ws) first rest

-- a list has the length of a declaration, and its numbers lie from an address on
abbrev pub LiesAt : ByteMap → FlatVariable → ℕ → List ℕ → Type 0
LiesAt bytes d at vs =
    (length vs ≡ numbers_in d.elements)
    × ((i : ℕ) → i < numbers_in d.elements → number_at bytes (bytes_of d) (at + bytes_of d * i)
    ≡ Some (slice_index vs i))

-- one parameter's slot
array_is : (frame : ℕ) (bytes : ByteMap) (kind : Kind) (label : Label) (n low : ℕ) (form : Form) (vs : List ℕ)
    → HasLength form n
    → ((size : ℕ) → (declaration_of (made kind label n form)).elements ≡ Some size → 0 < size
    → LiesAt bytes (declaration_of (made kind label n form)) (frame + low) vs)
    → array_in frame bytes form (record { param = made kind label n form; offset = low }) ≡ array_of form vs
array_is frame bytes kind label n low SingleWord vs long lies = refl
array_is frame bytes kind label n low FixedArray vs long lies = refl
array_is frame bytes kind label n low MutableArray vs long lies =
    let here = lies n refl (omega (arith, long.0)) in
    let many = here.0 in
    ap (λ (ws : List ℕ). ws ∷ [])
    (ap (λ m. numbers_at bytes (element_bytes kind) (frame + low) m) (sym many)
    ∙ numbers_are bytes (element_bytes kind) (frame + low) vs (λ i less. here.1 i (omega (arith, less, many))))

-- The arrays, where each array's numbers lie in its slot. The parameters are the first variables of these: the first of
-- them has this number and lies at this offset.
pub arrays_are : (frame : ℕ) (bytes : ByteMap) (m : Values) (ps : List Param) (ds : List FlatVariable) (x low : ℕ)
    → take (length ps) ds ≡ map declaration_of ps
    → AllByRecursion (λ (parameter : Param). HasLength parameter.form parameter.length) ps
    → ((y : ℕ) (d : FlatVariable) (size : ℕ) → slice_get ds y ≡ Some d → d.elements ≡ Some size → 0 < size
    → LiesAt bytes d (frame + (low + variable_offset ds y)) (m (x + y)))
    → arrays_in frame bytes (slots_from low ps) ≡ arrays_from x ps m
arrays_are frame bytes m [] ds x low first lengths there = refl
arrays_are frame bytes m (p ∷ ps) [] x low first lengths there = absurd cc
arrays_are frame bytes m (p ∷ ps) (e ∷ ds) x low first lengths there =
    let own = declaration_of p in
    let same : e ≡ own = cc in
    let words = ap flat_size.words_of same in
    let moved : (f : FlatVariable) (a b i j : ℕ) → a ≡ b → i ≡ j → LiesAt bytes f a (m i) → LiesAt bytes f b (m j) =
    λ f a b i j here number h.
    subst (λ c. LiesAt bytes f c (m j)) here (subst (λ n. LiesAt bytes f a (m n)) number h) in
    ap₂ (λ (one others : List (List ℕ)). one ++ others)
    (array_is frame bytes p.kind p.label p.length low p.form (m x) lengths.0
    (λ size is some. moved own (frame + (low + variable_offset (e ∷ ds) 0)) (frame + low) (x + 0) x (omega arith)
    (omega arith) (there 0 own size (ap Some same) is some)))
    (arrays_are frame bytes m ps ds (x + 1) (low + 4 * flat_size.words_of own) (ap (λ xs. drop 1 xs) first) lengths.1
    (λ y f size get is some. moved f (frame + (low + variable_offset (e ∷ ds) (suc y)))
    (frame + (low + 4 * flat_size.words_of own + variable_offset ds y)) (x + suc y) (x + 1 + y)
    (omega (arith, words)) (omega arith) (there (suc y) f size get is some)))

-- where there is a result, its slot has it
abbrev pub Left : ℕ → List FlatVariable → Option TermTree → Values → ByteMap → Type 0
Left frame declared None m bytes = Unit {0}
Left frame declared (Some value) m bytes = number_at bytes 4 (frame + result_offset declared)
    ≡ Some (value_in m value)

pub returned_is : (frame : ℕ) (declared : List FlatVariable) (types : Types) (returned : Option WordType)
    (value : Option TermTree) (m : Values) (bytes : ByteMap) → IsResult types returned value
    → Left frame declared value m bytes
    → option_map (λ slot. word_in frame bytes slot.offset) (option_map (result_slot declared) returned)
    ≡ option_map (value_in m) value
returned_is frame declared types None None m bytes typed left = refl
returned_is frame declared types (Some word) (Some value) m bytes typed left = ap (λ o. Some (unwrap_or o 0)) left
returned_is frame declared types returned value m bytes typed left = absurd typed
