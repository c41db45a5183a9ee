-- Four statements that put the bytes of a word put the word: one store does what four do.
use Rattle.std.proofs.Common.{◌≡◌, ℕ, zero, suc, ◌+◌, ◌*◌, ◌/◌, ◌%◌, ◌^◌, ◌<◌, ◌≤◌, ◌==◌, List, [], ◌∷◌, ◌++◌}
use Rattle.std.proofs.Common.{Option, None, Some, slice_get, slice_index, refl, sym, ap, ap₂, ◌∙◌, subst, arith, true}
use Rattle.std.proofs.Common.{◌≢◌, Bool, div-le_self, inl, inr, lt_of_le_of_lt, mod-eq_of_lt, ne_eqb, if◌then◌else◌}
use Rattle.std.specs.Prelude.{slice_set}
use Rattle.std.proofs.Math.Path.{fun_ext}
use Rattle.std.proofs.lemmas.Bool.{and_parts, cases_eq}
use Rattle.std.proofs.lemmas.Option.{cond_some}
use Rattle.branch_removal.specs.Straight as straight
use Rattle.codegen.proofs.BlockParts.{front}
use Rattle.codegen.proofs.Language.{block_work, statement_work}
use Rattle.codegen.proofs.Language.{after, after_all, AreTyped, array_as, bits_of, element_bytes, first, FlatVariable}
use Rattle.codegen.proofs.Language.{indexed, IsElementSet, IsTyped, Kind, nothing, path_along, path_at, path_in, Place}
use Rattle.codegen.proofs.Language.{StraightBlock, StraightState, StraightTree, TermHasType, TermTree, types_of, value_in}
use Rattle.codegen.proofs.Language.{Types, Values, with_element, word_as, WordType}
use Rattle.codegen.proofs.Logic.{along, array_lies, Before, After, by_known_index, eqb-true, gives}
use Rattle.codegen.proofs.Logic.{HeldAt, HomesKept, kind_known, known, layout_of, none-some, place_before}
use Rattle.codegen.proofs.Logic.{place_of, Ready, Runs, same_Some, Setting, Steps, value_word}
use Rattle.codegen.proofs.Logic.{with_byte_other, with_byte_same, with_number-suc, with_number-zero, with_number_below}
use Rattle.codegen.proofs.Logic.{cheaper, Wrote}
use Rattle.codegen.proofs.Machine.{ByteMap, Instr, kind_at, result_offset, variable_offset}
use Rattle.codegen.proofs.Machine.{with_byte, with_number}
use Rattle.codegen.proofs.Numbers.{number_data}
use Rattle.codegen.proofs.Slots.{assigned, hidden_valued, ready_offered, ready_put, StateShown, suits_fits}
use Rattle.codegen.proofs.StoredValues.{stored_cut, stored_path}
use Rattle.expression_code.proofs.Below.{ltb-true, of_variable}
use Rattle.expression_code.proofs.NumberCode.{near_known}
use Rattle.codegen.specs.Below.{binary, BinaryOperator, of_binary, Path, ShiftRight, Uint8, variable, W32, Width}
use Rattle.codegen.specs.declared.word_puts.BytePut.{BytePut}
use Rattle.codegen.specs.declared.word_puts.WordByte.{WordByte}
use Rattle.codegen.specs.declared.word_puts.WordPut.{WordPut}
use Rattle.expression_code.specs.NearElements.{near_element}
use Rattle.expression_code.specs.NumberRows.{number_of}
use Rattle.codegen.specs.private.Emitted.{word_code}
use Rattle.codegen.specs.private.StoredValues.{stored_value}
use Rattle.codegen.specs.private.WordPuts.{byte_put, is_next, lowest_byte, moved_down, put_at, word_of_bytes, word_put}
use Rattle.rv_machine.specs.Machine as machine

-- Bytes.

-- what is put makes the same of a byte that is the same
put_alike : (one other : ByteMap) (n a v x : ℕ) → one x ≡ other x → with_number one n a v x ≡ with_number other n a v x
put_alike one other zero a v x same =
    ap (λ (b : ByteMap). b x) (with_number-zero one a v) ∙ (same ∙ sym (ap (λ (b : ByteMap). b x) (with_number-zero other a v)))
put_alike one other (suc n) a v x same =
    let rest = put_alike one other n (a + 1) (v / 256) x same in
    ap (λ (b : ByteMap). b x) (with_number-suc one n a v)
    ∙ (ap (λ (o : Option ℕ). if x == a then Some (v % 256) else o) rest
    ∙ sym (ap (λ (b : ByteMap). b x) (with_number-suc other n a v)))

-- the lowest byte of a number may be put first
lowest_first : (bytes : ByteMap) (n a v : ℕ)
    → with_number bytes (suc n) a v ≡ with_number (with_number bytes 1 a v) n (a + 1) (v / 256)
lowest_first bytes n a v =
    fun_ext (λ x. ap (λ (b : ByteMap). b x) (with_number-suc bytes n a v) ∙ by_place x)
  where
    one : ByteMap
    one = with_number bytes 1 a v

    one_is : (x : ℕ) → one x ≡ with_byte bytes a (v % 256) x
    one_is x =
        ap (λ (b : ByteMap). b x) (with_number-suc bytes 0 a v)
        ∙ ap (λ (rest : ByteMap). with_byte rest a (v % 256) x) (with_number-zero bytes (a + 1) (v / 256))

    by_place : (x : ℕ) → with_byte (with_number bytes n (a + 1) (v / 256)) a (v % 256) x
        ≡ with_number one n (a + 1) (v / 256) x
    by_place x = elim (cases_eq x a) [
      | inl here ↦ with_byte_same (with_number bytes n (a + 1) (v / 256)) a (v % 256) x here
          ∙ sym (with_number_below one n (a + 1) (v / 256) x (omega (arith, here))
          ∙ (one_is x ∙ with_byte_same bytes a (v % 256) x here))
      | inr other ↦ with_byte_other (with_number bytes n (a + 1) (v / 256)) a (v % 256) x other
          ∙ put_alike bytes one n (a + 1) (v / 256) x (sym (one_is x ∙ with_byte_other bytes a (v % 256) x other))
    ]

-- with the byte of a word in this place put at its own offset behind another, in the frame at an address
abbrev with_its_byte : ℕ → ℕ → ℕ → ℕ → ByteMap → ByteMap
with_its_byte frame o v k bytes = with_number bytes 1 (frame + (o + k)) (v / 2 ^ (8 * k))

-- so a word is put where its bytes are, one after the other
word_bytes : (frame o v : ℕ) (bytes : ByteMap) → with_number bytes 4 (frame + o) v
    ≡ with_its_byte frame o v 3 (with_its_byte frame o v 2 (with_its_byte frame o v 1 (with_its_byte frame o v 0 bytes)))
word_bytes frame o v bytes =
    let a = frame + o in
    let one = with_number bytes 1 a v in
    let two = with_number one 1 (a + 1) (v / 256) in
    let three = with_number two 1 (a + 1 + 1) (v / 256 / 256) in
    let first : a ≡ frame + (o + 0) = omega arith in
    let second : a + 1 ≡ frame + (o + 1) = omega arith in
    let third : a + 1 + 1 ≡ frame + (o + 2) = omega arith in
    let fourth : a + 1 + 1 + 1 ≡ frame + (o + 3) = omega arith in
    let none_off : v ≡ v / 2 ^ (8 * 0) = omega arith in
    let one_off : v / 256 ≡ v / 2 ^ (8 * 1) = omega arith in
    let two_off : v / 256 / 256 ≡ v / 2 ^ (8 * 2) = omega arith in
    let three_off : v / 256 / 256 / 256 ≡ v / 2 ^ (8 * 3) = omega arith in
    lowest_first bytes 3 a v
    ∙ (lowest_first one 2 (a + 1) (v / 256)
    ∙ (lowest_first two 1 (a + 1 + 1) (v / 256 / 256)
    ∙ (ap₂ (with_number three 1) fourth three_off
    ∙ (ap₂ (λ p w. with_its_byte frame o v 3 (with_number two 1 p w)) third two_off
    ∙ (ap₂ (λ p w. with_its_byte frame o v 3 (with_its_byte frame o v 2 (with_number one 1 p w))) second one_off
    ∙ ap₂ (λ p w. with_its_byte frame o v 3 (with_its_byte frame o v 2 (with_its_byte frame o v 1
    (with_number bytes 1 p w)))) first none_off)))))

-- The byte of a variable that an expression has.

-- it is this byte of the variable's word, and the expression is quiet
record HasByte (e : TermTree) (byte : WordByte) : Type 0 where
  value : (m : Values) → slice_index (m byte.variable) 0 < 2 ^ 32
      → value_in m e ≡ slice_index (m byte.variable) 0 / 2 ^ (8 * byte.place)
  quiet : (m : Values) → path_in m e ≡ []

byte_moved : (v n : ℕ) → n % 8 ≡ 0 → n < 32 → v < 2 ^ 32 → v / 2 ^ (n % 32) % 2 ^ 32 ≡ v / 2 ^ (8 * (n / 8))
byte_moved v n even few fits =
    let same : n % 32 ≡ 8 * (n / 8) = omega (arith, even, few) in
    ap (λ k. v / 2 ^ k % 2 ^ 32) same ∙ mod-eq_of_lt (lt_of_le_of_lt (div-le_self v (2 ^ (8 * (n / 8)))) fits)

moved_known : (source : Place) (word amount : TermTree) (o : Option ℕ) → number_of amount ≡ o → (byte : WordByte)
    → moved_down word o ≡ Some byte → HasByte (binary source ShiftRight W32 word amount) byte
moved_known source (variable x) amount (Some n) f byte is =
    let both = cond_some _ _ byte is in
    let parts = and_parts _ _ both.0 in
    let even = eqb-true (n % 8) 0 parts.0 in
    let few = ltb-true n 32 parts.1 in
    subst (HasByte (binary source ShiftRight W32 (variable x) amount)) both.1 (record {
      value = λ m fits.
          ap (λ k. slice_index (m x) 0 / 2 ^ (k % 32) % 2 ^ 32) (known amount n f m).0
          ∙ byte_moved (slice_index (m x) 0) n even few fits;
      quiet = λ m. ap (λ (p : Path). p ++ []) (known amount n f m).1;
    })
moved_known source word amount o f byte is = absurd (none-some byte is)

lowest_known : (e : TermTree) (byte : WordByte) → lowest_byte e ≡ Some byte → HasByte e byte
lowest_known (variable x) byte is =
    subst (HasByte (variable x)) (same_Some _ byte is) (record { value = λ m fits. omega arith; quiet = λ m. refl })
lowest_known (binary source ShiftRight W32 word amount) byte is =
    moved_known source word amount (number_of amount) refl byte is
lowest_known e byte is = absurd (none-some byte is)

-- the variable is one
record IsVariable (types : Types) (x : ℕ) : Type 0 where
  own : WordType
  mutable : Bool
  is : types.at x ≡ Some (word_as own mutable)

moved_typed : {types : Types} {e : TermTree} {word : WordType} → TermHasType types e word → (o : Option ℕ)
    (byte : WordByte) → moved_down e o ≡ Some byte → IsVariable types byte.variable
moved_typed {types = types} (of_variable {x = x} {word = word} {mutable = mutable} at) (Some n) byte is =
    subst (λ (b : WordByte). IsVariable types b.variable) (cond_some _ _ byte is).1
    (record { own = word; mutable = mutable; is = at })
moved_typed has o byte is = absurd (none-some byte is)

moved_by : (source : Place) (operator : BinaryOperator) (width : Width) (word amount : TermTree) (byte : WordByte)
    → lowest_byte (binary source operator width word amount) ≡ Some byte
    → moved_down word (number_of amount) ≡ Some byte
moved_by source ShiftRight W32 word amount byte is = is
moved_by source operator width word amount byte is = absurd (none-some byte is)

lowest_typed : {types : Types} {e : TermTree} {word : WordType} → TermHasType types e word → (byte : WordByte)
    → lowest_byte e ≡ Some byte → IsVariable types byte.variable
lowest_typed {types = types} (of_variable {x = x} {word = word} {mutable = mutable} at) byte is =
    subst (λ (b : WordByte). IsVariable types b.variable) (same_Some _ byte is)
    (record { own = word; mutable = mutable; is = at })
lowest_typed (of_binary {place = source} {operator = operator} {width = width} {left = left} {right = right} has more
    makes same) byte is =
    moved_typed has (number_of right) byte (moved_by source operator width left right byte is)
lowest_typed has byte is = absurd (none-some byte is)

-- Statements that put a byte.

-- the byte of a word in this place
pub record IsByte (o : Option BytePut) (word : WordPut) (k : ℕ) : Type 0 where
  pub put : BytePut
  pub is : o ≡ Some put
  pub offset : put.offset ≡ word.offset + k
  pub variable_is : put.variable ≡ word.variable
  pub place : put.place ≡ k

next_byte : (o : Option BytePut) (low high : BytePut) (word : WordPut) (k : ℕ) → o ≡ Some high
    → low.offset ≡ word.offset + k → low.variable ≡ word.variable → low.place ≡ k → is_next low high ≡ true
    → IsByte o word (k + 1)
next_byte o low high word k is offset same place next =
    let parts = and_parts _ _ next in
    let more = and_parts _ _ parts.1 in
    let behind = eqb-true (low.offset + 1) high.offset parts.0 in
    let variable_same = eqb-true low.variable high.variable more.0 in
    let above = eqb-true (low.place + 1) high.place more.1 in
    record {
      put = high;
      is = is;
      offset = omega (arith, behind, offset);
      variable_is = sym variable_same ∙ same;
      place = omega (arith, above, place);
    }

-- the bytes that four statements put
pub record FourBytes (a b c d : Option BytePut) (word : WordPut) : Type 0 where
  pub first : IsByte a word 0
  pub second : IsByte b word 1
  pub third : IsByte c word 2
  pub fourth : IsByte d word 3
  pub even : word.offset % 4 ≡ 0

pub four_bytes : (a b c d : Option BytePut) (word : WordPut) → word_of_bytes a b c d ≡ Some word → FourBytes a b c d word
unfolding next_byte
four_bytes (Some a) (Some b) (Some c) (Some d) word is =
    let both = cond_some _ _ word is in
    let parts = and_parts _ _ both.0 in
    let low = and_parts _ _ parts.0 in
    let more = and_parts _ _ parts.1 in
    let last = and_parts _ _ more.1 in
    let lowest = eqb-true a.place 0 low.0 in
    let even = eqb-true (a.offset % 4) 0 low.1 in
    let offset : a.offset ≡ word.offset = ap (λ (w : WordPut). w.offset) both.1 in
    let same : a.variable ≡ word.variable = ap (λ (w : WordPut). w.variable) both.1 in
    let one : IsByte (Some a) word 0 =
    record { put = a; is = refl; offset = omega (arith, offset); variable_is = same; place = lowest } in
    let two = next_byte (Some b) a b word 0 refl one.offset same lowest more.0 in
    let three = next_byte (Some c) b c word 1 refl two.offset two.variable_is two.place last.0 in
    record {
      first = one;
      second = two;
      third = three;
      fourth = next_byte (Some d) c d word 2 refl three.offset three.variable_is three.place last.1;
      even = subst (λ o. o % 4 ≡ 0) offset even;
    }
four_bytes a b c d word is = absurd (none-some word is)

pub put_known : (kind : Kind) (o : Option ℕ) (byte : Option WordByte) (put : BytePut) → put_at kind o byte ≡ Some put
    → (kind ≡ Uint8) × (o ≡ Some put.offset) × (byte ≡ Some (record { variable = put.variable; place = put.place }))
put_known Uint8 (Some offset) (Some byte) put is =
    let same = same_Some _ put is in (
      refl,
      ap (λ (p : BytePut). Some p.offset) same,
      ap (λ (p : BytePut). Some (record { variable = p.variable; place = p.place })) same,
    )
put_known kind o byte put is = absurd (none-some put is)

-- a statement that puts a byte of a word
record PutsByte (z : Setting) (s : StraightTree) (word : WordPut) (k : ℕ) : Type 0 where
  source : Place
  x : ℕ
  size : ℕ
  index : TermTree
  value : TermTree
  i : ℕ
  is : s ≡ straight.put None source x size index value
  typed : IsElementSet z.code.profile z.declared x size index value
  byte : typed.word.kind ≡ Uint8
  number : (m : Values) → (value_in m index ≡ i) × (path_in m index ≡ [])
  at : place_of z.laid x (array_as typed.word typed.mutable size) i ≡ word.offset + k
  read : IsVariable (types_of z.code.profile z.declared) word.variable
  quiet : (m : Values) → path_in m value ≡ []
  value_is : (m : Values) → slice_index (m word.variable) 0 < 2 ^ 32 → value_in m value < 2 ^ bits_of typed.word.kind
      → slice_index (m word.variable) 0 / 2 ^ (8 * k) % 256 ^ element_bytes typed.word.kind ≡ value_in m value

puts_byte : (z : Setting) (s : StraightTree) (word : WordPut) (k : ℕ)
    → IsByte (byte_put z.laid z.allocation s) word k → IsTyped z.code.profile z.declared z.controls s
    → PutsByte z s word k
puts_byte z (straight.put None source x size index value) word k b typed =
    let set = typed.1 in
    let types = types_of z.code.profile z.declared in
    let array = array_as set.word set.mutable size in
    let kind : kind_at z.laid x ≡ set.word.kind =
    kind_known z.laid x array (array_lies z x size set.word set.mutable set.known) in
    let e = stored_value z.allocation (kind_at z.laid x) value in
    let parts = put_known (kind_at z.laid x) (near_element z.laid z.allocation x index) (lowest_byte e) b.put b.is in
    let near = near_known z.laid z.allocation x index b.put.offset parts.1 in
    let cut = stored_cut z.allocation (kind_at z.laid x) set.suits.has_type in
    let byte : WordByte = record { variable = b.put.variable; place = b.put.place } in
    let has = lowest_known e byte parts.2 in
    record {
      source = source;
      x = x;
      size = size;
      index = index;
      value = value;
      i = near.i;
      is = refl;
      typed = set;
      byte = sym kind ∙ parts.0;
      number = λ m. known index near.i near.is m;
      at = ap (λ k. variable_offset z.laid x + element_bytes k * near.i) (sym kind) ∙ (near.at ∙ b.offset);
      read = subst (IsVariable types) b.variable_is (lowest_typed cut.has_type byte parts.2);
      quiet = λ m. sym (stored_path z.allocation (kind_at z.laid x) value m) ∙ has.quiet m;
      value_is = λ m word_fits fits.
          let own : slice_index (m b.put.variable) 0 / 2 ^ (8 * b.put.place) ≡ slice_index (m word.variable) 0 / 2 ^ (8 * k) =
          ap₂ (λ y p. slice_index (m y) 0 / 2 ^ (8 * p)) b.variable_is b.place in
          let own_fits = subst (λ y. slice_index (m y) 0 < 2 ^ 32) (sym b.variable_is) word_fits in
          ap (λ v. v % 256 ^ element_bytes set.word.kind) (sym own ∙ sym (has.value m own_fits))
          ∙ (ap (λ q. value_in m e % 256 ^ element_bytes q) (sym kind)
          ∙ cut.cut m (subst (λ q. value_in m value < 2 ^ bits_of q) (sym kind) fits));
    }
puts_byte z s word k b typed = absurd (none-some b.put b.is)

-- One of them.

module _ (z : Setting) (s : StraightTree) (word : WordPut) (k : ℕ) (p : PutsByte z s word k) where
  -- behind its mark its index is below the size
  put_marked : {n : ℕ} {steps : Steps} {code : List Instr} {P : Before} {Q : After} (made : StraightState → StraightState)
      → (p.i < p.size → Runs z n steps code P Q) → Runs z n (λ env. path_at (made env) s ++ steps env) code P Q
  put_marked {steps = steps} made one =
      let number = λ (env : StraightState). value_in (made env).variables p.index in
      along
      (λ env.
      let m = (made env).variables in
      ap (λ t. path_at (made env) t ++ steps env) p.is
      ∙ ap₂ (λ (front back : Path). (front ++ indexed p.source p.size (value_in m p.index) ∷ back) ++ steps env)
      (p.number m).1 (p.quiet m))
      (by_known_index z p.source p.size number p.i (λ env. (p.number (made env).variables).0) one)

  inside : p.i < p.size → word.offset + k + 1 ≤ result_offset z.laid
  inside below =
      let set = p.typed in
      let array = array_as set.word set.mutable p.size in
      let bytes : element_bytes set.word.kind ≡ 1 = ap element_bytes p.byte in
      let before = place_before z p.x array p.i (array_lies z p.x p.size set.word set.mutable set.known) below in
      omega (arith, before, bytes, p.at)

  -- the word is no array
  apart : word.variable ≢ p.x
  apart same =
      let typed = p.typed in
      let declared = sym p.read.is ∙ (ap (λ y. slice_get z.declared y) same ∙ typed.known) in
      none-some p.size (ap (λ (d : FlatVariable). d.elements) (same_Some _ _ declared))

  -- once the byte is there, what is shown is what the statement makes of the state, in which the word is as it was
  put_ready : p.i < p.size → (env : StraightState) (t u : machine.State) (v : ℕ) → Ready z env t
      → slice_index (env.variables word.variable) 0 ≡ v → Wrote z 1 (word.offset + k) (v / 2 ^ (8 * k)) t u
      → Ready z (after env s) u × (slice_index ((after env s).variables word.variable) 0 ≡ v)
  put_ready below env t u v ready is wrote =
      let set = p.typed in
      let d = array_as set.word set.mutable p.size in
      let n = value_in env.variables p.value in
      let fits = suits_fits z.code.profile z.declared set.word p.value env.variables ready.fits set.suits in
      let word_fits = value_word z.code.profile z.declared (variable word.variable) p.read.own env.variables ready.fits
      (of_variable p.read.is) in
      let bytes : element_bytes set.word.kind ≡ 1 = ap element_bytes p.byte in
      let here = subst (λ o. Wrote z 1 o (v / 2 ^ (8 * k)) t u) (sym p.at) wrote in
      let there = subst (λ b. Wrote z b (place_of z.laid p.x d p.i) (v / 2 ^ (8 * k)) t u) (sym bytes) here in
      let cut = ap (λ w. w / 2 ^ (8 * k) % 256 ^ element_bytes set.word.kind) (sym is)
      ∙ p.value_is env.variables word_fits fits in
      let made : after env s ≡ with_element env p.x p.i n =
      ap (after env) p.is ∙ ap (λ j. with_element env p.x j n) (p.number env.variables).0 in
      let element = ready_put z p.x p.i n (v / 2 ^ (8 * k)) d set.known
      (z.allocated.words p.x d p.size set.known refl) below fits env t u ready there cut in (
        subst (λ e. Ready z e u) (sym made) element,
        ap (λ (e : StraightState). slice_index (e.variables word.variable) 0) made
            ∙ (ap (λ b. slice_index (if b then slice_set (env.variables p.x) p.i n else env.variables word.variable) 0)
            (ne_eqb word.variable p.x apart) ∙ is),
      )

-- All four.

-- a state whose bytes are these
abbrev with_bytes : machine.State → ByteMap → machine.State
with_bytes t bytes = record { pc = t.pc; regs = t.regs; bytes = bytes }

module _ (z : Setting) (depth : ℕ) (within : depth ≤ z.depths) (a b c d : StraightTree) (word : WordPut)
    (one : PutsByte z a word 0) (two : PutsByte z b word 1) (three : PutsByte z c word 2) (four : PutsByte z d word 3)
    (even : word.offset % 4 ≡ 0) where
  abbrev all : StraightBlock
  all = first a (first b (first c (first d nothing)))

  -- with one byte more
  byte_wrote : (m t : machine.State) (v k : ℕ) → HeldAt z m → t.regs 2 ≡ z.frame → HomesKept z m t
      → Wrote z 1 (word.offset + k) (v / 2 ^ (8 * k)) m
      (with_bytes t (with_its_byte z.frame word.offset v k m.bytes))
  byte_wrote m t v k held base homes = record {
    held = record {
      base = base;
      data_there = λ o below. number_data m.bytes 1 (z.frame + (word.offset + k)) (v / 2 ^ (8 * k)) (z.frame + o)
          (held.data_there o below);
    };
    written = refl;
    homes = homes;
  }

  all_ready : one.i < one.size → two.i < two.size → three.i < three.size → four.i < four.size
      → (env : StraightState) (m t : machine.State) → Ready z env m
      → Wrote z 4 word.offset (slice_index (env.variables word.variable) 0) m t → Ready z (after_all env all) t
  all_ready in_one in_two in_three in_four env m t ready wrote =
      let v = slice_index (env.variables word.variable) 0 in
      let base = wrote.held.base in
      let m1 = with_bytes t (with_its_byte z.frame word.offset v 0 m.bytes) in
      let m2 = with_bytes t (with_its_byte z.frame word.offset v 1 m1.bytes) in
      let m3 = with_bytes t (with_its_byte z.frame word.offset v 2 m2.bytes) in
      let w1 = byte_wrote m t v 0 ready.held base wrote.homes in
      let w2 = byte_wrote m1 t v 1 w1.held base (λ r home. refl) in
      let w3 = byte_wrote m2 t v 2 w2.held base (λ r home. refl) in
      let w4 : Wrote z 1 (word.offset + 3) (v / 2 ^ (8 * 3)) m3 t =
      record {
        held = wrote.held;
        written = wrote.written ∙ word_bytes z.frame word.offset v m.bytes;
        homes = λ r home. refl;
      } in
      let r1 = put_ready z a word 0 one in_one env m m1 v ready refl w1 in
      let r2 = put_ready z b word 1 two in_two (after env a) m1 m2 v r1.0 r1.1 w2 in
      let r3 = put_ready z c word 2 three in_three (after (after env a) b) m2 m3 v r2.0 r2.1 w3 in
      (put_ready z d word 3 four in_four (after (after (after env a) b) c) m3 t v r3.0 r3.1 w4).0

  word_runs : Runs z 19 (λ env. path_along env all) (word_code (layout_of z) word) (Ready z)
      (StateShown z depth (λ env. after_all env all))
  word_runs =
      put_marked z a word 0 one (λ env. env)
      (λ in_one. put_marked z b word 1 two (λ env. after env a)
      (λ in_two. put_marked z c word 2 three (λ env. after (after env a) b)
      (λ in_three. put_marked z d word 3 four (λ env. after (after (after env a) b) c)
      (λ in_four.
      let e = variable word.variable in
      let ends = inside z d word 3 four in_four in
      gives
      (λ env s t fine ready done.
      let v = slice_index (env.variables word.variable) 0 in
      record {
        ready = all_ready in_one in_two in_three in_four env done.middle t
            (ready_offered z e env s done.middle ready done.first) done.second;
        hidden = hidden_valued z depth within e env 4 word.offset v s done.middle t (omega (arith, ends)) done.first
            done.second;
      })
      (assigned z word.offset (of_variable one.read.is) (omega (arith, z.room, z.allocated.some)) even
      (omega (arith, ends, z.room)))))))

-- The word that the first four statements of a block put.

module _ (z : Setting) (depth : ℕ) (within : depth ≤ z.depths) where
  pub front_runs : (b : StraightBlock) (word : WordPut) → word_put z.laid z.allocation b ≡ Some word
      → AreTyped z.code.profile z.declared z.controls (front 4 b)
      → Runs z (32 * block_work z.counts (front 4 b)) (λ env. path_along env (front 4 b)) (word_code (layout_of z) word)
      (Ready z) (StateShown z depth (λ env. after_all env (front 4 b)))
  front_runs (first a (first b (first c (first d rest)))) word is typed =
      let bytes = four_bytes (byte_put z.laid z.allocation a) (byte_put z.laid z.allocation b)
      (byte_put z.laid z.allocation c) (byte_put z.laid z.allocation d) word is in
      let one = puts_byte z a word 0 bytes.first typed.0 in
      let two = puts_byte z b word 1 bytes.second typed.1.0 in
      let three = puts_byte z c word 2 bytes.third typed.1.1.0 in
      let four = puts_byte z d word 3 bytes.fourth typed.1.1.1.0 in
      let work = ap (statement_work z.counts) one.is in
      cheaper (omega (arith, work)) (word_runs z depth within a b c d word one two three four bytes.even)
  front_runs b word is typed = absurd (none-some word is)
