-- An expression that joins bytes of the frame to a word has the word that lies there.
use Rattle.std.proofs.Common.{◌≡◌, ℕ, zero, suc, ◌+◌, ◌*◌, ◌/◌, ◌%◌, ◌^◌, ◌<◌, ◌≤◌, List, [], ◌∷◌}
use Rattle.std.proofs.Common.{◌++◌, Bool, true, cond, Option, None, Some, slice_get, slice_index, bit_or, refl, sym, ap, ap₂}
use Rattle.std.proofs.Common.{◌∙◌, ◌⊎◌, inl, inr, subst, arith, append_assoc, append-nil, mul_assoc, mul_comm, mul-suc}
use Rattle.std.proofs.Common.{mul-le-mul_left, add-mul, mod-eq_of_lt, mul-lt-mul_of_pos_right, lt_of_lt_of_le, pow_pos}
use Rattle.std.proofs.Common.{pow_mono, pow-add}
use Rattle.std.proofs.lemmas.Bool.{and_parts, cond_both, eqb-true}
use Rattle.std.proofs.lemmas.Nat.{or_comm, or_shifted}
use Rattle.std.proofs.lemmas.Option.{cond_some, none-some, same_Some}
use Rattle.expression_code.proofs.Below.{along, array_as, binary, BinaryOperator, Boolean, ByteMap, convert}
use Rattle.expression_code.proofs.Below.{element, element_bytes, indexed, Instr, IsWithinKind, joined, Kind}
use Rattle.expression_code.proofs.Below.{kind_at, ltb-true, near_element, number_at, number_at-suc}
use Rattle.expression_code.proofs.Below.{number_at-zero, number_of, of_binary, of_conversion, of_element}
use Rattle.expression_code.proofs.Below.{Path, path_in, Place, State, StraightState, TermHasType}
use Rattle.expression_code.proofs.Below.{TermTree, types_of, value_in, Values, variable_offset, Width, WordType}
use Rattle.expression_code.proofs.Events.{by_known_index}
use Rattle.inline.proofs.Fitting.{element_fits}
use Rattle.expression_code.proofs.Frame.{After, Runs, Setting, Steps}
use Rattle.expression_code.proofs.NumberCode.{known, near_known}
use Rattle.expression_code.proofs.Places.{kind_known, place_of}
use Rattle.expression_code.proofs.Values.{array_lies, place_ends, Ready}
use Rattle.expression_code.specs.declared.frame_bytes.FrameBytes.{FrameBytes}
use Rattle.expression_code.specs.FrameBytes.{element_at, follow, frame_bytes, joined_bytes, joined_word, moved_up}
use Rattle.expression_code.specs.FrameBytes.{operated_bytes, whole_word, with_next}
use Rattle.expression_code.specs.Below.{BitOr, ShiftLeft, Uint32, W32}

-- Numbers of so many bytes.

parts_of : (one rest : Option ℕ) (x : ℕ) → joined one rest ≡ Some x
    → (b : ℕ) × (r : ℕ) × (one ≡ Some b) × (rest ≡ Some r) × (b + 256 * r ≡ x)
parts_of (Some b) (Some r) x is = (b, r, refl, refl, same_Some (b + 256 * r) x is)
parts_of (Some b) None x is = absurd (none-some x is)
parts_of None rest x is = absurd (none-some x is)

-- a number, and another behind it
number_joined : (bytes : ByteMap) (n m a x y : ℕ) → number_at bytes n a ≡ Some x → number_at bytes m (a + n) ≡ Some y
    → number_at bytes (n + m) a ≡ Some (x + 2 ^ (8 * n) * y)
number_joined bytes zero m a x y low high =
    let first : 0 ≡ x = same_Some 0 x (sym (number_at-zero bytes a) ∙ low) in
    let at : a ≡ a + 0 = omega arith in
    let count : 0 + m ≡ m = omega arith in
    ap (λ k. number_at bytes k a) count ∙ (ap (number_at bytes m) at ∙ (high ∙ ap Some (alone x y first)))
  where
    alone : (x y : ℕ) → 0 ≡ x → y ≡ x + 2 ^ (8 * 0) * y
    alone x y first = omega (arith, first)
number_joined bytes (suc n) m a x y low high =
    let parts = parts_of (bytes a) (number_at bytes n (a + 1)) x (sym (number_at-suc bytes n a) ∙ low) in
    let b = parts.0 in
    let r = parts.1 in
    let p = 2 ^ (8 * n) in
    let at : a + 1 + n ≡ a + suc n = omega arith in
    let rest = number_joined bytes n m (a + 1) r y parts.3 (ap (number_at bytes m) at ∙ high) in
    let more : 8 * suc n ≡ 8 + 8 * n = omega arith in
    let scaled : 2 ^ (8 * suc n) * y ≡ 256 * (p * y) =
    ap (λ k. 2 ^ k * y) more ∙ (ap (λ k. k * y) (pow-add 2 8 (8 * n)) ∙ mul_assoc 256 p y) in
    let count : suc n + m ≡ suc (n + m) = omega arith in
    ap (λ k. number_at bytes k a) count ∙ number_at-suc bytes (n + m) a
    ∙ (ap₂ joined parts.2 rest ∙ ap Some (sum_joined b r x (p * y) _ parts.4 scaled))
  where
    sum_joined : (b r x q t : ℕ) → b + 256 * r ≡ x → t ≡ 256 * q → b + 256 * (r + q) ≡ x + t
    sum_joined b r x q t is scaled = omega (arith, is, scaled)

-- Bytes in a word.

-- moved up so many bytes they stay below what is behind them
moved_below : (n c p : ℕ) → n < 2 ^ (8 * c) → n * 2 ^ (8 * p) < 2 ^ (8 * (p + c))
moved_below n c p below =
    let sum : 8 * c + 8 * p ≡ 8 * (p + c) = omega arith in
    subst (λ k. n * 2 ^ (8 * p) < k) (sym (pow-add 2 (8 * c) (8 * p)) ∙ ap (λ k. 2 ^ k) sum)
    (mul-lt-mul_of_pos_right below (pow_pos (8 * p)))

moved_word : (n c p : ℕ) → n < 2 ^ (8 * c) → p + c ≤ 4 → n * 2 ^ (8 * p) < 2 ^ 32
moved_word n c p below within =
    let few : 8 * (p + c) ≤ 32 = omega arith in
    lt_of_lt_of_le (moved_below n c p below) (pow_mono few)

-- those of two numbers that follow each other are those of both
bits_joined : (n m c p : ℕ) → n < 2 ^ (8 * c)
    → bit_or (n * 2 ^ (8 * p)) (m * 2 ^ (8 * (p + c))) ≡ (n + 2 ^ (8 * c) * m) * 2 ^ (8 * p)
bits_joined n m c p below =
    let low = n * 2 ^ (8 * p) in
    let k = 8 * (p + c) in
    let sum : k ≡ 8 * c + 8 * p = omega arith in
    let high : m * 2 ^ k ≡ 2 ^ (8 * c) * m * 2 ^ (8 * p) =
    ap (λ j. m * 2 ^ j) sum ∙ (ap (λ j. m * j) (pow-add 2 (8 * c) (8 * p))
    ∙ (sym (mul_assoc m (2 ^ (8 * c)) (2 ^ (8 * p))) ∙ ap (λ j. j * 2 ^ (8 * p)) (mul_comm m (2 ^ (8 * c))))) in
    let swapped : m * 2 ^ k + low ≡ low + m * 2 ^ k = omega arith in
    or_comm low (m * 2 ^ k) ∙ (or_shifted m k low (moved_below n c p below)
    ∙ (swapped ∙ (ap (λ j. low + j) high ∙ sym (add-mul n (2 ^ (8 * c) * m) (2 ^ (8 * p))))))

-- a shift by whole bytes that stay in the word
bits_moved : (n c p amount : ℕ) → n < 2 ^ (8 * c) → 0 < c → amount % 8 ≡ 0 → p + amount / 8 + c ≤ 4
    → n * 2 ^ (8 * p) * 2 ^ (amount % 32) % 2 ^ 32 ≡ n * 2 ^ (8 * (p + amount / 8))
bits_moved n c p amount below some even within =
    let q = p + amount / 8 in
    let sum : 8 * p + amount % 32 ≡ 8 * q = omega arith in
    let moved : n * 2 ^ (8 * p) * 2 ^ (amount % 32) ≡ n * 2 ^ (8 * q) =
    mul_assoc n (2 ^ (8 * p)) (2 ^ (amount % 32))
    ∙ ap (λ k. n * k) (sym (pow-add 2 (8 * p) (amount % 32)) ∙ ap (λ k. 2 ^ k) sum) in
    ap (λ v. v % 2 ^ 32) moved ∙ mod-eq_of_lt (moved_word n c q below within)

-- what is within a kind is below what its bytes hold
kind_below : (kind : Kind) (v : ℕ) → IsWithinKind kind v → v < 2 ^ (8 * element_bytes kind)
kind_below Boolean v fits = omega arith
kind_below kind v fits = fits

some_bytes : (kind : Kind) → (0 < element_bytes kind) × (element_bytes kind ≤ 4)
some_bytes Boolean = (omega arith, omega arith)
some_bytes kind = (omega arith, omega arith)

-- Expressions.

-- the bytes are there, and a value is their number in its place of the word
record IsThere (z : Setting) (bytes : FrameBytes) (v : ℕ) (s : State) : Type 0 where
  n : ℕ
  there : number_at s.bytes bytes.count (z.frame + bytes.offset) ≡ Some n
  below : n < 2 ^ (8 * bytes.count)
  value : v ≡ n * 2 ^ (8 * bytes.place)

record AreBytes (z : Setting) (e : TermTree) (bytes : FrameBytes) : Type 0 where
  some : 0 < bytes.count
  within : bytes.place + bytes.count ≤ 4
  inside : bytes.offset + bytes.count ≤ z.size
  there : (env : StraightState) (s : State) → Ready z env s → IsThere z bytes (value_in env.variables e) s

-- the same bytes, whose value is the same
bytes_again : (z : Setting) (e whole : TermTree) (bytes : FrameBytes) → AreBytes z e bytes
    → ((m : Values) → value_in m e < 2 ^ 32 → value_in m whole ≡ value_in m e) → AreBytes z whole bytes
bytes_again z e whole bytes are same = record {
  some = are.some;
  within = are.within;
  inside = are.inside;
  there = λ env s ready.
      let t = are.there env s ready in
      let word = subst (λ v. v < 2 ^ 32) (sym t.value) (moved_word t.n bytes.count bytes.place t.below are.within) in
      record { n = t.n; there = t.there; below = t.below; value = same env.variables word ∙ t.value };
}

-- bytes that are moved up
bytes_moved : (z : Setting) (source : Place) (left right : TermTree) (bytes whole : FrameBytes) (amount : ℕ)
    → ((m : Values) → value_in m right ≡ amount) → AreBytes z left bytes → moved_up bytes (Some amount) ≡ Some whole
    → AreBytes z (binary source ShiftLeft W32 left right) whole
bytes_moved z source left right bytes whole amount known are is =
    let both = cond_some _ _ whole is in
    let parts = and_parts _ _ both.0 in
    let even = eqb-true (amount % 8) 0 parts.0 in
    let few = ltb-true _ 5 parts.1 in
    let within : bytes.place + amount / 8 + bytes.count ≤ 4 = omega (arith, few) in
    subst (AreBytes z (binary source ShiftLeft W32 left right)) both.1 (record {
      some = are.some;
      within = within;
      inside = are.inside;
      there = λ env s ready.
          let t = are.there env s ready in
          record {
            n = t.n;
            there = t.there;
            below = t.below;
            value = ap₂ (λ v k. v * 2 ^ (k % 32) % 2 ^ 32) t.value (known env.variables)
                ∙ bits_moved t.n bytes.count bytes.place amount t.below are.some even within;
          };
    })

-- bytes, and those that follow them
bytes_with_next : (z : Setting) (one other whole : TermTree) (low high : FrameBytes) → follow low high ≡ true
    → ((m : Values) → bit_or (value_in m one) (value_in m other) ≡ value_in m whole)
    → AreBytes z one low → AreBytes z other high → AreBytes z whole (with_next low high)
bytes_with_next z one other whole low high is same these those =
    let parts = and_parts _ _ is in
    let more = and_parts _ _ parts.1 in
    let offset : low.offset + low.count ≡ high.offset = eqb-true _ _ parts.0 in
    let place : low.place + low.count ≡ high.place = eqb-true _ _ more.0 in
    let few = ltb-true _ 5 more.1 in
    record {
      some = omega (arith, these.some);
      within = omega (arith, few, place);
      inside = omega (arith, those.inside, offset);
      there = λ env s ready.
          let t = these.there env s ready in
          let u = those.there env s ready in
          let at : z.frame + high.offset ≡ z.frame + low.offset + low.count = omega (arith, offset) in
          let sum : 8 * low.count + 8 * high.count ≡ 8 * (low.count + high.count) = omega arith in
          record {
            n = t.n + 2 ^ (8 * low.count) * u.n;
            there = number_joined s.bytes low.count high.count (z.frame + low.offset) t.n u.n t.there
                (ap (number_at s.bytes high.count) (sym at) ∙ u.there);
            below = joined_below t.n u.n low.count high.count t.below u.below;
            value = sym (same env.variables) ∙ (ap₂ bit_or t.value (u.value
                ∙ ap (λ p. u.n * 2 ^ (8 * p)) (sym place))
                ∙ bits_joined t.n u.n low.count low.place t.below);
          };
    }
  where
    joined_below : (n m c d : ℕ) → n < 2 ^ (8 * c) → m < 2 ^ (8 * d) → n + 2 ^ (8 * c) * m < 2 ^ (8 * (c + d))
    joined_below n m c d one other =
        let moved = moved_below m d c other in
        let sum : 8 * (c + d) ≡ 8 * c + 8 * d = omega arith in
        let p = 2 ^ (8 * c) in
        let all : 2 ^ (8 * (c + d)) ≡ p * 2 ^ (8 * d) = ap (λ k. 2 ^ k) sum ∙ pow-add 2 (8 * c) (8 * d) in
        subst (λ k. n + p * m < k) (sym all) (grown p (2 ^ (8 * d)) n m one other)
      where
        grown : (p q n m : ℕ) → n < p → m < q → n + p * m < p * q
        grown p q n m one other =
            let next : p * suc m ≤ p * q = mul-le-mul_left p other in
            omega (arith, next, mul-suc p m, one)

-- the word at an offset
pub record IsWord (z : Setting) (e : TermTree) (o : ℕ) : Type 0 where
  pub even : o % 4 ≡ 0
  pub inside : o + 4 ≤ z.size
  pub there : (env : StraightState) (s : State) → Ready z env s
      → number_at s.bytes 4 (z.frame + o) ≡ Some (value_in env.variables e)

-- four bytes that lie on an even offset
bytes_whole : (z : Setting) (e : TermTree) (bytes : FrameBytes) (o : ℕ) → whole_word (Some bytes) ≡ Some o
    → AreBytes z e bytes → IsWord z e o
bytes_whole z e bytes o is are =
    let both = cond_some _ _ o is in
    let parts = and_parts _ _ both.0 in
    let four : bytes.count ≡ 4 = eqb-true _ 4 parts.0 in
    let lowest : bytes.place ≡ 0 = omega (arith, are.within, four) in
    subst (IsWord z e) both.1 (record {
      even = eqb-true _ 0 parts.1;
      inside = subst (λ c. bytes.offset + c ≤ z.size) four are.inside;
      there = λ env s ready.
          let t = are.there env s ready in
          let value : value_in env.variables e ≡ t.n =
          t.value ∙ ap (λ p. t.n * 2 ^ (8 * p)) lowest ∙ once t.n in
          ap (λ c. number_at s.bytes c (z.frame + bytes.offset)) (sym four) ∙ (t.there ∙ ap Some (sym value));
    })
  where
    once : (n : ℕ) → n * 2 ^ (8 * 0) ≡ n
    once n = omega arith

-- The two ways of an operator.
record IsOr (operator : BinaryOperator) (left right : Option FrameBytes) (whole : FrameBytes) : Type 0 where
  l : FrameBytes
  r : FrameBytes
  is : operator ≡ BitOr
  left_is : left ≡ Some l
  right_is : right ≡ Some r
  joins : joined_bytes l (Some r) ≡ Some whole

record IsShift (operator : BinaryOperator) (width : Width) (left : Option FrameBytes) (number : Option ℕ)
    (whole : FrameBytes) : Type 0 where
  l : FrameBytes
  amount : ℕ
  is : operator ≡ ShiftLeft
  wide : width ≡ W32
  left_is : left ≡ Some l
  number_is : number ≡ Some amount
  moved : moved_up l (Some amount) ≡ Some whole

operated_known : (left : Option FrameBytes) (operator : BinaryOperator) (width : Width) (right : Option FrameBytes)
    (number : Option ℕ) (whole : FrameBytes) → operated_bytes left operator width right number ≡ Some whole
    → IsOr operator left right whole ⊎ IsShift operator width left number whole
operated_known None operator width right number whole is = absurd (none-some whole is)
operated_known (Some l) BitOr width None number whole is = absurd (none-some whole is)
operated_known (Some l) BitOr width (Some r) number whole is =
    inl (record { l = l; r = r; is = refl; left_is = refl; right_is = refl; joins = is })
operated_known (Some l) ShiftLeft W32 right None whole is = absurd (none-some whole is)
operated_known (Some l) ShiftLeft W32 right (Some amount) whole is =
    inr (record { l = l; amount = amount; is = refl; wide = refl; left_is = refl; number_is = refl; moved = is })
operated_known (Some l) operator width right number whole is = absurd (none-some whole is)

abbrev Typed : Setting → TermTree → WordType → Type 0
Typed z e word = TermHasType (types_of z.code.profile z.declared) e word

-- For code with a cost and an outcome.
module _ (z : Setting) (n : ℕ) (code : List Instr) (Q : After) where
  -- code that runs where an expression is such bytes runs behind its marks
  abbrev Marked : TermTree → FrameBytes → Type 0
  Marked e bytes = (steps : Steps) → (AreBytes z e bytes → Runs z n steps code (Ready z) Q)
      → Runs z n (λ env. path_in env.variables e ++ steps env) code (Ready z) Q

  element_marked : (source : Place) (x size : ℕ) (word : WordType) (mutable : Bool)
      → slice_get z.declared x ≡ Some (array_as word mutable size) → (index : TermTree) (o : ℕ)
      → near_element z.laid z.allocation x index ≡ Some o
      → Marked (element source x size index)
      (record { offset = o; count = element_bytes (kind_at z.laid x); place = 0 })
  element_marked source x size word mutable is index o e steps one =
      let array = array_as word mutable size in
      let lies = array_lies z x size word mutable is in
      let kind : kind_at z.laid x ≡ word.kind = kind_known z.laid x array lies in
      let near = near_known z.laid z.allocation x index o e in
      let k = λ (m : Values). known index near.i near.is m in
      let at : place_of z.laid x array near.i ≡ o =
      ap (λ k. variable_offset z.laid x + element_bytes k * near.i) (sym kind) ∙ near.at in
      along
      (λ env. ap (λ (p : Path). (p ++ indexed source size (value_in env.variables index) ∷ []) ++ steps env)
      (k env.variables).1)
      (by_known_index z source size (λ env. value_in env.variables index) near.i (λ env. (k env.variables).0)
      (λ below. one (record {
        some = (some_bytes (kind_at z.laid x)).0;
        within = omega (arith, (some_bytes (kind_at z.laid x)).1);
        inside = subst (λ k. o + element_bytes k ≤ z.size) (sym kind)
            (subst (λ a. a + element_bytes word.kind ≤ z.size) at (place_ends z x array near.i lies below));
        there = λ env s ready.
            let v = value_in env.variables (element source x size index) in
            record {
              n = v;
              there = ap₂ (λ k a. number_at s.bytes (element_bytes k) (z.frame + a)) kind (sym at)
                  ∙ (ready.variables_there x array near.i is (z.allocated.words x array size is refl) below
                  ∙ ap (λ i. Some (slice_index (env.variables x) i)) (sym (k env.variables).0));
              below = subst (λ k. v < 2 ^ (8 * element_bytes k)) (sym kind)
                  (kind_below word.kind v (element_fits word.kind (env.variables x) (value_in env.variables index)
                  (ready.fits x array is).within));
              value = omega arith;
            };
      })))

  by_element : (source : Place) (x size : ℕ) (word : WordType) (mutable : Bool)
      → slice_get z.declared x ≡ Some (array_as word mutable size) → (index : TermTree) (near : Option ℕ)
      → near_element z.laid z.allocation x index ≡ near → (bytes : FrameBytes)
      → element_at (kind_at z.laid x) near ≡ Some bytes → Marked (element source x size index) bytes
  by_element source x size word mutable is index None at bytes same = absurd (none-some bytes same)
  by_element source x size word mutable is index (Some o) at bytes same =
      subst (Marked (element source x size index)) (same_Some _ bytes same)
      (element_marked source x size word mutable is index o at)

  -- an OR of bytes that follow each other
  or_marked : (source : Place) (width : Width) (left right : TermTree) (l r whole : FrameBytes)
      → joined_bytes l (Some r) ≡ Some whole → Marked left l → Marked right r
      → Marked (binary source BitOr width left right) whole
  or_marked source width left right l r whole joins first second steps one =
      along
      (λ env.
      let a = path_in env.variables left in
      let b = path_in env.variables right in
      ap (λ (p : Path). p ++ steps env) (append-nil (a ++ b)) ∙ append_assoc a b (steps env))
      (first (λ env. path_in env.variables right ++ steps env)
      (λ these. second steps (λ those. one (either these those))))
    where
      either : AreBytes z left l → AreBytes z right r → AreBytes z (binary source BitOr width left right) whole
      either these those =
          let e = binary source BitOr width left right in
          cond_both (follow l r) (Some (with_next l r)) (cond (follow r l) (Some (with_next r l)) None)
          (λ (o : Option FrameBytes). o ≡ Some whole → AreBytes z e whole)
          (λ is same. subst (AreBytes z e) (same_Some (with_next l r) whole same)
          (bytes_with_next z left right e l r is (λ m. refl) these those))
          (λ apart same.
          let both = cond_some (follow r l) (with_next r l) whole same in
          subst (AreBytes z e) both.1
          (bytes_with_next z right left e r l both.0 (λ m. or_comm (value_in m right) (value_in m left)) those these))
          joins

  -- a shift by whole bytes
  shift_marked : (source : Place) (left right : TermTree) (l whole : FrameBytes) (amount : ℕ)
      → number_of right ≡ Some amount → moved_up l (Some amount) ≡ Some whole → Marked left l
      → Marked (binary source ShiftLeft W32 left right) whole
  shift_marked source left right l whole amount is moved first steps one =
      let k = λ (m : Values). known right amount is m in
      along
      (λ env.
      let a = path_in env.variables left in
      ap (λ (p : Path). (a ++ p ++ []) ++ steps env) (k env.variables).1
      ∙ ap (λ (p : Path). p ++ steps env) (append-nil (a ++ []) ∙ append-nil a))
      (first steps (λ are. one (bytes_moved z source left right l whole amount (λ m. (k m).0) are moved)))

  operated_marked : (source : Place) (operator : BinaryOperator) (width : Width) (left right : TermTree)
      → ((l : FrameBytes) → frame_bytes z.laid z.allocation left ≡ Some l → Marked left l)
      → ((r : FrameBytes) → frame_bytes z.laid z.allocation right ≡ Some r → Marked right r)
      → (bytes : FrameBytes)
      → operated_bytes (frame_bytes z.laid z.allocation left) operator width
      (frame_bytes z.laid z.allocation right) (number_of right) ≡ Some bytes
      → Marked (binary source operator width left right) bytes
  operated_marked source operator width left right first second bytes e =
      elim (operated_known (frame_bytes z.laid z.allocation left) operator width
      (frame_bytes z.laid z.allocation right) (number_of right) bytes e) [
        | inl or ↦ subst (λ o. Marked (binary source o width left right) bytes) (sym or.is)
            (or_marked source width left right or.l or.r bytes or.joins (first or.l or.left_is)
            (second or.r or.right_is))
        | inr shift ↦ subst (λ o. Marked (binary source o width left right) bytes) (sym shift.is)
            (subst (λ w. Marked (binary source ShiftLeft w left right) bytes) (sym shift.wide)
            (shift_marked source left right shift.l bytes shift.amount shift.number_is shift.moved
            (first shift.l shift.left_is)))
      ]

  marked : {e : TermTree} {word : WordType} → Typed z e word → (bytes : FrameBytes)
      → frame_bytes z.laid z.allocation e ≡ Some bytes → Marked e bytes
  marked (of_element {place = source} {x = x} {size = size} {index = index} {word = word} {mutable = mutable} is has)
      bytes e =
      by_element source x size word mutable is index (near_element z.laid z.allocation x index) refl bytes e
  marked (of_conversion {kind = Uint32} {operand = operand} has numeric) bytes e =
      λ steps one. marked has bytes e steps
      (λ are. one (bytes_again z operand (convert Uint32 operand) bytes are (λ m below. mod-eq_of_lt below)))
  marked (of_binary {place = source} {operator = operator} {width = width} {left = left} {right = right} has more makes
      same) bytes e =
      operated_marked source operator width left right (λ l is. marked has l is) (λ r is. marked more r is) bytes e
  marked has bytes e = absurd (none-some bytes e)

  -- where four bytes are a word, the code runs with that word
  pub word_marked : (source : Place) (operator : BinaryOperator) (width : Width) {left right : TermTree}
      {one other : WordType} → Typed z left one → Typed z right other → (o : ℕ)
      → joined_word z.laid z.allocation operator width left right ≡ Some o → (steps : Steps)
      → (IsWord z (binary source operator width left right) o → Runs z n steps code (Ready z) Q)
      → Runs z n (λ env. path_in env.variables (binary source operator width left right) ++ steps env) code (Ready z) Q
  word_marked source operator width {left = left} {right = right} has more o is steps one =
      by_bytes (operated_bytes (frame_bytes z.laid z.allocation left) operator width
      (frame_bytes z.laid z.allocation right) (number_of right)) refl is
    where
      by_bytes : (b : Option FrameBytes) → operated_bytes (frame_bytes z.laid z.allocation left) operator width
          (frame_bytes z.laid z.allocation right) (number_of right) ≡ b → whole_word b ≡ Some o
          → Runs z n (λ env. path_in env.variables (binary source operator width left right) ++ steps env) code (Ready z) Q
      by_bytes None at whole = absurd (none-some o whole)
      by_bytes (Some bytes) at whole =
          operated_marked source operator width left right (marked has) (marked more) bytes at steps
          (λ are. one (bytes_whole z (binary source operator width left right) bytes o whole are))
