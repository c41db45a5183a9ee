-- Bytes that are copied by numbers of some size: a map in which so many bytes of another stand from an address on is
-- one, however large the numbers were.
use Rattle.std.specs.Prelude.{is_some, unwrap_or}
use Rattle.std.proofs.Common.{◌≡◌, ℕ, zero, suc, ◌+◌, ◌-◌, ◌*◌, ◌/◌, ◌%◌, ◌^◌, ◌<◌, ◌≤◌, Bool, true, false}
use Rattle.std.proofs.Common.{List, [], ◌∷◌, map, Option, Some, None, inl, inr, ⊎_elim, refl, sym, ap, ◌∙◌, subst}
use Rattle.std.proofs.Common.{arith, eq-eqb, ne_eqb}
use Rattle.std.proofs.Math.Path.{fun_ext}
use Rattle.std.proofs.lemmas.Bool.{cases_lt, false≢true}
use Rattle.std.proofs.lemmas.List.{map-id}
use Rattle.linked_calls.proofs.Below.{AreBytes, Boolean, ByteMap, element_bytes, Kind}
use Rattle.linked_calls.proofs.Below.{numbers_at, Uint16, Uint32, Uint8, with_number, with_number_outside, with_numbers}
use Rattle.linked_calls.proofs.Bytes.{AreData, IsOutside, number_there, with_number_cut}
use Rattle.linked_calls.proofs.CopyElements.{copied_value}
use Rattle.linked_calls.specs.Below.{MutableArray, number_at}
use Rattle.linked_calls.specs.FunctionCode.{goes_in_as_it_is, is_open}
use Rattle.linked_calls.specs.Meant.{meant}
use Rattle.rv_machine.specs.Bytes.{joined}

-- so many bytes of a source stand from an address on, and else what a target holds
pub record AreMoved (target source new : ByteMap) (from to count : ℕ) : Type 0 where
  pub inside : (i : ℕ) → i < count → new (to + i) ≡ source (from + i)
  pub outside : (x : ℕ) → IsOutside to (to + count) x → new x ≡ target x

-- there is one such map
pub one_moved : (target source new other : ByteMap) (from to count : ℕ) → AreMoved target source new from to count
    → AreMoved target source other from to count → new ≡ other
one_moved target source new other from to count one two = fun_ext (λ x. by x)
  where
    here : (x : ℕ) → to ≤ x → x < to + count → new x ≡ other x
    here x low high =
        let place : to + (x - to) ≡ x = omega arith in
        let few : x - to < count = omega arith in
        subst (λ y. new y ≡ other y) place (one.inside (x - to) few ∙ sym (two.inside (x - to) few))

    by : (x : ℕ) → new x ≡ other x
    by x =
        ⊎_elim (λ (low : x < to). one.outside x (inl low) ∙ sym (two.outside x (inl low)))
        (λ (low : to ≤ x).
        ⊎_elim (λ (high : x < to + count). here x low high)
        (λ (high : to + count ≤ x). one.outside x (inr high) ∙ sym (two.outside x (inr high)))
        (cases_lt x (to + count)))
        (cases_lt x to)

-- some bytes, and then those behind them
pub moved_on : (target middle source new : ByteMap) (from to m n : ℕ) → AreMoved target source middle from to m
    → AreMoved middle source new (from + m) (to + m) n → AreMoved target source new from to (m + n)
moved_on target middle source new from to m n one two = record {
  inside = λ i few. ⊎_elim (λ (h : i < m). two.outside (to + i) (inl (omega arith)) ∙ one.inside i h)
      (λ (h : m ≤ i). further i few h) (cases_lt i m);
  outside = λ x out. two.outside x (beyond x out) ∙ one.outside x (before x out);
}
  where
    further : (i : ℕ) → i < m + n → m ≤ i → new (to + i) ≡ source (from + i)
    further i few past =
        let there : to + m + (i - m) ≡ to + i = omega arith in
        let here : from + m + (i - m) ≡ from + i = omega arith in
        ap new (sym there) ∙ two.inside (i - m) (omega arith) ∙ ap source here

    before : (x : ℕ) → IsOutside to (to + (m + n)) x → IsOutside to (to + m) x
    before x (inl low) = inl low
    before x (inr high) = inr (omega arith)

    beyond : (x : ℕ) → IsOutside to (to + (m + n)) x → IsOutside (to + m) (to + m + n) x
    beyond x (inl low) = inl (omega arith)
    beyond x (inr high) = inr (omega arith)

-- One number.

-- of a byte and what lies above it, the number's lowest byte and the rest
joined_parts : (low high : Option ℕ) → is_some low ≡ true → is_some high ≡ true
    → ((byte : ℕ) → low ≡ Some byte → byte < 2 ^ 8)
    → (Some (unwrap_or (joined low high) 0 % 256) ≡ low) × (unwrap_or (joined low high) 0 / 256 ≡ unwrap_or high 0)
joined_parts (Some l) (Some h) one other byte =
    let few = byte l refl in (
      ap Some (omega arith),
      omega arith,
    )
joined_parts (Some l) None one other byte = absurd (false≢true other)
joined_parts None high one other byte = absurd (false≢true one)

module _ (source : ByteMap) (are : AreBytes source) where
  number_inside : (target : ByteMap) (n a b i : ℕ) → AreData a (a + n) source → i < n
      → with_number target n b (unwrap_or (number_at source n a) 0) (b + i) ≡ source (a + i)
  unfolding with_number number_at
  number_inside target zero a b i there few = absurd (omega arith)
  number_inside target (suc n) a b zero there few =
      let above : is_some (number_at source n (a + 1)) ≡ true =
      number_there source n (a + 1) (λ x low high. there x (omega arith) (omega arith)) in
      let parts = joined_parts (source a) (number_at source n (a + 1)) (there a (omega arith) (omega arith)) above
      (are a) in
      let here : b + 0 ≡ b = omega arith in
      let same : a ≡ a + 0 = omega arith in
      rw (eq-eqb (b + 0) b here) (parts.0 ∙ ap source same)
  number_inside target (suc n) a b (suc i) there few =
      let above : is_some (number_at source n (a + 1)) ≡ true =
      number_there source n (a + 1) (λ x low high. there x (omega arith) (omega arith)) in
      let parts = joined_parts (source a) (number_at source n (a + 1)) (there a (omega arith) (omega arith)) above
      (are a) in
      let here : b + suc i ≡ b + 1 + i = omega arith in
      let same : a + 1 + i ≡ a + suc i = omega arith in
      rw (ne_eqb (b + suc i) b (λ e. omega arith))
      (ap (λ v. with_number target n (b + 1) v (b + suc i)) parts.1
      ∙ ap (with_number target n (b + 1) (unwrap_or (number_at source n (a + 1)) 0)) here
      ∙ number_inside target n (a + 1) (b + 1) i (λ x low high. there x (omega arith) (omega arith)) (omega arith)
      ∙ ap source same)

  number_moved : (target : ByteMap) (n a b : ℕ) → AreData a (a + n) source
      → AreMoved target source (with_number target n b (unwrap_or (number_at source n a) 0)) a b n
  number_moved target n a b there = record {
    inside = λ i few. number_inside target n a b i there few;
    outside = λ x out. with_number_outside target n b (unwrap_or (number_at source n a) 0) x out;
  }

  -- and numbers one after another
  pub numbers_moved : (target : ByteMap) (n a b k : ℕ) → AreData a (a + n * k) source
      → AreMoved target source (with_numbers target n b (numbers_at source n a k)) a b (n * k)
  numbers_moved target n a b zero there = record {
    inside = λ i few. absurd (omega arith);
    outside = λ x out. refl;
  }
  numbers_moved target n a b (suc k) there =
      let one = with_number target n b (unwrap_or (number_at source n a) 0) in
      let all : n + n * k ≡ n * suc k = omega arith in
      subst (λ m. AreMoved target source (with_numbers target n b (numbers_at source n a (suc k))) a b m) all
      (moved_on target one source (with_numbers one n (b + n) (numbers_at source n (a + n) k)) a b n (n * k)
      (number_moved target n a b (λ x low high. there x low (omega arith)))
      (numbers_moved one n (a + n) (b + n) k (λ x low high. there x (omega arith) (omega arith))))

-- so many bytes, and numbers behind them, are as many bytes as numbers of that size alone
pub moved_then : (bytes middle : ByteMap) (n from to gone rest all : ℕ) → AreBytes bytes → n * all ≡ gone + n * rest
    → AreData from (from + n * all) bytes → AreMoved bytes bytes middle from to gone
    → with_numbers middle n (to + gone) (numbers_at bytes n (from + gone) rest)
    ≡ with_numbers bytes n to (numbers_at bytes n from all)
moved_then bytes middle n from to gone rest all are count there moved =
    let behind = with_numbers middle n (to + gone) (numbers_at bytes n (from + gone) rest) in
    one_moved bytes bytes behind (with_numbers bytes n to (numbers_at bytes n from all)) from to (n * all)
    (subst (λ m. AreMoved bytes bytes behind from to m) (sym count)
    (moved_on bytes middle bytes behind from to gone (n * rest) moved
    (numbers_moved bytes are middle n (from + gone) (to + gone) rest
    (λ x low high. there x (omega arith) (omega arith)))))
    (numbers_moved bytes are bytes n from to all there)

-- What elements that go as they are become is nothing else.

-- whether they go so, by the way
abbrev pub goes_as_it_is : Bool → Kind → Bool
goes_as_it_is true kind = goes_in_as_it_is kind
goes_as_it_is false kind = true

cut_numbers : (bytes : ByteMap) (n at : ℕ) (vs : List ℕ)
    → with_numbers bytes n at (map (λ v. v % 256 ^ n) vs) ≡ with_numbers bytes n at vs
cut_numbers bytes n at [] = refl
cut_numbers bytes n at (v ∷ vs) =
    ap (λ (m : ByteMap). with_numbers m n (at + n) (map (λ w. w % 256 ^ n) vs)) (with_number_cut bytes n at v)
    ∙ cut_numbers (with_number bytes n at v) n (at + n) vs

-- a number that is copied into its slot is what it is
pub values_same : (inward : Bool) (kind : Kind) (bytes : ByteMap) (at : ℕ) (vs : List ℕ) → goes_as_it_is inward kind ≡ true
    → with_numbers bytes (element_bytes kind) at (map (copied_value inward kind) vs)
    ≡ with_numbers bytes (element_bytes kind) at vs
values_same true Boolean bytes at vs goes = absurd (false≢true goes)
values_same true Uint8 bytes at vs goes = cut_numbers bytes 1 at vs
values_same true Uint16 bytes at vs goes = cut_numbers bytes 2 at vs
values_same true Uint32 bytes at vs goes = cut_numbers bytes 4 at vs
values_same false kind bytes at vs goes = ap (λ (ws : List ℕ). with_numbers bytes (element_bytes kind) at ws) (map-id vs)

-- nor is what numbers mean that are no bools
pub meant_same : (kind : Kind) (bytes : ByteMap) (at : ℕ) (vs : List ℕ) → is_open MutableArray kind ≡ true
    → with_numbers bytes (element_bytes kind) at (map (meant kind) vs) ≡ with_numbers bytes (element_bytes kind) at vs
meant_same Boolean bytes at vs opens = absurd (false≢true opens)
meant_same Uint8 bytes at vs opens = cut_numbers bytes 1 at vs
meant_same Uint16 bytes at vs opens = cut_numbers bytes 2 at vs
meant_same Uint32 bytes at vs opens = cut_numbers bytes 4 at vs
