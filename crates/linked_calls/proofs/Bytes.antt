-- Bytes: data that stays data, numbers put one after another, and stretches of zeros.
use Rattle.std.specs.Prelude.{◌⊎◌, is_some, unwrap_or, not, replicate}
use Rattle.std.proofs.Common.{◌≡◌, ℕ, zero, suc, ◌+◌, ◌*◌, ◌/◌, ◌%◌, ◌^◌, ◌<◌, ◌≤◌, ◌==◌}
use Rattle.std.proofs.Common.{nat_lt, List, [], ◌∷◌, ◌++◌, length, Some, inl, inr, ⊎_elim, refl, sym, ap, ap₂}
use Rattle.std.proofs.Common.{add-one, ◌∙◌, subst, arith, eq-eqb, ne_eqb}
use Rattle.std.proofs.Math.Arith.{mod-mul}
use Rattle.std.proofs.Math.Nat.{pow-suc}
use Rattle.std.proofs.lemmas.Bool.{cases_eq, cases_lt}
use Rattle.std.proofs.lemmas.Bool.Decides.{nat_tests}
use Rattle.linked_calls.proofs.Below.{ByteMap, is_inside, is_outside, number_at, number_at_same, numbers_at}
use Rattle.linked_calls.proofs.Below.{numbers_at-more, place, with_byte, with_number, with_number-suc}
use Rattle.linked_calls.proofs.Below.{with_number-zero, with_number_inside, with_number_outside, with_numbers}
pub use Rattle.linked_calls.proofs.Below.{is_some-with_numbers, number_there, zero_byte}
pub use Rattle.linked_calls.specs.Stretches.{AreData, AreZeroed}
use Rattle.word.specs.Operators.{word_of}

-- an address before a stretch or behind it
abbrev pub IsOutside : ℕ → ℕ → ℕ → Type 0
IsOutside low high x = (x < low) ⊎ (high ≤ x)

-- a store of equal numbers where two maps agree
pub with_number_agree : (one other : ByteMap) (n a v x : ℕ) → one x ≡ other x
    → with_number one n a v x ≡ with_number other n a v x
with_number_agree one other n a v x same = elim (place a n x) [
  | is_inside is from to ↦
      let put = with_number_inside n a v x from to in
      put.1 one ∙ sym (put.1 other)
  | is_outside is out ↦
      with_number_outside one n a v x out ∙ same ∙ sym (with_number_outside other n a v x out)
]

pow-pos : (n : ℕ) → 0 < 256 ^ n
pow-pos zero = omega arith
pow-pos (suc n) = let h = pow-pos n in rw (pow-suc 256 n) (omega arith)

low_part : (n v : ℕ) → v % 256 + 256 * (v / 256 % 256 ^ n) ≡ v % 256 ^ suc n
low_part n v =
    let cut = mod-mul v {m = 256 ^ n} {c = 256} (pow-pos n) (omega arith) in
    omega arith ∙ sym (ap (λ m. v % m) (pow-suc 256 n))

lowest : (v w high : ℕ) → v % 256 + 256 * high ≡ w → w % 256 ≡ v % 256
lowest v w high e = omega arith

others : (v w high : ℕ) → v % 256 + 256 * high ≡ w → w / 256 ≡ high
others v w high e = omega arith

-- the bytes of a number are those of its low part
pub with_number_cut : (bytes : ByteMap) (n a v : ℕ) → with_number bytes n a (v % 256 ^ n) ≡ with_number bytes n a v
with_number_cut bytes zero a v = with_number-zero bytes a (v % 256 ^ 0) ∙ sym (with_number-zero bytes a v)
with_number_cut bytes (suc n) a v =
    let e = low_part n v in
    let w = v % 256 ^ suc n in
    let high = v / 256 % 256 ^ n in
    with_number-suc bytes n a w
    ∙ ap₂ (λ (m : ByteMap) b. with_byte m a b) (ap (λ x. with_number bytes n (a + 1) x) (others v w high e)
    ∙ with_number_cut bytes n (a + 1) (v / 256)) (lowest v w high e)
    ∙ sym (with_number-suc bytes n a v)

-- a bool is 0 or not
pub same_truth : (v : ℕ) → word_of (nat_lt 0 v) ≡ word_of (not (v == 0))
same_truth v =
    let same : nat_lt 0 v ≡ not (v == 0) = grind (arith, nat_tests) in
    ap word_of same

-- Numbers put one after another.

pub numbers_outside : (bytes : ByteMap) (size at : ℕ) (vs : List ℕ) (x : ℕ) → IsOutside at (at + size * length vs) x
    → with_numbers bytes size at vs x ≡ bytes x
numbers_outside bytes size at [] x out = refl
numbers_outside bytes size at (v ∷ vs) x out =
    numbers_outside (with_number bytes size at v) size (at + size) vs x
    (elim out [ inl below ↦ inl (omega arith) | inr above ↦ inr (omega arith) ])
    ∙ with_number_outside bytes size at v x
    (elim out [ inl below ↦ inl below | inr above ↦ inr (omega arith) ])

pub numbers_agree : (one other : ByteMap) (size at : ℕ) (vs : List ℕ) (x : ℕ) → one x ≡ other x
    → with_numbers one size at vs x ≡ with_numbers other size at vs x
numbers_agree one other size at [] x same = same
numbers_agree one other size at (v ∷ vs) x same =
    numbers_agree (with_number one size at v) (with_number other size at v) size (at + size) vs x
    (with_number_agree one other size at v x same)

pub numbers_count : (bytes : ByteMap) (n a k : ℕ) → length (numbers_at bytes n a k) ≡ k
numbers_count bytes n a zero = refl
numbers_count bytes n a (suc k) = ap suc (numbers_count bytes n (a + n) k)

-- they are read the same where maps agree
pub numbers_same : (old new : ByteMap) (n a k : ℕ) → ((x : ℕ) → a ≤ x → x < a + n * k → new x ≡ old x)
    → numbers_at new n a k ≡ numbers_at old n a k
numbers_same old new n a zero same = refl
numbers_same old new n a (suc k) same =
    ap₂ (λ o (vs : List ℕ). unwrap_or o 0 ∷ vs)
    (number_at_same old new n a (λ x low high. same x low (omega arith)))
    (numbers_same old new n (a + n) k (λ x low high. same x (omega arith) (omega arith)))

-- a number beside those that are put is read as before
pub number_beside : (bytes : ByteMap) (n at : ℕ) (vs : List ℕ) (m a : ℕ) → (a + m ≤ at) ⊎ (at + n * length vs ≤ a)
    → number_at (with_numbers bytes n at vs) m a ≡ number_at bytes m a
number_beside bytes n at vs m a apart =
    number_at_same bytes (with_numbers bytes n at vs) m a
    (λ x low high. numbers_outside bytes n at vs x
    (elim apart [ inl before ↦ inl (omega arith) | inr behind ↦ inr (omega arith) ]))

-- one more is read, and one more is put
pub numbers_more : (bytes : ByteMap) (n a k : ℕ)
    → numbers_at bytes n a (suc k) ≡ numbers_at bytes n a k ++ unwrap_or (number_at bytes n (a + n * k)) 0 ∷ []
numbers_more bytes n a k = ap (numbers_at bytes n a) (sym (add-one k)) ∙ sym (numbers_at-more bytes n a k)

pub numbers_then : (bytes : ByteMap) (n at : ℕ) (vs : List ℕ) (v : ℕ)
    → with_numbers bytes n at (vs ++ v ∷ []) ≡ with_number (with_numbers bytes n at vs) n (at + n * length vs) v
numbers_then bytes n at [] v =
    let e : at + n * 0 ≡ at = omega arith in
    ap (λ x. with_number bytes n x v) (sym e)
numbers_then bytes n at (u ∷ vs) v =
    let e : at + n + n * length vs ≡ at + n * suc (length vs) = omega arith in
    let one = with_number bytes n at u in
    numbers_then one n (at + n) vs v ∙ ap (λ x. with_number (with_numbers one n (at + n) vs) n x v) e

-- the same addresses are data
abbrev pub SameData : ByteMap → ByteMap → Type 0
SameData old new = (x : ℕ) → is_some (new x) ≡ is_some (old x)

-- Zeros.

pub no_zeros : (low high : ℕ) (bytes : ByteMap) → high ≤ low → AreZeroed low high bytes bytes
no_zeros low high bytes none = record {
  inside = λ x from to. absurd (omega arith);
  outside = λ x where'. refl;
}

pub zero_inside : (bytes : ByteMap) (n a x : ℕ) → a ≤ x → x < a + n → with_number bytes n a 0 x ≡ Some 0
unfolding with_number
zero_inside bytes zero a x low high = absurd (omega arith)
zero_inside bytes (suc n) a x low high = elim (cases_eq x a) [
  | inl e ↦ rw (eq-eqb x a e) refl
  | inr other ↦ rw (ne_eqb x a other) (zero_inside bytes n (a + 1) x (omega arith) (omega arith))
]

pub zero_number : (bytes : ByteMap) (n a : ℕ) → AreZeroed a (a + n) bytes (with_number bytes n a 0)
zero_number bytes n a = record { inside = zero_inside bytes n a; outside = λ x out. with_number_outside bytes n a 0 x out }

below_too : (low mid high x : ℕ) → mid ≤ high → IsOutside low high x → IsOutside low mid x
below_too low mid high x b (inl l) = inl l
below_too low mid high x b (inr h) = inr (omega arith)

above_too : (low mid high x : ℕ) → low ≤ mid → IsOutside low high x → IsOutside mid high x
above_too low mid high x a (inl l) = inl (omega arith)
above_too low mid high x a (inr h) = inr h

-- the upper stretch, and then the lower one
pub zeros_down : (low mid high : ℕ) (one two three : ByteMap) → low ≤ mid → mid ≤ high → AreZeroed mid high one two
    → AreZeroed low mid two three → AreZeroed low high one three
zeros_down low mid high one two three a b up down = record {
  inside = λ x l h. ⊎_elim (λ (e : x < mid). down.inside x l e) (λ (e : mid ≤ x). down.outside x (inr e)
      ∙ up.inside x e h) (cases_lt x mid);
  outside = λ x w. down.outside x (below_too low mid high x b w) ∙ up.outside x (above_too low mid high x a w);
}

-- the lower one, and then the upper one
pub zeros_up : (low mid high : ℕ) (one two three : ByteMap) → low ≤ mid → mid ≤ high → AreZeroed low mid one two
    → AreZeroed mid high two three → AreZeroed low high one three
zeros_up low mid high one two three a b down up = record {
  inside = λ x l h. ⊎_elim (λ (e : x < mid). up.outside x (inl e) ∙ down.inside x l e)
      (λ (e : mid ≤ x). up.inside x e h) (cases_lt x mid);
  outside = λ x w. up.outside x (above_too low mid high x a w) ∙ down.outside x (below_too low mid high x b w);
}

-- so many words of them, one after another
pub zeroed_words : (bytes : ByteMap) (a k : ℕ) → AreZeroed a (a + 4 * k) bytes (with_numbers bytes 4 a (replicate k 0))
zeroed_words bytes a zero = no_zeros a (a + 4 * 0) bytes (omega arith)
zeroed_words bytes a (suc k) =
    let one = with_number bytes 4 a 0 in
    let all = with_numbers one 4 (a + 4) (replicate k 0) in
    let e : a + 4 + 4 * k ≡ a + 4 * suc k = omega arith in
    zeros_up a (a + 4) (a + 4 * suc k) bytes one all (omega arith) (omega arith) (zero_number bytes 4 a)
    (subst (λ x. AreZeroed (a + 4) x one all) e (zeroed_words one (a + 4) k))
