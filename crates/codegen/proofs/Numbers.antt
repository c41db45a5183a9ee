-- Numbers that are put one after another.
use Rattle.std.proofs.Common.{◌≡◌, ◌≢◌, ⊎_elim, ◌⊎◌, inl, inr, ℕ, zero, suc, ◌+◌, ◌*◌, ◌/◌, ◌%◌, ◌^◌, ◌<◌, ◌≤◌, true}
use Rattle.std.proofs.Common.{◌&&◌, cond, is_some, nat_le, nat_lt, List, [], ◌∷◌, length, Some, None, slice_index, refl}
use Rattle.std.proofs.Common.{ap, ap₂, ◌∙◌, arith}
use Rattle.codegen.proofs.Machine.{ByteMap, joined, number_at, with_number, zeros, with_numbers}
use Rattle.codegen.proofs.Logic.{cases_eq, nat_tests, number_at_same, number_at-with_number, with_number-zero}
use Rattle.codegen.proofs.Logic.{with_number-suc, with_byte_same, with_byte_other, number_at-zero, number_at-suc}
use Rattle.codegen.proofs.Logic.{with_number_below, with_number_above}

-- bytes beside them are as they were
pub numbers_beside : (bytes : ByteMap) (size at : ℕ) (vs : List ℕ) (x : ℕ) → (x < at) ⊎ (at + size * length vs ≤ x)
    → with_numbers bytes size at vs x ≡ bytes x
numbers_beside bytes size at [] x side = refl
numbers_beside bytes size at (v ∷ vs) x (inl below) =
    numbers_beside (with_number bytes size at v) size (at + size) vs x (inl (omega (arith, below)))
    ∙ with_number_below bytes size at v x below
numbers_beside bytes size at (v ∷ vs) x (inr above) =
    numbers_beside (with_number bytes size at v) size (at + size) vs x (inr (omega (arith, above)))
    ∙ with_number_above bytes size at v x (omega (arith, above))

-- what is data stays data

pub number_data : (bytes : ByteMap) (n at v x : ℕ) → is_some (bytes x) ≡ true
    → is_some (with_number bytes n at v x) ≡ true
number_data bytes zero at v x here = ap (λ (b : ByteMap). is_some (b x)) (with_number-zero bytes at v) ∙ here
number_data bytes (suc n) at v x here =
    let rest = with_number bytes n (at + 1) (v / 256) in
    let before = number_data bytes n (at + 1) (v / 256) x here in
    ap (λ (b : ByteMap). is_some (b x)) (with_number-suc bytes n at v)
    ∙ ⊎_elim (λ (e : x ≡ at). ap is_some (with_byte_same rest at (v % 256) x e))
    (λ (e : x ≢ at). ap is_some (with_byte_other rest at (v % 256) x e) ∙ before) (cases_eq x at)

pub numbers_data : (bytes : ByteMap) (size at : ℕ) (vs : List ℕ) (x : ℕ) → is_some (bytes x) ≡ true
    → is_some (with_numbers bytes size at vs x) ≡ true
numbers_data bytes size at [] x here = here
numbers_data bytes size at (v ∷ vs) x here =
    numbers_data (with_number bytes size at v) size (at + size) vs x (number_data bytes size at v x here)

-- each is there
pub numbers_there : (bytes : ByteMap) (size at : ℕ) (vs : List ℕ) (i : ℕ)
    → ((j : ℕ) → j < length vs → slice_index vs j % 256 ^ size ≡ slice_index vs j) → i < length vs
    → number_at (with_numbers bytes size at vs) size (at + size * i) ≡ Some (slice_index vs i)
numbers_there bytes size at [] i fits below = absurd (omega (arith, below))
numbers_there bytes size at (v ∷ vs) zero fits below =
    let here : at + size * 0 ≡ at = omega arith in
    let next = with_number bytes size at v in
    ap (λ a. number_at (with_numbers next size (at + size) vs) size a) here
    ∙ (number_at_same next (with_numbers next size (at + size) vs) size at
    (λ x low high. numbers_beside next size (at + size) vs x (inl high))
    ∙ (number_at-with_number bytes size at v ∙ ap Some (fits 0 (omega arith))))
numbers_there bytes size at (v ∷ vs) (suc i) fits below =
    let next = with_number bytes size at v in
    let there : at + size * suc i ≡ at + size + size * i = omega arith in
    ap (λ a. number_at (with_numbers next size (at + size) vs) size a) there
    ∙ numbers_there next size (at + size) vs i (λ j less. fits (suc j) (omega (arith, less))) (omega (arith, below))

-- each byte in the zeros is 0
pub zero_byte : (base n a : ℕ) → base ≤ a → a < base + n → zeros base n a ≡ Some 0
zero_byte base n a low high =
    let inside : (nat_le base a && nat_lt a (base + n)) ≡ true = grind (arith, nat_tests) in
    ap (λ b. cond b (Some 0) None) inside

-- and a number is 0 where its bytes are, off a base
pub zero_number : (bytes : ByteMap) (base n o : ℕ) → ((b : ℕ) → o ≤ b → b < o + n → bytes (base + b) ≡ Some 0)
    → number_at bytes n (base + o) ≡ Some 0
zero_number bytes base zero o blank = number_at-zero bytes (base + o)
zero_number bytes base (suc n) o blank =
    let next : base + o + 1 ≡ base + (o + 1) = omega arith in
    number_at-suc bytes n (base + o)
    ∙ ap₂ joined (blank o (omega arith) (omega arith)) (ap (number_at bytes n) next
    ∙ zero_number bytes base n (o + 1) (λ b low high. blank b (omega (arith, low)) (omega (arith, high))))
