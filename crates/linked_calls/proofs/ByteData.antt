-- Data that is bytes: it stays so where numbers are put and where stretches become zeros.
use Rattle.std.proofs.Common.{◌≡◌, ℕ, zero, suc, ◌+◌, ◌/◌, ◌%◌, ◌^◌, ◌<◌, ◌≤◌, ◌==◌, Bool, true, false, List, [], ◌∷◌}
use Rattle.std.proofs.Common.{Option, Some, if◌then◌else◌, inl, inr, ⊎_elim, sym, ◌∙◌, arith}
use Rattle.std.proofs.lemmas.Bool.{cases_lt}
use Rattle.linked_calls.proofs.Below.{AreBytes, AreZeroed, ByteMap, with_number, with_numbers}

-- a byte is put, or another is there as before
one_byte : (here : Bool) (v byte : ℕ) (rest : Option ℕ) → (rest ≡ Some byte → byte < 2 ^ 8)
    → (if here then Some (v % 256) else rest) ≡ Some byte → byte < 2 ^ 8
one_byte true v byte rest others there =
    let same : v % 256 ≡ byte = cc in
    omega arith
one_byte false v byte rest others there = others there

pub number_stays : (bytes : ByteMap) (n a v : ℕ) → AreBytes bytes → AreBytes (with_number bytes n a v)
unfolding with_number
number_stays bytes zero a v are x byte there = are x byte there
number_stays bytes (suc n) a v are x byte there =
    one_byte (x == a) v byte (with_number bytes n (a + 1) (v / 256) x)
    (λ h. number_stays bytes n (a + 1) (v / 256) are x byte h) there

pub numbers_stay : (bytes : ByteMap) (size at : ℕ) (vs : List ℕ) → AreBytes bytes
    → AreBytes (with_numbers bytes size at vs)
numbers_stay bytes size at [] are = are
numbers_stay bytes size at (v ∷ vs) are =
    numbers_stay (with_number bytes size at v) size (at + size) vs (number_stays bytes size at v are)

zero_is_byte : (byte : ℕ) → Some 0 ≡ Some byte → byte < 2 ^ 8
zero_is_byte byte same =
    let none : 0 ≡ byte = cc in
    omega arith

pub zeroed_stays : (low high : ℕ) (old new : ByteMap) → AreZeroed low high old new → AreBytes old → AreBytes new
zeroed_stays low high old new zeroed are x byte there =
    ⊎_elim (λ (e : x < low). are x byte (sym (zeroed.outside x (inl e)) ∙ there))
    (λ (e : low ≤ x).
    ⊎_elim (λ (f : x < high). zero_is_byte byte (sym (zeroed.inside x e f) ∙ there))
    (λ (f : high ≤ x). are x byte (sym (zeroed.outside x (inr f)) ∙ there)) (cases_lt x high))
    (cases_lt x low)
