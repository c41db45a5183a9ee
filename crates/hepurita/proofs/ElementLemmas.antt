-- Numbers one after another: those that are put, and those that are read.
use Rattle.std.proofs.Common.{◌≡◌, ℕ, zero, suc, ◌+◌, ◌*◌, ◌<◌, ◌≤◌, true, ◌&&◌, Option, Some, List, [], ◌∷◌, ◌++◌}
use Rattle.std.proofs.Common.{length, drop, slice_index_or, is_some, unwrap_or, refl, sym, ap, ◌∙◌, arith, drop-cons}
use Rattle.std.proofs.Common.{add-one}
use Rattle.std.proofs.Math.Nat.{mul-suc}
use Rattle.hepurita.specs.Below.{byte_count, ByteMap, joined, number_at, numbers_at, with_number, with_numbers}
use Rattle.hepurita.proofs.Below.{number_at-suc, number_at-zero, is_some-with_number}
use Rattle.rv_machine.specs.declared.memory.Size.{Size}
use Rattle.rv_machine.specs.declared.memory.Size.TheVariants.{Byte}

is_some-joined : (a b : Option ℕ) → is_some (joined a b) ≡ (is_some a && is_some b)
is_some-joined (Some x) (Some y) = refl
is_some-joined a b = refl

-- a number is data where each of its bytes is
pub number_there : (bytes : ByteMap) (n a : ℕ) → ((x : ℕ) → a ≤ x → x < a + n → is_some (bytes x) ≡ true)
    → is_some (number_at bytes n a) ≡ true
number_there bytes zero a there = ap is_some (number_at-zero bytes a)
number_there bytes (suc n) a there =
    rw (
      number_at-suc bytes n a,
      is_some-joined (bytes a) (number_at bytes n (a + 1)),
      there a (omega arith) (omega arith),
    )
    (number_there bytes n (a + 1) (λ x low high. there x (omega arith) (omega arith)))

-- a number with a place below the count ends not after them all
pub ends_within : (size : Size) (i n at bound : ℕ) → i < n → at + byte_count size * n ≤ bound
    → at + byte_count size * i + byte_count size ≤ bound
ends_within Byte i n at bound below within = omega arith
ends_within size i n at bound below within = omega arith

-- where the next number is
pub next_place : (at size i : ℕ) → at + size * i + size ≡ at + size * (i + 1)
next_place at size i =
    let first : at + size * i + size ≡ at + size * suc i = omega (arith, mul-suc size i) in
    first ∙ ap (λ n. at + size * n) (sym (add-one i))

-- putting what is left begins with the next number
pub with_numbers-next : (bytes : ByteMap) (size at : ℕ) (numbers : List ℕ) (i number : ℕ) → i < length numbers
    → with_numbers bytes size at (drop i numbers)
    ≡ with_numbers (with_number bytes size at (slice_index_or numbers i number)) size (at + size)
    (drop (i + 1) numbers)
with_numbers-next bytes size at numbers i number below =
    rw (add-one i, drop-cons numbers i number below)

-- a number more at the end
one_more : (bytes : ByteMap) (size at n : ℕ)
    → numbers_at bytes size at n ++ unwrap_or (number_at bytes size (at + size * n)) 0 ∷ []
    ≡ numbers_at bytes size at (suc n)
one_more bytes size at zero = ap (λ a. unwrap_or (number_at bytes size a) 0 ∷ []) (omega arith)
one_more bytes size at (suc n) =
    let place : at + size * suc n ≡ at + size + size * n = omega (arith, mul-suc size n) in
    rw (place, one_more bytes size (at + size) n)

pub numbers_at-more : (bytes : ByteMap) (size at n : ℕ)
    → numbers_at bytes size at n ++ unwrap_or (number_at bytes size (at + size * n)) 0 ∷ []
    ≡ numbers_at bytes size at (n + 1)
numbers_at-more bytes size at n = one_more bytes size at n ∙ ap (numbers_at bytes size at) (sym (add-one n))

-- where each byte is data, putting numbers keeps which addresses are data
pub is_some-with_numbers : (bytes : ByteMap) (size at : ℕ) (numbers : List ℕ)
    → ((x : ℕ) → at ≤ x → x < at + size * length numbers → is_some (bytes x) ≡ true)
    → (x : ℕ) → is_some (with_numbers bytes size at numbers x) ≡ is_some (bytes x)
is_some-with_numbers bytes size at [] there x = refl
is_some-with_numbers bytes size at (v ∷ vs) there x =
    let all = mul-suc size (length vs) in
    let first = λ (y : ℕ). is_some-with_number bytes size at v y
    (number_there bytes size at (λ z low high. there z low (omega arith))) in
    is_some-with_numbers (with_number bytes size at v) size (at + size) vs
    (λ y low high. first y ∙ there y (omega arith) (omega arith)) x ∙ first x
