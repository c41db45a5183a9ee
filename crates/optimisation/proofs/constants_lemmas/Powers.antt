-- Numbers that are powers of two.
use Rattle.std.proofs.Common.{◌≡◌, ℕ, ◌/◌, ◌^◌, ◌==◌, ◌<◌, ◌&&◌, nat_lt, None, Some, IfSome, arith}
use Rattle.std.proofs.Math.Nat.{div-le_self}
use Rattle.std.proofs.lemmas.Bool.{and_parts, cond_both, eqb-true, ltb-true}
use Rattle.std.specs.Int.Count.{count_trailing_zeros}
use Rattle.optimisation.specs.Below.{bits, IsWord, Width}
use Rattle.optimisation.specs.constants.private.Powers.{exponent_of}

pub record IsPower (n k : ℕ) : Type 0 where
  pub few : k < 32
  pub is : n ≡ 2 ^ k

pub is_power : (n : ℕ) → IfSome (exponent_of n) (IsPower n)
is_power n =
    let k = count_trailing_zeros 32 n in
    cond_both (nat_lt k 32 && (n == 2 ^ k)) (Some k) None (λ o. IfSome o (IsPower n))
    (λ is. let parts = and_parts (nat_lt k 32) (n == 2 ^ k) is in
    record { few = ltb-true k 32 parts.0; is = eqb-true n (2 ^ k) parts.1 })
    (λ is. tt)

pub quotient_below : (w : Width) (a b : ℕ) → IsWord w a → a / b < 2 ^ bits w
quotient_below w a b low = let less = div-le_self a b in omega arith
