-- The registers that operators work on: those of temporaries, the homes of variables, and the spare ones; and which
-- of them the code for a place may write.
use Rattle.std.proofs.Common.{◌≡◌, ◌≢◌, ◌⊎◌, inl, inr, ℕ, ◌+◌, ◌<◌, ◌≤◌, ◌==◌, ◌&&◌, ◌||◌, not, cond, nat_lt, nat_le}
use Rattle.std.proofs.Common.{Bool, true, false, List, Option, None, Some, refl, sym, ap, ◌∙◌, arith}
use Rattle.std.proofs.lemmas.Bool.{cases_Bool}
use Rattle.std.proofs.lemmas.Option.{none-some}
use Rattle.expression_code.proofs.Below.{Allocation, convert, FlatVariable, home_of_term, InRegister}
use Rattle.expression_code.proofs.Below.{keeps_words, IsAllocation, Location, lt-ltb, nat_tests, operand}
use Rattle.expression_code.proofs.Below.{register_of, temporary, TermTree, true≢false, variable}
use Rattle.expression_code.proofs.Below.{working_register}
use Rattle.expression_code.specs.Layout.{TermLayout}

-- a register that code may work on
pub record IsFree (r : ℕ) : Type 0 where
  pub small : r < 32
  pub low : 4 < r
  pub nonzero : r ≢ 0

pub free_from : (r : ℕ) → 4 < r → r < 32 → IsFree r
free_from r low high = record { small = high; low = omega (arith, low); nonzero = λ e. omega (arith, low, e) }

-- two of them
pub record ArePair (l r : ℕ) : Type 0 where
  pub one : IsFree l
  pub other : IsFree r
  pub apart : l ≢ r

-- Registers that are written. So many temporaries have one.

-- by the code for a place and higher ones: no temporary of a lower place, and no home
abbrev pub works_in : ℕ → ℕ → ℕ → Bool
works_in count place q = not (nat_lt q 28 && (nat_lt q (5 + place) || nat_le (5 + count) q))

-- and by such code whose value comes into a register
abbrev pub works_at : ℕ → ℕ → ℕ → ℕ → Bool
works_at count place d q = (q == d) || works_in count place q

pub low_at : (count place d q : ℕ) → 4 < d → q < 5 → works_at count place d q ≡ false
low_at count place d q free low = grind (arith, nat_tests)

pub home_stays : (count place q : ℕ) → 5 + count ≤ q → q < 28 → works_in count place q ≡ false
home_stays count place q low high = grind (arith, nat_tests)

pub lower_stays : (count place q : ℕ) → q < place → q < count → count ≤ 16 → works_in count place (5 + q) ≡ false
lower_stays count place q less small few = grind (arith, nat_tests)

-- so a higher place writes no more
pub higher_stays : (count less place q : ℕ) → less ≤ place → works_in count less q ≡ false
    → works_in count place q ≡ false
higher_stays count less place q few h = grind (arith, nat_tests)

pub beside_stays : (count place d q : ℕ) → works_at count place d q ≡ false → works_in count place q ≡ false
beside_stays count place d q h = grind (arith, nat_tests)

-- where the value comes into a register, other homes stay
pub home_beside : (count place d q : ℕ) → 5 + count ≤ q → q < 28 → q ≢ d → works_at count place d q ≡ false
home_beside count place d q low high other = grind (arith, nat_tests, other)

-- where the value comes into the register of a place
pub own_stays : (count place q : ℕ) → count ≤ 16 → works_in count place q ≡ false
    → works_at count place (working_register count place 29) q ≡ false
own_stays count place q few h = grind (arith, nat_tests)

pub target_works : (count place d : ℕ) → works_at count place d d ≡ true
target_works count place d = grind (arith, nat_tests)

-- those of this place and of higher ones among them
pub place_works : (count place d p spare : ℕ) → place ≤ p → 28 < spare
    → works_at count place d (working_register count p spare) ≡ true
place_works count place d p spare higher low = grind (arith, nat_tests)

pub spare_works : (count place d q : ℕ) → 27 < q → works_at count place d q ≡ true
spare_works count place d q low = grind (arith, nat_tests)

pub stays_spare : (count place q : ℕ) → works_in count place q ≡ false → q < 28
stays_spare count place q h = grind (arith, nat_tests)

pub not_written : (works : ℕ → Bool) (q r : ℕ) → works q ≡ false → works r ≡ true → q ≢ r
not_written works q r h k e = true≢false (sym k ∙ (ap works (sym e) ∙ h))

-- Operands: in a home, or in the register of a place, or in a spare one.

abbrev pub IsHome : ℕ → ℕ → Type 0
IsHome count r = (5 + count ≤ r) × (r < 28)

abbrev pub IsOperand : ℕ → ℕ → ℕ → ℕ → Type 0
IsOperand count place spare r = (r ≡ working_register count place spare) ⊎ IsHome count r

pub operand_free : (count place spare r : ℕ) → count ≤ 16 → 28 < spare → spare < 32
    → IsOperand count place spare r → IsFree r
operand_free count place spare r few low high (inl e) =
    free_from r (grind (arith, nat_tests, e)) (grind (arith, nat_tests, e))
operand_free count place spare r few low high (inr home) = free_from r (omega arith) (omega arith)

pub working_free : (count place spare : ℕ) → count ≤ 16 → 28 < spare → spare < 32
    → IsFree (working_register count place spare)
working_free count place spare few low high = operand_free count place spare _ few low high (inl refl)

-- an operand is not in a register that another place works in
pub operand_apart : (count p q s t r : ℕ) → count ≤ 16 → p ≢ q → 28 < s → 28 < t → s ≢ t → IsOperand count p s r
    → r ≢ working_register count q t
operand_apart count p q s t r few other low high apart (inl e) f =
    absurd (grind (arith, nat_tests, e, f, other, apart))
operand_apart count p q s t r few other low high apart (inr home) f =
    absurd (grind (arith, nat_tests, home.0, home.1, f))

-- or in another spare one
pub operand_not : (count place spare other r : ℕ) → count ≤ 16 → 27 < other → spare ≢ other
    → IsOperand count place spare r → r ≢ other
operand_not count place spare other r few low apart (inl e) f = absurd (grind (arith, nat_tests, e, f, apart))
operand_not count place spare other r few low apart (inr home) f = absurd (omega (arith, home.1, f, low))

-- The register that a value may come into: that of a place, or a home.
pub record IsTarget (count place d : ℕ) : Type 0 where
  pub free : IsFree d
  pub no_address : d ≢ 28
  pub no_spare : d ≢ 30
  pub no_next : d ≢ working_register count (place + 1) 30

pub operand_target : (count place d : ℕ) → count ≤ 16 → IsOperand count place 29 d → IsTarget count place d
operand_target count place d few is = record {
  free = operand_free count place 29 d few (omega arith) (omega arith) is;
  no_address = operand_not count place 29 28 d few (omega arith) (omega arith) is;
  no_spare = operand_not count place 29 30 d few (omega arith) (omega arith) is;
  no_next = operand_apart count place (place + 1) 29 30 d few (omega arith) (omega arith) (omega arith)
      (omega arith) is;
}

pub own_target : (count place : ℕ) → count ≤ 16 → IsTarget count place (working_register count place 29)
own_target count place few = operand_target count place (working_register count place 29) few (inl refl)

-- the register of a place that has one
pub place_target : (count place : ℕ) → count ≤ 16 → place < count → IsTarget count place (5 + place)
place_target count place few less =
    let is : 5 + place ≡ working_register count place 29 = rw (lt-ltb place count less) in
    operand_target count place (5 + place) few (inl is)

pub home_target : (count place d : ℕ) → count ≤ 16 → IsHome count d → IsTarget count place d
home_target count place d few home = operand_target count place d few (inr home)

-- what there is under a test is there, and the test is met
pub when_some : {A : Type 0} (b : Bool) (o : Option A) (x : A) → cond b o None ≡ Some x → (b ≡ true) × (o ≡ Some x)
when_some true o x is = (refl, is)
when_some false o x is = absurd (none-some x is)

-- there is something, or nothing
pub cases_Option : {A : Type 0} (o : Option A) → ((x : A) × (o ≡ Some x)) ⊎ (o ≡ None)
cases_Option (Some x) = inl (x, refl)
cases_Option None = inr refl

-- the home of an expression is that of a variable
pub home_allowed : (declared : List FlatVariable) (a : Allocation) → IsAllocation declared a → (e : TermTree) (home : ℕ)
    → home_of_term a e ≡ Some home → IsHome a.count home
home_allowed declared a allocated (variable x) home at = allocated.allowed x home at
home_allowed declared a allocated (convert kind e) home at =
    home_allowed declared a allocated e home (when_some (keeps_words a kind) (home_of_term a e) home at).1
home_allowed declared a allocated e home at = absurd (none-some home at)

-- Where an expression's value is.
module _ (layout : TermLayout) {declared : List FlatVariable} (allocated : IsAllocation declared layout.allocation)
    (place : ℕ) where
  -- what is so of the temporary of a place and of each home is so of where any expression is
  pub at_operand : (P : Location → Type 0) → P (temporary layout.allocation.count layout.free place)
      → ((home : ℕ) → IsHome layout.allocation.count home → P (InRegister home))
      → (e : TermTree) → P (operand layout place e)
  at_operand P there at_home e =
      elim (cases_Option (home_of_term layout.allocation e)) [
        | inl found ↦
            rw found.1 (at_home found.0
            (home_allowed declared layout.allocation allocated e found.0 found.1))
        | inr at ↦ rw at there
      ]

  pub is_operand : (spare : ℕ) (e : TermTree)
      → IsOperand layout.allocation.count place spare (register_of (operand layout place e) spare)
  is_operand spare e =
      at_operand (λ location. IsOperand layout.allocation.count place spare (register_of location spare))
      (inl (elim (cases_Bool (nat_lt place layout.allocation.count)) [ inl h ↦ rw h refl | inr h ↦ rw h refl ]))
      (λ home is. inr is) e
