-- The registers of the caller that the body writes, of those that it may count on: which are kept, and that with those
-- that are not written they are all.
use Rattle.std.specs.Prelude.{not}
use Rattle.std.proofs.Common.{◌≡◌, ◌≢◌, ℕ, ◌+◌, ◌*◌, ◌<◌, ◌≤◌, ◌==◌, ◌&&◌, Bool, true, false, List, [], ◌∷◌}
use Rattle.std.proofs.Common.{if◌then◌else◌, length, nat_lt, inl, inr, refl, sym, ap, ◌∙◌, arith, ne_eqb}
use Rattle.std.proofs.lemmas.Bool.{cases_eq, lt-ltb, ltb-true}
use Rattle.std.proofs.lemmas.Bool.Decides.{nat_tests}
use Rattle.linked_calls.proofs.Below.{after_all, are_straight, both_left, both_right, Data, is_written, loads_code}
use Rattle.linked_calls.proofs.Below.{number_at, number_or_zero, saved_registers, unwritten, with_result, written}
use Rattle.linked_calls.proofs.Below.{written_of}
use Rattle.linked_calls.proofs.Between.{AreLeft, AreSaved}
use Rattle.linked_calls.proofs.Parts.{are_others, are_registers, words_at}
use Rattle.linked_calls.proofs.SameRegisters.{AreSame, IsNone}

-- none is x0, x2 or x5
abbrev pub AreFitting : List ℕ → Type 0
AreFitting [] = Unit {0}
AreFitting (r ∷ rs) = (0 < r) × (r < 32) × (r ≢ 2) × (r ≢ 5) × AreFitting rs

abbrev are_fitting : List ℕ → Bool
are_fitting [] = true
are_fitting (r ∷ rs) = (nat_lt 0 r && (nat_lt r 32 && (not (r == 2) && not (r == 5)))) && are_fitting rs

differs : (q k : ℕ) → not (q == k) ≡ true → q ≢ k
differs q k h = grind (arith, nat_tests)

pub fitting_of : (rs : List ℕ) → are_fitting rs ≡ true → AreFitting rs
fitting_of [] h = tt
fitting_of (r ∷ rs) h =
    let first = both_left (nat_lt 0 r && (nat_lt r 32 && (not (r == 2) && not (r == 5)))) (are_fitting rs) h in
    let second = both_right (nat_lt 0 r) (nat_lt r 32 && (not (r == 2) && not (r == 5))) first in
    let third = both_right (nat_lt r 32) (not (r == 2) && not (r == 5)) second in (
      ltb-true 0 r (both_left (nat_lt 0 r) (nat_lt r 32 && (not (r == 2) && not (r == 5))) first),
      ltb-true r 32 (both_left (nat_lt r 32) (not (r == 2) && not (r == 5)) second),
      differs r 2 (both_left (not (r == 2)) (not (r == 5)) third),
      differs r 5 (both_right (not (r == 2)) (not (r == 5)) third),
      fitting_of rs
          (both_right (nat_lt 0 r && (nat_lt r 32 && (not (r == 2) && not (r == 5)))) (are_fitting rs) h),
    )

-- Of those that are written holds what holds of all.

written_fitting : (words rs : List ℕ) → AreFitting rs → AreFitting (written_of words rs)
written_fitting words [] fit = tt
written_fitting words (r ∷ rs) fit = by (is_written words r) (written_fitting words rs fit.4)
  where
    by : (b : Bool) → AreFitting (written_of words rs)
        → AreFitting (if b then r ∷ written_of words rs else written_of words rs)
    by true rest = (fit.0, fit.1, fit.2, fit.3, rest)
    by false rest = rest

pub kept_fitting : (words : List ℕ) → AreFitting (written_of words saved_registers)
kept_fitting words = written_fitting words saved_registers (fitting_of saved_registers refl)

pub written_none : (words rs : List ℕ) (q : ℕ) → IsNone rs q → IsNone (written_of words rs) q
written_none words [] q none = tt
written_none words (r ∷ rs) q none = by (is_written words r) (written_none words rs q none.1)
  where
    by : (b : Bool) → IsNone (written_of words rs) q
        → IsNone (if b then r ∷ written_of words rs else written_of words rs) q
    by true rest = (none.0, rest)
    by false rest = rest

-- Two functions that agree on each of a list that is not written.

pub left_then : (words rs : List ℕ) (f g h : ℕ → ℕ) → AreLeft words f g rs → AreLeft words g h rs
    → AreLeft words f h rs
left_then words [] f g h one other = tt
left_then words (r ∷ rs) f g h one other =
    (λ none. one.0 none ∙ other.0 none, left_then words rs f g h one.1 other.1)

pub left_same : (words rs : List ℕ) (f g : ℕ → ℕ) → AreSame f g rs → AreLeft words f g rs
left_same words [] f g same = tt
left_same words (r ∷ rs) f g same = (λ none. same.0, left_same words rs f g same.1)

pub left_of : (words rs : List ℕ) (f g : ℕ → ℕ) → ((r : ℕ) → is_written words r ≡ false → f r ≡ g r)
    → AreLeft words f g rs
left_of words [] f g same = tt
left_of words (r ∷ rs) f g same = (same r, left_of words rs f g same)

-- with those that are written, these are all
pub all_of_both : (words rs : List ℕ) (f g : ℕ → ℕ) → AreSame f g (written_of words rs) → AreLeft words f g rs
    → AreSame f g rs
all_of_both words [] f g same left = tt
all_of_both words (r ∷ rs) f g same left =
    by (is_written words r) refl (λ others. all_of_both words rs f g others left.1) same
  where
    by : (b : Bool) → is_written words r ≡ b → (AreSame f g (written_of words rs) → AreSame f g rs)
        → AreSame f g (if b then r ∷ written_of words rs else written_of words rs) → AreSame f g (r ∷ rs)
    by true is rest both = (both.0, rest both.1)
    by false is rest both = (left.0 is, rest both)

-- Registers that can be stored, and loaded from x5 on.

pub fitting_registers : (rs : List ℕ) → AreFitting rs → are_registers rs ≡ true
fitting_registers [] fit = refl
fitting_registers (r ∷ rs) fit = rw (lt-ltb r 32 fit.1) (fitting_registers rs fit.4)

pub fitting_others : (rs : List ℕ) → AreFitting rs → are_others rs ≡ true
fitting_others [] fit = refl
fitting_others (r ∷ rs) fit = rw (ne_eqb 5 r (λ e. fit.3 (sym e))) (fitting_others rs fit.4)

pub loads_plain : (offset : ℕ) (rs : List ℕ) → AreFitting rs → offset + 4 * length rs ≤ 2048
    → are_straight (λ q. not (q == 2)) (loads_code 5 offset rs) ≡ true
loads_plain offset [] fit near = refl
loads_plain offset (r ∷ rs) fit near =
    rw (ne_eqb r 2 fit.2, lt-ltb r 32 fit.1, lt-ltb offset 4096 (omega arith))
    (loads_plain (offset + 4) rs fit.4 (omega arith))

-- What the loads give.

abbrev pub loaded_from : ℕ → ℕ → List ℕ → Data → Data
loaded_from offset a rs d = after_all (loads_code 5 offset rs) (words_at a rs) d

abbrev first_loaded : ℕ → ℕ → Data → Data
first_loaded a r d = with_result r (number_or_zero (number_at d.bytes 4 a)) d

pub loads_bytes : (offset a : ℕ) (rs : List ℕ) (d : Data) → (loaded_from offset a rs d).bytes ≡ d.bytes
loads_bytes offset a [] d = refl
loads_bytes offset a (r ∷ rs) d = loads_bytes (offset + 4) (a + 4) rs (first_loaded a r d)

-- the others are as they were
pub loads_leave : (q offset a : ℕ) (rs : List ℕ) (d : Data) → IsNone rs q
    → (loaded_from offset a rs d).regs q ≡ d.regs q
loads_leave q offset a [] d none = refl
loads_leave q offset a (r ∷ rs) d none =
    loads_leave q (offset + 4) (a + 4) rs (first_loaded a r d) none.1
    ∙ unwritten d.regs r (number_or_zero (number_at d.bytes 4 a)) q none.0

module _ (regs : ℕ → ℕ) where
  first_value : (a r : ℕ) (rs : List ℕ) (d : Data) → 0 < r → AreSaved d.bytes regs a (r ∷ rs)
      → (first_loaded a r d).regs r ≡ regs r
  first_value a r rs d some saved =
      written d.regs r (number_or_zero (number_at d.bytes 4 a)) (λ e. omega arith) ∙ ap number_or_zero saved.0

  -- what holds what it was when the registers were saved does so still
  pub loads_give : (q offset a : ℕ) (rs : List ℕ) (d : Data) → AreFitting rs → AreSaved d.bytes regs a rs
      → d.regs q ≡ regs q → (loaded_from offset a rs d).regs q ≡ regs q
  loads_give q offset a [] d fit saved same = same
  loads_give q offset a (r ∷ rs) d fit saved same =
      loads_give q (offset + 4) (a + 4) rs (first_loaded a r d) fit.4 saved.1
      (elim (cases_eq q r) [
        | inl e ↦ ap (first_loaded a r d).regs e ∙ first_value a r rs d fit.0 saved ∙ ap regs (sym e)
        | inr other ↦ unwritten d.regs r (number_or_zero (number_at d.bytes 4 a)) q other ∙ same
      ])

  pub loads_back : (offset a : ℕ) (rs : List ℕ) (d : Data) → AreFitting rs → AreSaved d.bytes regs a rs
      → AreSame (loaded_from offset a rs d).regs regs rs
  loads_back offset a [] d fit saved = tt
  loads_back offset a (r ∷ rs) d fit saved = (
    loads_give r (offset + 4) (a + 4) rs (first_loaded a r d) fit.4 saved.1 (first_value a r rs d fit.0 saved),
    loads_back (offset + 4) (a + 4) rs (first_loaded a r d) fit.4 saved.1,
  )

  pub loads_left : (words qs : List ℕ) (offset a : ℕ) (rs : List ℕ) (d : Data) → AreFitting rs
      → AreSaved d.bytes regs a rs
      → AreLeft words d.regs regs qs → AreLeft words (loaded_from offset a rs d).regs regs qs
  loads_left words [] offset a rs d fit saved left = tt
  loads_left words (q ∷ qs) offset a rs d fit saved left = (
    λ none. loads_give q offset a rs d fit saved (left.0 none),
    loads_left words qs offset a rs d fit saved left.1,
  )
