-- How often calls failed, as a number of 64 bits keeps it.
use Rattle.std.proofs.Common.{◌≡◌, ℕ, zero, suc, ◌+◌, ◌-◌, ◌^◌, ◌≤◌, min, refl, sym, ap, ◌∙◌, arith}
use Rattle.std.proofs.Math.Nat.{min-eq_left, min-eq_right}
use Rattle.commands.specs.Contents.{Contents, Store, failed, failed_times}
use Rattle.commands.specs.Below.{one_more}

-- one more of a count that is kept
one_more_kept : (n m : ℕ) → m ≡ n + 1 → one_more (min n (2 ^ 64 - 1)) ≡ min m (2 ^ 64 - 1)
one_more_kept n m is = by (n - (2 ^ 64 - 1)) refl
  where
    by : (beyond : ℕ) → n - (2 ^ 64 - 1) ≡ beyond → one_more (min n (2 ^ 64 - 1)) ≡ min m (2 ^ 64 - 1)
    by zero within =
        ap one_more (min-eq_left (omega (arith, within))) ∙ ap (λ (k : ℕ). min k (2 ^ 64 - 1)) (sym is)
    by (suc b) past =
        let whole : min n (2 ^ 64 - 1) ≡ 2 ^ 64 - 1 = min-eq_right (omega (arith, past)) in
        ap one_more whole ∙ sym (min-eq_right (omega (arith, past, is)))

-- so many more
times_kept : (contents : Contents) (failures times : ℕ) → failures ≤ 2 ^ 64 - 1
    → failed_times times (record { contents = contents; failures = failures })
    ≡ record { contents = contents; failures = min (failures + times) (2 ^ 64 - 1) }
times_kept contents failures zero low =
    let none : failures + 0 ≡ failures = omega arith in
    ap (λ (n : ℕ). record { contents = contents; failures = n })
    (sym (min-eq_left low) ∙ ap (λ (n : ℕ). min n (2 ^ 64 - 1)) (sym none))
times_kept contents failures (suc times) low =
    ap failed (times_kept contents failures times low)
    ∙ ap (λ (n : ℕ). record { contents = contents; failures = n })
    (one_more_kept (failures + times) (failures + suc times) (omega arith))

-- files whose count is added to, as a stream is handed back
pub kept_times : (contents : Contents) (failures times after : ℕ) → failures ≤ 2 ^ 64 - 1
    → after ≡ min (failures + times) (2 ^ 64 - 1)
    → ◌≡◌ {A = Store} (record { contents = contents; failures = after })
    (failed_times times (record { contents = contents; failures = failures }))
kept_times contents failures times after low added =
    ap (λ (n : ℕ). record { contents = contents; failures = n }) added
    ∙ sym (times_kept contents failures times low)
