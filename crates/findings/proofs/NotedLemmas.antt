-- What is kept over a list of violations.
use Rattle.std.proofs.Common.{◌≡◌, ℕ, ◌+◌, ◌<◌, ◌≤◌, ◌^◌, ◌-◌, suc, true, false, Bool, nat_lt, List, [], ◌∷◌, ◌++◌}
use Rattle.std.proofs.Common.{length}
use Rattle.std.proofs.Common.{Option, None, fold, refl, ap, sym, ◌∙◌, inl, inr, arith, length-append, ap₂, ◌||◌}
use Rattle.std.proofs.Common.{true≢false, Some}
use Rattle.std.proofs.lemmas.Bool.{cases_Bool}
use Rattle.std.proofs.lemmas.Bool.Decides.{nat_tests}
use Rattle.std.proofs.lemmas.List.{append_assoc, append-nil}
use Rattle.language.specs.declared.typing.Violation.{Violation}
use Rattle.language.specs.Sooner.{is_sooner, sooner}
use Rattle.findings.specs.Noted.{kept_within, Noted, noted, nothing_within, one_more, would_tell}

-- the first is kept as if alone
pub first_over : (before : Noted) (all : List Violation)
    → (fold noted before all).first ≡ fold sooner before.first all
unfolding noted
first_over before [] = refl
first_over before (v ∷ all) = first_over (noted before v) all

-- the count, below the greatest number
pub count_over : (before : Noted) (all : List Violation) → (fold noted before all).count < 2 ^ 64 - 1
    → (fold noted before all).count ≡ before.count + length all
unfolding noted
count_over before [] h = omega arith
count_over before (v ∷ all) h =
    let after = count_over (noted before v) all h in
    elim (cases_Bool (nat_lt before.count (2 ^ 64 - 1))) [
      | inl below ↦ by before.count _ (length all) below after
      | inr full ↦ absurd (stays before.count _ (length all) full after h)
    ]
  where
    by : (count last many : ℕ) → nat_lt count (2 ^ 64 - 1) ≡ true → last ≡ one_more count + many
        → last ≡ count + suc many
    by count last many below h = grind (arith, nat_tests)

    stays : (count last many : ℕ) → nat_lt count (2 ^ 64 - 1) ≡ false → last ≡ one_more count + many
        → last < 2 ^ 64 - 1 → ⊥
    stays count last many full h below = grind (arith, nat_tests)

-- as many are kept as there is room for
pub kept_over : (before : Noted) (all : List Violation) → length before.kept + length all ≤ before.room
    → (fold noted before all).kept ≡ before.kept ++ all
unfolding noted
kept_over before [] h = sym (append-nil before.kept)
kept_over before (v ∷ all) h =
    let room : nat_lt (length before.kept) before.room ≡ true = grind (arith, nat_tests) in
    let here : kept_within before.room before.kept v ≡ before.kept ++ v ∷ [] = rw room refl in
    let long = ap (λ (l : List Violation). length l) here ∙ length-append before.kept (v ∷ []) in
    kept_over (noted before v) all (omega (arith, long, h))
    ∙ ap (λ (l : List Violation). l ++ all) here ∙ append_assoc before.kept (v ∷ []) all

-- where it would not be told why, it does not matter
pub untold : (before : Noted) (one other : Violation) → one.place ≡ other.place → one.rule ≡ other.rule
    → would_tell before one ≡ false → noted before one ≡ noted before other
unfolding noted
untold before one other place rule h =
    let later = or_none (is_sooner before.first one) (nat_lt (length before.kept) before.room) h in
    ap₂ (λ (first : Option Violation) (kept : List Violation).
    record { first = first; count = one_more before.count; kept = kept; room = before.room })
    (as_before before.first one later.0 ∙ sym (as_before before.first other (alike before.first later.0)))
    (unkept before.kept before.room one later.1 ∙ sym (unkept before.kept before.room other later.1))
  where
    or_none : (a b : Bool) → (a || b) ≡ false → (a ≡ false) × (b ≡ false)
    or_none true b h = absurd (true≢false h)
    or_none false b h = (refl, h)

    as_before : (first : Option Violation) (v : Violation) → is_sooner first v ≡ false → sooner first v ≡ first
    as_before None v h = absurd (true≢false h)
    as_before (Some u) v h = rw h refl

    alike : (first : Option Violation) → is_sooner first one ≡ false → is_sooner first other ≡ false
    alike None h = h
    alike (Some u) h = rw (← place, ← rule) h

    unkept : (kept : List Violation) (room : ℕ) (v : Violation) → nat_lt (length kept) room ≡ false
        → kept_within room kept v ≡ kept
    unkept kept room v h = rw h refl

-- the first, as it is told of what came behind nothing
pub first_is : {before found : Noted} {first : Option Violation} (all : List Violation)
    → before ≡ nothing_within 0 → found ≡ fold noted before all
    → ((each : List Violation) → found ≡ fold noted (nothing_within 0) each → first ≡ fold sooner None each)
    → first ≡ fold sooner None all
first_is all none is of_each = of_each all (rw (← none) is)
