-- Work that is above the limit is the first of what is violated.
use Rattle.std.proofs.Common.{◌≡◌, ℕ, ◌<◌, ◌≤◌, inr, Bool, true, nat_lt, [], refl, sym, subst, arith, Result}
use Rattle.std.proofs.Common.{Ok, Err, OnOk, IfErr}
use Rattle.std.proofs.lemmas.Bool.Decides.{nat_tests}
use Rattle.std.proofs.lemmas.List.Elements.{All-cons, All-nil}
use Rattle.intervals.specs.Below.{because, FlatProgram, IsFirst, IsNamed, IsNoLaterThan, TooMuch, TooMuchWork}
use Rattle.intervals.specs.Below.{Violation, when}
use Rattle.intervals.specs.Limits.{most_work}
use Rattle.intervals.specs.Work.{work_excess, work_of, work_violations}

abbrev pub too_much : FlatProgram → Violation
too_much p = record { place = p.place; rule = TooMuchWork; why = TooMuch (work_excess p) }

alone : (p : FlatProgram)
    → IsFirst (because (TooMuch (work_excess p)) p.place (when true TooMuchWork)) (too_much p)
alone p =
    let named : Violation = too_much p in
    record {
      there = (0, omega arith, refl);
      least =
          All-cons (IsNoLaterThan named) named [] (inr (refl, omega arith)) (All-nil (IsNoLaterThan named));
    }

above : (a b : ℕ) → a < b → nat_lt a b ≡ true
above a b h = grind (arith, nat_tests)

pub above_limit : (p : FlatProgram) → (work_of p ≤ most_work → ⊥)
    → IsFirst (work_violations p) (too_much p)
above_limit p many =
    subst (λ (b : Bool). IsFirst (because (TooMuch (work_excess p)) p.place (when b TooMuchWork)) (too_much p))
    (sym (above most_work (work_of p) (grind (arith, many)))) (alone p)

pub named_above_limit : (p : FlatProgram) → (work_of p ≤ most_work → ⊥) → IsNamed (work_violations p) (too_much p)
named_above_limit p many =
    subst (λ (b : Bool). IsNamed (because (TooMuch (work_excess p)) p.place (when b TooMuchWork)) (too_much p))
    (sym (above most_work (work_of p) (grind (arith, many)))) refl

-- what holds anyway holds on success
pub on_any : {T E P : Type 0} (result : Result T E) → P → OnOk result P
on_any (Ok value) p = p
on_any (Err e) p = tt

-- what holds of an error follows from what does
pub on_error : {T E : Type 0} {P Q : E → Type 0} (result : Result T E) → ((e : E) → P e → Q e) → IfErr result P
    → IfErr result Q
on_error (Ok value) f p = tt
on_error (Err e) f p = f e p
