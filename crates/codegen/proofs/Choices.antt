-- What holds of both choices holds of the one that is made.
use Rattle.std.proofs.Common.{◌≡◌, Bool, true, false, cond, Option, None, Some, refl}
use Rattle.std.proofs.lemmas.Option.{none-some}

pub of_choice : {A : Type 0} (P : A → Type 0) (b : Bool) {x y : A} → P x → P y → P (cond b x y)
of_choice P true first second = first
of_choice P false first second = second

-- and what is made of a choice is chosen
pub choice_of : {A B : Type 0} (f : A → B) (b : Bool) (x y : A) → f (cond b x y) ≡ cond b (f x) (f y)
choice_of f true x y = refl
choice_of f false x y = refl

-- what there is unless a test is met
pub when_not : {A : Type 0} (b : Bool) (o : Option A) (x : A) → cond b None o ≡ Some x → o ≡ Some x
when_not true o x is = absurd (none-some x is)
when_not false o x is = is
