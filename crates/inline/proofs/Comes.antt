-- What a part of the source comes to, beside the first fault on the path of the flat one.
use Rattle.std.proofs.Common.{◌≡◌, [], ◌∷◌, ◌++◌, Option, Some, None, refl, sym, ap, ◌∙◌}
use Rattle.inline.specs.Below.{Ending, faults, gives, Place}
use Rattle.inline.specs.Path.{Path, fault_at, either, first_fault}

-- It comes to a result that is as it should be, where there is no fault, or else it meets that fault.
pub data Comes {A : Type 0} (Is : Ending A → Type 0) (Good : A → Type 0) : Option Place → Type 0 where
  well : (result : A) → Is (gives result) → Good result → Comes Is Good None
  fails : (at : Place) → Is (faults at) → Comes Is Good (Some at)

-- one part, and then another
pub then_comes : {A B : Type 0} {Is : Ending A → Type 0} {Good : A → Type 0} {Is' : Ending B → Type 0}
    {Good' : B → Type 0} {one other : Option Place} → Comes Is Good one
    → ((result : A) → Is (gives result) → Good result → Comes Is' Good' other)
    → ((at : Place) → Is (faults at) → Is' (faults at)) → Comes Is' Good' (either one other)
then_comes (well result is good) next stop = next result is good
then_comes (fails at is) next stop = fails at (stop at is)

-- one step more, which meets no fault
pub also : {A B : Type 0} {Is : Ending A → Type 0} {Good : A → Type 0} {Is' : Ending B → Type 0} {Good' : B → Type 0}
    {fault : Option Place} → Comes Is Good fault
    → ((result : A) → Is (gives result) → Good result → (end : B) × Is' (gives end) × Good' end)
    → ((at : Place) → Is (faults at) → Is' (faults at)) → Comes Is' Good' fault
also (well result is good) next stop = let end = next result is good in well end.0 end.1 end.2
also (fails at is) next stop = fails at (stop at is)

pub either-none : (a : Option Place) → either a None ≡ a
either-none None = refl
either-none (Some at) = refl

pub either-assoc : (a b c : Option Place) → either (either a b) c ≡ either a (either b c)
either-assoc None b c = refl
either-assoc (Some at) b c = refl

-- the first fault on a path and then another
pub across : (p q : Path) → first_fault (p ++ q) ≡ either (first_fault p) (first_fault q)
across [] q = refl
across (mark ∷ p) q = ap (either (fault_at mark)) (across p q)
    ∙ sym (either-assoc (fault_at mark) (first_fault p) (first_fault q))
