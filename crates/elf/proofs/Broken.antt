-- The first check that does not hold, where lists of checks are joined.
use Rattle.std.proofs.Common.{◌≡◌, ℕ, ◌+◌, ◌<◌, ◌∙◌, Bool, true, false, cond, List, [], ◌∷◌, ◌++◌, length, drop, get_or}
use Rattle.std.proofs.Common.{Option, None, Some, Result, Ok, Err, IfErr, refl}
use Rattle.std.proofs.lemmas.List.{at_drop_more}
use Rattle.std.specs.List.{flat_map}
use Rattle.std.specs.Result.{IsErrAnd}
use Rattle.elf.specs.Checks.{Check, IsTold, Passes, first_broken, told_by}
use Rattle.elf.specs.declared.fault.Broken.{Broken}
use Rattle.elf.specs.declared.fault.ElfFault.{ElfFault}
use Rattle.elf.specs.declared.fault.ElfFault.TheVariants.{File}

on_held : (holds : Bool) (broken : Broken) (rest joined behind : Option Broken)
    → cond holds rest (Some broken) ≡ None → (rest ≡ None → joined ≡ behind) → cond holds joined (Some broken) ≡ behind
on_held true broken rest joined behind h goes = goes h
on_held false broken rest joined behind h goes = cc

on_broken : (holds : Bool) (broken : Broken) (rest joined : Option Broken) (first : Broken)
    → cond holds rest (Some broken) ≡ Some first → (rest ≡ Some first → joined ≡ Some first)
    → cond holds joined (Some broken) ≡ Some first
on_broken true broken rest joined first h goes = goes h
on_broken false broken rest joined first h goes = h

pub held_before : (front back : List Check) → first_broken front ≡ None
    → first_broken (front ++ back) ≡ first_broken back
held_before [] back h = refl
held_before (one ∷ others) back h =
    on_held one.holds (told_by one) (first_broken others) (first_broken (others ++ back))
    (first_broken back) h (held_before others back)

pub broken_before : (front back : List Check) (broken : Broken) → first_broken front ≡ Some broken
    → first_broken (front ++ back) ≡ Some broken
broken_before [] back broken h = cc
broken_before (one ∷ others) back broken h =
    on_broken one.holds (told_by one) (first_broken others) (first_broken (others ++ back)) broken h
    (broken_before others back broken)

-- the checks of items one after another, as a loop goes over them
pub item_held : {A : Type 0} (checks : A → List Check) (items : List A) (i : ℕ) (d : A) → i < length items
    → first_broken (checks (get_or items i d)) ≡ None
    → first_broken (flat_map checks (drop i items)) ≡ first_broken (flat_map checks (drop (i + 1) items))
item_held checks items i d lt h =
    at_drop_more (λ rest. first_broken (flat_map checks rest)) items i d lt
    ∙ held_before (checks (get_or items i d)) (flat_map checks (drop (i + 1) items)) h

pub item_broken : {A : Type 0} (checks : A → List Check) (items : List A) (i : ℕ) (d : A) (broken : Broken)
    → i < length items → first_broken (checks (get_or items i d)) ≡ Some broken
    → first_broken (flat_map checks (drop i items)) ≡ Some broken
item_broken checks items i d broken lt h =
    at_drop_more (λ rest. first_broken (flat_map checks rest)) items i d lt
    ∙ broken_before (checks (get_or items i d)) (flat_map checks (drop (i + 1) items)) broken h

-- what is passed on: as it is, or as the fault of a file
pub passed_on : {A : Type 0} (result : Result A Broken) (broken : Broken) (checks : List Check)
    → IsErrAnd result (λ e. e ≡ broken) → first_broken checks ≡ Some broken → Passes result checks
passed_on (Ok x) broken checks h is = absurd h
passed_on (Err e) broken checks h is = rw h is

pub told_on : {A : Type 0} (result : Result A ElfFault) (broken : Broken) (checks : List Check)
    → IsErrAnd result (λ e. e ≡ File broken.rule broken.at) → first_broken checks ≡ Some broken
    → IfErr result (λ e. IsTold e checks)
told_on (Ok x) broken checks h is = absurd h
told_on (Err e) broken checks h is = rw h is
