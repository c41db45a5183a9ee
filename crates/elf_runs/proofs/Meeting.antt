-- What is told first where needs are joined, and where they are those of items one after another.
use Rattle.std.proofs.Common.{◌≡◌, ℕ, ◌+◌, ◌<◌, ◌∙◌, Bool, true, false, cond, List, [], ◌∷◌, ◌++◌, drop, get_or, length}
use Rattle.std.proofs.Common.{Option, None, Some, Result, Ok, Err, IfErr, ap, refl, sym}
use Rattle.std.proofs.lemmas.List.{drop_more}
use Rattle.std.specs.Result.{IsErrAnd}
use Rattle.elf_runs.specs.Needs.{Need, IsTold, Meets, each_from, first_unmet}
use Rattle.elf_runs.specs.declared.fault.Unmet.{Unmet}
use Rattle.elf_runs.specs.declared.fault.StartFault.{StartFault}
use Rattle.elf_runs.specs.declared.fault.StartFault.TheVariants.{Refused, Memory}

on_held : (holds : Bool) (unmet : Unmet) (rest joined behind : Option Unmet)
    → cond holds rest (Some unmet) ≡ None → (rest ≡ None → joined ≡ behind) → cond holds joined (Some unmet) ≡ behind
on_held true unmet rest joined behind h goes = goes h
on_held false unmet rest joined behind h goes = cc

on_unmet : (holds : Bool) (unmet : Unmet) (rest joined : Option Unmet) (first : Unmet)
    → cond holds rest (Some unmet) ≡ Some first → (rest ≡ Some first → joined ≡ Some first)
    → cond holds joined (Some unmet) ≡ Some first
on_unmet true unmet rest joined first h goes = goes h
on_unmet false unmet rest joined first h goes = h

pub held_before : (front back : List Need) → first_unmet front ≡ None
    → first_unmet (front ++ back) ≡ first_unmet back
held_before [] back h = refl
held_before (one ∷ others) back h =
    on_held one.holds (record { rule = one.rule; part = one.part }) (first_unmet others) (first_unmet (others ++ back))
    (first_unmet back) h (held_before others back)

pub unmet_before : (front back : List Need) (unmet : Unmet) → first_unmet front ≡ Some unmet
    → first_unmet (front ++ back) ≡ Some unmet
unmet_before [] back unmet h = cc
unmet_before (one ∷ others) back unmet h =
    on_unmet one.holds (record { rule = one.rule; part = one.part }) (first_unmet others)
    (first_unmet (others ++ back)) unmet h (unmet_before others back unmet)

-- what is left of items at a place: the item there, and those behind it
pub item_there : {A : Type 0} (items : List A) (k : ℕ) (x : A) → k < length items → x ≡ get_or items k x
    → drop k items ≡ x ∷ drop (k + 1) items
item_there items k x h is = drop_more items k x h ∙ ap (λ first. first ∷ drop (k + 1) items) (sym is)

-- what the needs of items come to, from one item on
pub item_held : {A : Type 0} (needs : ℕ → A → List Need) (k : ℕ) (items : List A) (x : A)
    → drop k items ≡ x ∷ drop (k + 1) items → first_unmet (needs k x) ≡ None
    → first_unmet (each_from needs k (drop k items)) ≡ first_unmet (each_from needs (k + 1) (drop (k + 1) items))
item_held needs k items x next h =
    ap (λ rest. first_unmet (each_from needs k rest)) next
    ∙ held_before (needs k x) (each_from needs (k + 1) (drop (k + 1) items)) h

pub item_unmet : {A : Type 0} (needs : ℕ → A → List Need) (k : ℕ) (items : List A) (x : A) (unmet : Unmet)
    → drop k items ≡ x ∷ drop (k + 1) items → first_unmet (needs k x) ≡ Some unmet
    → first_unmet (each_from needs k (drop k items)) ≡ Some unmet
item_unmet needs k items x unmet next h =
    ap (λ rest. first_unmet (each_from needs k rest)) next
    ∙ unmet_before (needs k x) (each_from needs (k + 1) (drop (k + 1) items)) unmet h

-- what is passed on: as it is, or as a fault
pub told_on : {A : Type 0} (result : Result A StartFault) (unmet : Unmet) (needs : List Need)
    → IsErrAnd result (λ e. e ≡ Refused unmet) → first_unmet needs ≡ Some unmet
    → IfErr result (λ e. IsTold e needs)
told_on (Ok x) unmet needs h is = absurd h
told_on (Err e) unmet needs h is = rw h is

pub passed_on : {A : Type 0} (result : Result A Unmet) (unmet : Unmet) (needs : List Need)
    → IsErrAnd result (λ e. e ≡ unmet) → first_unmet needs ≡ Some unmet → Meets result needs
passed_on (Ok x) unmet needs h is = absurd h
passed_on (Err e) unmet needs h is = rw h is

-- a fault that is told of a part is told of the whole, where the part's is
pub told_of : {A : Type 0} (result : Result A StartFault) (fault : StartFault) (part whole : List Need)
    → IsErrAnd result (λ e. e ≡ fault) → IsTold fault part
    → ((unmet : Unmet) → first_unmet part ≡ Some unmet → first_unmet whole ≡ Some unmet)
    → IfErr result (λ e. IsTold e whole)
told_of (Ok x) fault part whole h is from = absurd h
told_of (Err e) (Refused unmet) part whole h is from = rw h (from unmet is)
told_of (Err e) Memory part whole h is from = rw h tt

pub split : (holds : Bool) (unmet : Unmet) (rest : Option Unmet) → cond holds rest (Some unmet) ≡ None
    → (holds ≡ true) × (rest ≡ None)
split true unmet rest h = (refl, h)
split false unmet rest h = cc

-- the needs behind others are met, where all are
pub met_behind : (front back : List Need) → first_unmet (front ++ back) ≡ None → first_unmet back ≡ None
met_behind [] back h = h
met_behind (one ∷ others) back h =
    let now = split one.holds (record { rule = one.rule; part = one.part }) (first_unmet (others ++ back)) h in
    met_behind others back now.1
