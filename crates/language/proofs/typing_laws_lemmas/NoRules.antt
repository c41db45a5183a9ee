-- Where no rule is violated.
use Rattle.std.proofs.Common.{◌≡◌, Bool, true, false, not, List, [], ◌∷◌, ◌++◌, Option, Some, refl}
use Rattle.word.specs.declared.place.Place.{Place}
use Rattle.language.specs.declared.rule.Rule.{Rule}
use Rattle.language.specs.declared.typing.ValueType.{ValueType}
use Rattle.language.specs.declared.why.Typed.{Typed}
use Rattle.language.specs.declared.why.Why.{Why}
use Rattle.language.specs.Types.{because_of, when, asked_of_one, asked_of_two, asked_of_three}

-- each of several lists

pub none_of_two : {A : Type 0} {us vs : List A} → us ++ vs ≡ [] → (us ≡ []) × (vs ≡ [])
none_of_two {us = []} h = (refl, h)
none_of_two {us = u ∷ us} h = cc

pub none_of_three : {A : Type 0} {us vs ws : List A} → us ++ vs ++ ws ≡ [] → (us ≡ []) × (vs ≡ []) × (ws ≡ [])
none_of_three h = let x = none_of_two h in let y = none_of_two x.0 in (y.0, y.1, x.1)

pub none_of_four : {A : Type 0} {us vs ws xs : List A} → us ++ vs ++ ws ++ xs ≡ []
    → (us ≡ []) × (vs ≡ []) × (ws ≡ []) × (xs ≡ [])
none_of_four h = let x = none_of_two h in let y = none_of_three x.0 in (y.0, y.1, y.2, x.1)

pub none_of_five : {A : Type 0} {us vs ws xs ys : List A} → us ++ vs ++ ws ++ xs ++ ys ≡ []
    → (us ≡ []) × (vs ≡ []) × (ws ≡ []) × (xs ≡ []) × (ys ≡ [])
none_of_five h = let x = none_of_two h in let y = none_of_four x.0 in (y.0, y.1, y.2, y.3, x.1)

pub no_rules : (why : Rule → Why) (place : Place) {rules : List Rule} → because_of why place rules ≡ [] → rules ≡ []
no_rules why place {rules = []} h = refl
no_rules why place {rules = rule ∷ rules} h = cc

-- of a node whose parts are well typed
pub no_rules_of_one : (why : Typed → Rule → Why) (place : Place) (rules : ValueType → List Rule) {o : Option Typed}
    {s : Typed} → o ≡ Some s → asked_of_one why place rules o ≡ [] → rules s.value ≡ []
no_rules_of_one why place rules one h = no_rules _ place (rw one at h)

pub no_rules_of_two : (why : Typed → Typed → Rule → Why) (place : Place) (rules : ValueType → ValueType → List Rule)
    {o p : Option Typed} {s t : Typed} → o ≡ Some s → p ≡ Some t → asked_of_two why place rules o p ≡ []
    → rules s.value t.value ≡ []
no_rules_of_two why place rules one other h = no_rules _ place (rw (one, other) at h)

pub no_rules_of_three : (why : Typed → Typed → Typed → Rule → Why) (place : Place)
    (rules : ValueType → ValueType → ValueType → List Rule) {o p q : Option Typed} {s t u : Typed} → o ≡ Some s
    → p ≡ Some t → q ≡ Some u → asked_of_three why place rules o p q ≡ [] → rules s.value t.value u.value ≡ []
no_rules_of_three why place rules one other third h = no_rules _ place (rw (one, other, third) at h)

-- a rule that holds where this does
pub not_when : {holds : Bool} (rule : Rule) → when holds rule ≡ [] → holds ≡ false
not_when {holds = true} rule h = cc
not_when {holds = false} rule h = refl

-- a rule that asks for this
pub is_met : {holds : Bool} (rule : Rule) → when (not holds) rule ≡ [] → holds ≡ true
is_met {holds = true} rule h = refl
is_met {holds = false} rule h = cc
