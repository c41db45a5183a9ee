-- The first fault, one argument at a time, and where there is none.
use Rattle.std.proofs.Common.{◌≡◌, ℕ, ◌+◌, ◌<◌, ◌≤◌, ◌↔◌, Bool, true, false, nat_le, if◌then◌else◌, ◌==◌, List, []}
use Rattle.std.proofs.Common.{◌∷◌, ◌^◌, cond, length, map, get_or, drop, All, Decides, Option, Some, None, inl, inr}
use Rattle.std.proofs.Common.{refl, sym, ap, ◌∙◌, arith}
use Rattle.std.specs.List.{list_all}
use Rattle.std.specs.Option.{IfSome}
use Rattle.std.proofs.lemmas.Bool.{false≢true, cases_Bool}
use Rattle.std.proofs.lemmas.Bool.Decides.{Decides-by_and, Decides-eqb, nat_tests}
use Rattle.std.proofs.lemmas.List.{at_drop_more, at_drop_all, length-map}
use Rattle.language.specs.declared.signature.Form.{Form}
use Rattle.language.specs.declared.signature.Form.TheVariants.{SingleWord, FixedArray, MutableArray}
use Rattle.language.specs.declared.signature.Kind.{Kind}
use Rattle.language.specs.declared.signature.Param.{Param}
use Rattle.language.specs.declared.values.Arg.{Arg}
use Rattle.language.specs.declared.values.Arg.TheVariants.{Word, Array}
use Rattle.language.specs.arguments.Within.{greatest_of, words_of, HasShape, IsWithin, AreWithin}
use Rattle.language.specs.arguments.Faults.{has_shape, rule_of, fault_at, fault_from, fault_by, fault_of, count_fault}
use Rattle.language.specs.declared.arguments.fault.ArgumentFault.{ArgumentFault}
use Rattle.language.specs.declared.arguments.fault.ArgumentRule.{ArgumentRule}
use Rattle.language.specs.declared.arguments.fault.ArgumentRule.TheVariants.{Shape, Value}

-- ---- one argument after another
module _ {P A : Type 0} (rule : P → A → Option ArgumentRule) where
  -- where the i-th argument breaks a rule, or none
  pub fault_from-iteration : (i : ℕ) (params : List P) (args : List A) (p : P) (a : A) (broken : Option ArgumentRule)
      → i < length params → i < length args → rule (get_or params i p) (get_or args i a) ≡ broken
      → fault_from rule i (drop i params) (drop i args)
      ≡ fault_at i broken (fault_from rule (i + 1) (drop (i + 1) params) (drop (i + 1) args))
  fault_from-iteration i params args p a broken h k e =
      at_drop_more (λ rest. fault_from rule i rest (drop i args)) params i p h
      ∙ at_drop_more (λ rest. fault_from rule i (get_or params i p ∷ drop (i + 1) params) rest) args i a k
      ∙ ap (λ o. fault_at i o (fault_from rule (i + 1) (drop (i + 1) params) (drop (i + 1) args))) e

  pub fault_from-end : (i : ℕ) (params : List P) (args : List A) → length params ≤ i
      → fault_from rule i (drop i params) (drop i args) ≡ None
  fault_from-end i params args h = at_drop_all (λ rest. fault_from rule i rest (drop i args)) params i h

  -- the number of a faulty argument is below the count of parameters
  numbered : (params : List P) (args : List A) (low : ℕ) (fault : ArgumentFault) (i : ℕ)
      → fault_from rule low params args ≡ Some fault → fault.index ≡ Some i → i < low + length params
  numbered [] args low fault i h at = cc
  numbered (param ∷ params) [] low fault i h at = cc
  numbered (param ∷ params) (arg ∷ args) low fault i h at =
      by (rule param arg) h (λ k. numbered params args (low + 1) fault i k at)
    where
      by : (broken : Option ArgumentRule) → fault_at low broken (fault_from rule (low + 1) params args) ≡ Some fault
          → (fault_from rule (low + 1) params args ≡ Some fault → i < low + 1 + length params)
          → i < low + length (param ∷ params)
      by None k rest = omega (arith, rest k)
      by (Some rule) k rest =
          let first : record { rule = rule; index = Some low } ≡ fault = cc in
          let index : Some low ≡ Some i = ap (λ (f : ArgumentFault). f.index) first ∙ at in
          let same : low ≡ i = cc in
          omega (arith, same)

  index_below : (params : List P) (args : List A) (fault : ArgumentFault) (i : ℕ)
      → fault_by rule params args ≡ Some fault → fault.index ≡ Some i → i < length params
  index_below params args fault i h at = by (length args == length params) h
    where
      by : (b : Bool) → cond b (fault_from rule 0 params args) (Some count_fault) ≡ Some fault → i < length params
      by true k = omega (arith, numbered params args 0 fault i k at)
      by false k =
          let first : count_fault ≡ fault = cc in
          let index : None ≡ Some i = ap (λ (f : ArgumentFault). f.index) first ∙ at in
          cc

  -- so it has a number behind others too
  pub behind_fits : (params : List P) (args : List A) (fault : ArgumentFault) (others : ℕ)
      → fault_by rule params args ≡ Some fault → length params + others ≤ 2 ^ 64
      → IfSome fault.index (λ index. index + others < 2 ^ 64)
  behind_fits params args fault others h few =
      by fault.index (λ i at. let below = index_below params args fault i h at in omega (arith, below, few))
    where
      by : (index : Option ℕ) → ((i : ℕ) → index ≡ Some i → i + others < 2 ^ 64)
          → IfSome index (λ i. i + others < 2 ^ 64)
      by None each = tt
      by (Some i) each = each i refl

-- ---- where there is none
pub fault_at-None : (at : ℕ) (broken : Option ArgumentRule) (later : Option ArgumentFault)
    → fault_at at broken later ≡ None → (broken ≡ None) × (later ≡ None)
fault_at-None at None later e = (refl, e)
fault_at-None at (Some rule) later e = cc

module _ {P A : Type 0} (rule : P → A → Option ArgumentRule) where
  -- where what is left has no fault, its first has none, and the others have none
  pub fault_from-left : (i : ℕ) (params : List P) (args : List A) (p : P) (a : A) → i < length params
      → i < length args → fault_from rule i (drop i params) (drop i args) ≡ None
      → (rule (get_or params i p) (get_or args i a) ≡ None)
      × (fault_from rule (i + 1) (drop (i + 1) params) (drop (i + 1) args) ≡ None)
  fault_from-left i params args p a h k e =
      fault_at-None i (rule (get_or params i p) (get_or args i a))
      (fault_from rule (i + 1) (drop (i + 1) params) (drop (i + 1) args))
      (sym (fault_from-iteration rule i params args p a _ h k refl) ∙ e)

  pub fault_from-next : (i : ℕ) (params : List P) (args : List A) → i < length params → i < length args
      → fault_from rule i (drop i params) (drop i args) ≡ None
      → fault_from rule (i + 1) (drop (i + 1) params) (drop (i + 1) args) ≡ None
  fault_from-next i [] args h k e = absurd (omega arith)
  fault_from-next i (p ∷ params) [] h k e = absurd (omega arith)
  fault_from-next i (p ∷ params) (a ∷ args) h k e = (fault_from-left i (p ∷ params) (a ∷ args) p a h k e).1

Decides-has_shape : (form : Form) (n : ℕ) (arg : Arg) → Decides (has_shape form n arg) (HasShape form n arg)
Decides-has_shape SingleWord n (Word word) = (λ _. tt, λ _. refl)
Decides-has_shape FixedArray n (Array words) = Decides-eqb (length words) n
Decides-has_shape MutableArray n (Array words) = Decides-eqb (length words) n
Decides-has_shape _ n _ = (λ e. absurd (false≢true e), λ h. absurd h)

pub Decides-nat_le : (a b : ℕ) → Decides (nat_le a b) (a ≤ b)
Decides-nat_le a b = (λ e. grind (arith, nat_tests), λ h. grind (arith, nat_tests))

pub Decides-values : (kind : Kind) (words : List ℕ)
    → Decides (list_all (λ word. nat_le word (greatest_of kind)) words) (All (λ word. word ≤ greatest_of kind) words)
Decides-values kind words = Decides-by_and (λ word. nat_le word (greatest_of kind)) (λ word. word ≤ greatest_of kind)
    (list_all (λ word. nat_le word (greatest_of kind))) (λ word. Decides-nat_le word (greatest_of kind)) refl
    (λ _ _. refl) words

pub both_hold : (shape values : Bool) → (if shape then (if values then None else Some Value) else Some Shape) ≡ None
    → (shape ≡ true) × (values ≡ true)
both_hold true true e = (refl, refl)
both_hold true false e = cc
both_hold false values e = cc

pub IsWithin-from_rule_of : (param : Param) (arg : Arg) → rule_of param arg ≡ None → IsWithin param arg
IsWithin-from_rule_of param arg e =
    let both = both_hold _ _ e in
    record {
      shape = (Decides-has_shape param.form param.length arg).0 both.0;
      values = (Decides-values param.kind (words_of arg)).0 both.1;
    }

pub rule_of-None : (param : Param) (arg : Arg) → IsWithin param arg → rule_of param arg ≡ None
rule_of-None param arg h =
    rw (
      (Decides-has_shape param.form param.length arg).1 h.shape,
      (Decides-values param.kind (words_of arg)).1 h.values,
    )

AreWithin-from_fault_from : (at : ℕ) (params : List Param) (args : List Arg) → length args ≡ length params
    → fault_from rule_of at params args ≡ None → AreWithin params args
AreWithin-from_fault_from at [] [] l e = tt
AreWithin-from_fault_from at (param ∷ params) (arg ∷ args) l e =
    let both = fault_at-None at (rule_of param arg) (fault_from rule_of (at + 1) params args) e in
    (IsWithin-from_rule_of param arg both.0, AreWithin-from_fault_from (at + 1) params args (omega arith) both.1)
AreWithin-from_fault_from at _ _ l e = absurd (omega arith)

fault_from-None : (at : ℕ) (params : List Param) (args : List Arg) → AreWithin params args
    → fault_from rule_of at params args ≡ None
fault_from-None at [] [] h = refl
fault_from-None at (param ∷ params) (arg ∷ args) h =
    rw (rule_of-None param arg h.0) (fault_from-None (at + 1) params args h.1)
fault_from-None at _ _ h = absurd h

pub length-AreWithin : (params : List Param) (args : List Arg) → AreWithin params args → length args ≡ length params
length-AreWithin [] [] h = refl
length-AreWithin (param ∷ params) (arg ∷ args) h = let k = length-AreWithin params args h.1 in omega arith
length-AreWithin _ _ h = absurd h

module _ {P A : Type 0} (rule : P → A → Option ArgumentRule) where
  -- with the right count the fault is an argument's
  pub fault_by-same : (params : List P) (args : List A) → length args ≡ length params
      → fault_by rule params args ≡ fault_from rule 0 params args
  fault_by-same params args h = rw ((Decides-eqb (length args) (length params)).1 h)

  pub fault_by-None : (params : List P) (args : List A) → fault_by rule params args ≡ None
      → (length args ≡ length params) × (fault_from rule 0 params args ≡ None)
  fault_by-None params args e = elim (cases_Bool (length args == length params)) [
    | inl even ↦ ((Decides-eqb (length args) (length params)).0 even, rw even at e)
    | inr uneven ↦ (let wrong : Some count_fault ≡ None = rw uneven at e in cc)
  ]

-- what is judged by views of parameters is judged as those views
module _ {P Q A : Type 0} (shown : P → Q) (rule : Q → A → Option ArgumentRule) where
  fault_from-shown : (at : ℕ) (params : List P) (args : List A)
      → fault_from (λ p. rule (shown p)) at params args ≡ fault_from rule at (map shown params) args
  fault_from-shown at [] args = refl
  fault_from-shown at (p ∷ params) [] = refl
  fault_from-shown at (p ∷ params) (a ∷ args) =
      ap (fault_at at (rule (shown p) a)) (fault_from-shown (at + 1) params args)

  pub fault_by-shown : (params : List P) (args : List A)
      → fault_by (λ p. rule (shown p)) params args ≡ fault_by rule (map shown params) args
  fault_by-shown params args =
      ap (λ f. if length args == length params then f else Some count_fault) (fault_from-shown 0 params args)
      ∙ ap (λ n. if length args == n then fault_from rule 0 (map shown params) args else Some count_fault)
      (sym (length-map params shown))

-- the law: there is no fault exactly where all are within
pub fault_of-None : (params : List Param) (args : List Arg) → (fault_of params args ≡ None) ↔ AreWithin params args
fault_of-None params args = (
  λ e. (let h = fault_by-None rule_of params args e in AreWithin-from_fault_from 0 params args h.0 h.1),
  λ h. fault_by-same rule_of params args (length-AreWithin params args h) ∙ fault_from-None 0 params args h,
)

pub None-from_fault_of : (params : List Param) (args : List Arg) (found : Option ArgumentFault)
    → found ≡ fault_of params args → (found ≡ None) ↔ AreWithin params args
None-from_fault_of params args found e =
    (λ none. (fault_of-None params args).0 (sym e ∙ none), λ h. e ∙ (fault_of-None params args).1 h)
