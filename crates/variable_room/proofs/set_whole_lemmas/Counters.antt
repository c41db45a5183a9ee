-- What an answer is made of, and the counters whose numbers are known: they hold these numbers as long as no statement
-- sets them.
use Rattle.std.proofs.Common.{◌≡◌, ℕ, ◌-◌, ◌==◌, ◌&&◌, not, Bool, true, false}
use Rattle.std.proofs.Common.{if◌then◌else◌, List, [], ◌∷◌, Option, None, Some, is_none}
use Rattle.std.proofs.Common.{is_some, slice_index, inl, inr, refl, ap, ◌∙◌, sym, subst}
use Rattle.std.specs.Bool.{then_some}
use Rattle.std.specs.Option.{option_and_then}
use Rattle.std.proofs.lemmas.Bool.{cases_eq, eq-eqb, eqb-false, false≢true, ne_eqb}
use Rattle.std.proofs.lemmas.Bool.{not-true}
use Rattle.std.proofs.lemmas.Option.{none-some, same_Some}
use Rattle.inline.proofs.Face.{with_value-other, with_value-same}
use Rattle.variable_room.specs.Below.{binary, BinaryOperator}
use Rattle.variable_room.specs.Below.{divides, number, operated}
use Rattle.variable_room.specs.Below.{set}
use Rattle.variable_room.specs.Below.{TermTree, value_in, Values, variable, Width}
use Rattle.variable_room.specs.Below.{with_value}
use Rattle.variable_room.specs.declared.set_whole.watch.Counter.{Counter}
use Rattle.variable_room.specs.set_whole.Watching.{between}
use Rattle.variable_room.specs.set_whole.Watching.{number_at, number_of}

-- What makes an answer.

pub some_of : {A : Type 0} (b : Bool) (x y : A) → then_some b x ≡ Some y → (b ≡ true) × (x ≡ y)
some_of true x y is = (refl, same_Some x y is)
some_of false x y is = absurd (none-some y is)

pub if_some : {A : Type 0} (b : Bool) (o : Option A) (y : A) → (if b then o else None) ≡ Some y → (b ≡ true) × (o ≡ Some y)
if_some true o y is = (refl, is)
if_some false o y is = absurd (none-some y is)

pub then_of : {A B : Type 0} (f : A → Option B) (o : Option A) (y : B) → option_and_then f o ≡ Some y
    → (x : A) × (o ≡ Some x) × (f x ≡ Some y)
then_of f None y is = absurd (none-some y is)
then_of f (Some x) y is = (x, refl, is)

pub answer_of : {A : Type 0} (o : Option A) → is_some o ≡ true → (x : A) × (o ≡ Some x)
answer_of None is = absurd (false≢true is)
answer_of (Some x) is = (x, refl)

pub none_of : {A : Type 0} (o : Option A) → is_none o ≡ true → o ≡ None
none_of None is = refl
none_of (Some x) is = absurd (false≢true is)

pub is_other : (y x : ℕ) → not (y == x) ≡ true → y ≡ x → ⊥
is_other y x is = eqb-false y x (not-true (y == x) is)

-- Numbers.

-- counters that are known are at their numbers
abbrev pub AreCounted : List Counter → Values → Type 0
AreCounted counters m = (y v : ℕ) → number_at counters y ≡ Some v → slice_index (m y) 0 ≡ v

pub between_is : (operator : BinaryOperator) (width : Width) (a b : Option ℕ) (v : ℕ)
    → between operator width a b ≡ Some v
    → (x y : ℕ) × (a ≡ Some x) × (b ≡ Some y) × (operated operator width x y ≡ v)
between_is operator width None b v is = absurd (none-some v is)
between_is operator width (Some x) None v is = absurd (none-some v is)
between_is operator width (Some x) (Some y) v is =
    (x, y, refl, refl, by_test (divides operator && (y == 0)) is)
  where
    by_test : (b : Bool) → (if b then None else Some (operated operator width x y)) ≡ Some v
        → operated operator width x y ≡ v
    by_test true none = absurd (none-some v none)
    by_test false some = same_Some (operated operator width x y) v some

pub number_is : (counters : List Counter) (m : Values) → AreCounted counters m → (e : TermTree) (v : ℕ)
    → number_of counters e ≡ Some v → value_in m e ≡ v
number_is counters m are (number value kind) v is = same_Some value v is
number_is counters m are (variable y) v is = are y v is
number_is counters m are (binary place operator width left right) v is =
    let both = between_is operator width (number_of counters left) (number_of counters right) v is in
    let a = number_is counters m are left both.0 both.2 in
    let b = number_is counters m are right both.1 both.3 in
    rw (a, b) both.4
number_is counters m are e v is = absurd (none-some v is)

-- a variable that is no such counter is set
pub counted_beside : (counters : List Counter) (m : Values) (y : ℕ) (v : List ℕ) → number_at counters y ≡ None
    → AreCounted counters m → AreCounted counters (with_value m y v)
counted_beside counters m y v none are z k is =
    elim (cases_eq z y) [
      | inl here ↦ absurd (none-some k (sym none ∙ (ap (number_at counters) (sym here) ∙ is)))
      | inr apart ↦ ap (λ (numbers : List ℕ). slice_index numbers 0) (with_value-other m y z v apart) ∙ are z k is
    ]

-- a counter more is at its number
pub counted_more : (counters : List Counter) (m : Values) (y i : ℕ) → number_at counters y ≡ None
    → AreCounted counters m
    → AreCounted (record { variable = y; number = i } ∷ counters) (with_value m y (i ∷ []))
counted_more counters m y i none are z k is =
    elim (cases_eq y z) [
      | inl here ↦
          let same : i ≡ k = same_Some i k (subst (λ b. (if b then Some i else number_at counters z) ≡ Some k)
          (eq-eqb y z here) is) in
          ap (λ (numbers : List ℕ). slice_index numbers 0)
          (ap (with_value m y (i ∷ [])) (sym here) ∙ with_value-same m y (i ∷ [])) ∙ same
      | inr apart ↦
          counted_beside counters m y (i ∷ []) none are z k
          (subst (λ b. (if b then Some i else number_at counters z) ≡ Some k) (ne_eqb y z apart) is)
    ]

pub counted_less : (counters : List Counter) (m : Values) (y i : ℕ) → number_at counters y ≡ None
    → AreCounted (record { variable = y; number = i } ∷ counters) m → AreCounted counters m
counted_less counters m y i none are z k is =
    elim (cases_eq y z) [
      | inl here ↦ absurd (none-some k (sym none ∙ (ap (number_at counters) here ∙ is)))
      | inr apart ↦
          are z k (subst (λ b. (if b then Some i else number_at counters z) ≡ Some k) (sym (ne_eqb y z apart)) is)
    ]
