-- The rules of each node of an expression, and what it makes, by the rules of inference.
use Rattle.std.proofs.Common.{◌≡◌, ℕ, ◌<◌, true, false, nat_lt, [], refl, sym, ap, ap₂, ◌∙◌, arith}
use Rattle.std.proofs.lemmas.Bool.Decides.{nat_tests}
use Rattle.std.proofs.lemmas.Bool.{and_parts, or_parts, ltb-true, not-false}
use Rattle.word.specs.declared.profile.Profile.{Profile}
use Rattle.word.specs.declared.profile.Profile.TheVariants.{P1, P2}
use Rattle.language.specs.declared.signature.Kind.{Kind}
use Rattle.language.specs.declared.signature.Kind.TheVariants.{Boolean, Uint32}
use Rattle.language.specs.declared.signature.Label.{Label}
use Rattle.language.specs.declared.signature.Label.TheVariants.{Public}
use Rattle.language.specs.declared.operators.PrefixOperator.{PrefixOperator}
use Rattle.language.specs.declared.operators.PrefixOperator.TheVariants.{Not, Complement, Negate}
use Rattle.language.specs.declared.typing.ArrayType.{ArrayType}
use Rattle.language.specs.declared.operation.Operation.{Operation}
use Rattle.language.specs.declared.operation.Operation.TheVariants.{Arithmetic, Multiplication, Division, Shift}
use Rattle.language.specs.declared.operation.Operation.TheVariants.{Equality, Order, Logic}
use Rattle.language.specs.declared.typing.ValueType.{ValueType}
use Rattle.language.specs.declared.typing.ValueType.TheVariants.{Word, Array}
use Rattle.language.specs.declared.typing.WordType.{WordType}
use Rattle.language.specs.ExprTyping.{is_uneven, takes, divides_secret, multiplies_secret, operation_rules}
use Rattle.language.specs.ExprTyping.{operation_kind, prefix_rules, rotates_within, rotate_rules, convert_rules}
use Rattle.language.specs.ExprTyping.{select_rules, element_rules}
use Rattle.language.specs.Grammatical.{IsNumberKind}
use Rattle.language.specs.Types.{bits_of, word, joined, is_numeric, is_array, is_narrow, is_hidden}
use Rattle.language.specs.Types.{widths_differ, are_alike}
use Rattle.language.specs.WellTyped.{labelled, MayBeMultiplied, unseen, both_public, Makes, arithmetic}
use Rattle.language.specs.WellTyped.{multiplication, division, shift, equality, order, logic, Takes}
use Rattle.language.proofs.typing_laws_lemmas.TypeTests.{a_number, counts, a_bool, same_as_itself, alike_kinds}
use Rattle.language.proofs.typing_laws_lemmas.TypeTests.{even_alike, even_numbers, a_full_word, a_public, AreWords}
use Rattle.language.proofs.typing_laws_lemmas.TypeTests.{numeric_word, bool_word, numeric_words, bool_words}
use Rattle.language.proofs.typing_laws_lemmas.TypeTests.{alike_words}
use Rattle.language.proofs.typing_laws_lemmas.NoRules.{none_of_two, none_of_three, none_of_four, not_when, is_met}

-- A sign.

pub taken_by_sign : (operator : PrefixOperator) (type : ValueType) → prefix_rules operator type ≡ []
    → (w : WordType) × (type ≡ Word w) × Takes operator w.kind
taken_by_sign Not type h = let b = bool_word type (is_met _ h) in (labelled Boolean b.0, b.1, refl)
taken_by_sign Complement type h = numeric_word type (is_met _ h)
taken_by_sign Negate type h = numeric_word type (is_met _ h)

pub sign_takes : (operator : PrefixOperator) (kind : Kind) (label : Label) → Takes operator kind
    → prefix_rules operator (word kind label) ≡ []
sign_takes Not kind label h = rw h
sign_takes Complement kind label h = rw (counts kind h)
sign_takes Negate kind label h = rw (counts kind h)

-- An operator between two operands.

-- what the rules ask
record OperandsAreTaken (profile : Profile) (operation : Operation) (s t : ValueType) : Type 0 where
  even : is_uneven operation s t ≡ false
  kinds : takes operation s t ≡ true
  told : divides_secret operation s t ≡ false
  shown : multiplies_secret profile operation s t ≡ false

is_taken : {profile : Profile} {operation : Operation} {s t : ValueType} → operation_rules profile operation s t ≡ []
    → OperandsAreTaken profile operation s t
is_taken h =
    let none = none_of_four h in
    record {
      even = not_when _ none.0;
      kinds = is_met _ none.1;
      told = not_when _ none.2;
      shown = not_when _ none.3;
    }

words_taken : (operation : Operation) (s t : ValueType) → takes operation s t ≡ true → AreWords s t
words_taken Equality s t h = alike_words s t h
words_taken Logic s t h = bool_words s t h
words_taken _ s t h = numeric_words s t h

-- operands that may be multiplied
may_be_multiplied : (profile : Profile) (k l : Kind) (m n : Label)
    → multiplies_secret profile Multiplication (word k m) (word l n) ≡ false → MayBeMultiplied profile m n
may_be_multiplied P1 k l m n h = unseen
may_be_multiplied P2 k l Public Public h = both_public
may_be_multiplied P2 k l _ _ h = cc

makes : (profile : Profile) (operation : Operation) (k l : Kind) (m n : Label)
    → OperandsAreTaken profile operation (word k m) (word l n)
    → Makes profile operation (labelled k m) (labelled l n) (labelled (operation_kind operation k) (joined m n))
makes profile Arithmetic k l m n x =
    let numbers = even_numbers k l m n x.even x.kinds in rw numbers.1 (arithmetic numbers.0)
makes profile Multiplication k l m n x =
    let numbers = even_numbers k l m n x.even x.kinds in
    rw numbers.1 (multiplication numbers.0 (may_be_multiplied profile k l m n x.shown))
makes profile Division k l m n x =
    let numbers = even_numbers k l m n x.even x.kinds in
    let told = or_parts _ _ x.told in
    rw (numbers.1, a_public m told.0, a_public n told.1) (division numbers.0)
makes profile Shift k l m n x =
    let numbers = and_parts _ _ x.kinds in
    rw (a_full_word l n x.even numbers.1) (shift (a_number k numbers.0))
makes profile Equality k l m n x = rw (alike_kinds k l m n x.even x.kinds) equality
makes profile Order k l m n x =
    let numbers = even_numbers k l m n x.even x.kinds in rw numbers.1 (order numbers.0)
makes profile Logic k l m n x =
    let bools = and_parts _ _ x.kinds in
    rw (a_bool k bools.0, a_bool l bools.1) logic

-- operands that violate no rule, and what is made of them
pub record IsOperated (profile : Profile) (operation : Operation) (s t : ValueType) : Type 0 where
  pub one : WordType
  pub other : WordType
  pub whole : WordType
  pub one_is : s ≡ Word one
  pub other_is : t ≡ Word other
  pub makes : Makes profile operation one other whole

pub is_operated : (profile : Profile) (operation : Operation) (s t : ValueType)
    → operation_rules profile operation s t ≡ [] → IsOperated profile operation s t
is_operated profile operation s t h =
    let w = words_taken operation s t (is_taken h).kinds in
    let a = w.0 in
    let b = w.1 in
    record {
      one = a;
      other = b;
      whole = labelled (operation_kind operation a.kind) (joined a.label b.label);
      one_is = w.2;
      other_is = w.3;
      makes = makes profile operation a.kind b.kind a.label b.label
          (is_taken (ap₂ (operation_rules profile operation) (sym w.2) (sym w.3) ∙ h));
    }

-- no rule is violated, and this is what is made
pub record OperationIsMade (profile : Profile) (operation : Operation) (one other whole : WordType) : Type 0 where
  pub none : operation_rules profile operation (Word one) (Word other) ≡ []
  pub whole_is : labelled (operation_kind operation one.kind) (joined one.label other.label) ≡ whole

shows_none : {profile : Profile} {operation : Operation} {one other whole : WordType}
    → Makes profile operation one other whole → multiplies_secret profile operation (Word one) (Word other) ≡ false
shows_none {profile = P1} makes = refl
shows_none {profile = P2} (multiplication h both_public) = refl
shows_none {profile = P2} _ = refl

meets_others : {profile : Profile} {operation : Operation} {one other whole : WordType}
    → Makes profile operation one other whole
    → (is_uneven operation (Word one) (Word other) ≡ false) × (takes operation (Word one) (Word other) ≡ true)
    × (divides_secret operation (Word one) (Word other) ≡ false)
    × (labelled (operation_kind operation one.kind) (joined one.label other.label) ≡ whole)
meets_others (arithmetic {kind = k} h) = (rw (counts k h, same_as_itself k), rw (counts k h), refl, refl)
meets_others (multiplication {kind = k} h may) = (rw (counts k h, same_as_itself k), rw (counts k h), refl, refl)
meets_others (division {kind = k} h) = (rw (counts k h, same_as_itself k), rw (counts k h), refl, refl)
meets_others (shift {kind = k} h) = (refl, rw (counts k h), refl, refl)
meets_others (equality {kind = k} {l = l} {m = m}) = let x = even_alike k l m in (x.0, x.1, refl, refl)
meets_others (order {kind = k} h) = (rw (counts k h, same_as_itself k), rw (counts k h), refl, refl)
meets_others logic = (refl, refl, refl, refl)

pub made : {profile : Profile} {operation : Operation} {one other whole : WordType}
    → Makes profile operation one other whole → OperationIsMade profile operation one other whole
made makes =
    let x = meets_others makes in record { none = rw (x.0, x.1, x.2, shows_none makes); whole_is = x.3 }

-- A rotation.

pub record IsRotated (amount : ℕ) (type : ValueType) : Type 0 where
  pub of : WordType
  pub is : type ≡ Word of
  pub number : IsNumberKind of.kind
  pub low : 0 < amount
  pub high : amount < bits_of of.kind

pub is_rotated : (amount : ℕ) (type : ValueType) → rotate_rules amount type ≡ [] → IsRotated amount type
is_rotated amount type h =
    let none = none_of_two h in
    let numeric = is_met _ none.0 in
    let w = numeric_word type numeric in
    let within = not-false (rotates_within amount type) (rw numeric at (not_when _ none.1)) in
    let bounds = and_parts _ _ (rw w.1 at within) in
    record {
      of = w.0;
      is = w.1;
      number = w.2;
      low = ltb-true 0 amount bounds.0;
      high = ltb-true amount (bits_of w.0.kind) bounds.1;
    }

pub rotated : (amount : ℕ) (kind : Kind) (label : Label) → IsNumberKind kind → 0 < amount → amount < bits_of kind
    → rotate_rules amount (word kind label) ≡ []
rotated amount kind label number low high =
    let one : nat_lt 0 amount ≡ true = grind (arith, nat_tests) in
    let other : nat_lt amount (bits_of kind) ≡ true = grind (arith, nat_tests) in
    rw (counts kind number, one, other)

-- A conversion.

pub is_converted : (type : ValueType) → convert_rules type ≡ [] → (w : WordType) × (type ≡ Word w)
is_converted (Word w) h = (w, refl)
is_converted _ h = cc

pub converted : (kind : Kind) (label : Label) → convert_rules (word kind label) ≡ []
converted Boolean label = refl
converted _ label = refl

-- A selection.

pub record IsSelected (c s t : ValueType) : Type 0 where
  pub condition : Label
  pub one : Label
  pub other : Label
  pub kind : Kind
  pub condition_is : c ≡ word Boolean condition
  pub one_is : s ≡ word kind one
  pub other_is : t ≡ word kind other

pub is_selected : (c s t : ValueType) → select_rules c s t ≡ [] → IsSelected c s t
is_selected c s t h =
    let none = none_of_two h in
    let even : widths_differ s t ≡ false = not_when _ none.0 in
    let kinds = and_parts _ _ (is_met _ none.1) in
    let chooser = bool_word c kinds.0 in
    let words = alike_words s t kinds.1 in
    let a = words.0 in
    let b = words.1 in
    let same = alike_kinds a.kind b.kind a.label b.label (ap₂ widths_differ (sym words.2) (sym words.3) ∙ even)
    (ap₂ are_alike (sym words.2) (sym words.3) ∙ kinds.1) in
    record {
      condition = chooser.0;
      one = a.label;
      other = b.label;
      kind = a.kind;
      condition_is = chooser.1;
      one_is = words.2;
      other_is = words.3 ∙ ap (λ k. word k b.label) same;
    }

pub selected : (kind : Kind) (l m n : Label) → select_rules (word Boolean l) (word kind m) (word kind n) ≡ []
selected Boolean l m n = refl
selected _ l m n = refl

-- An element.

pub public_index : (type : ValueType) → is_narrow type ≡ false → is_numeric type ≡ true → is_hidden type ≡ false
    → type ≡ word Uint32 Public
public_index (Word w) even number told = ap₂ word (a_full_word w.kind w.label even number) (a_public w.label told)
public_index _ even number told = cc

pub is_element : (s t : ValueType) → element_rules s t ≡ []
    → (a : ArrayType) × (s ≡ Array a) × (t ≡ word Uint32 Public)
is_element s t h =
    let none = none_of_three h in
    let kinds = and_parts _ _ (is_met _ none.1) in
    let array = an_array s kinds.0 in
    (array.0, array.1, public_index t (not_when _ none.0) kinds.1 (not_when _ none.2))
  where
    an_array : (type : ValueType) → is_array type ≡ true → (a : ArrayType) × (type ≡ Array a)
    an_array (Array a) h = (a, refl)
    an_array _ h = cc
