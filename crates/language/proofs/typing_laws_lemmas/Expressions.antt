-- The rules of inference give an expression exactly the type that it has.
use Rattle.std.proofs.Common.{◌≡◌, ℕ, ◌^◌, true, not, nat_lt, List, [], ◌∷◌, ◌++◌, Option, Some, None, is_some}
use Rattle.std.proofs.Common.{refl, sym, ap, ◌∙◌, subst, Bool, arith}
use Rattle.std.proofs.lemmas.Bool.Decides.{nat_tests}
use Rattle.std.proofs.lemmas.Option.{same_Some}
use Rattle.std.specs.Option.{option_map}
use Rattle.std.proofs.lemmas.Bool.{ltb-true}
use Rattle.word.specs.declared.place.Place.{Place}
use Rattle.language.specs.declared.rule.Rule.{Rule}
use Rattle.language.specs.declared.rule.Rule.TheVariants.{UndeclaredName}
use Rattle.language.specs.declared.typing.Declared.{Declared}
use Rattle.language.specs.declared.typing.Declared.TheVariants.{Procedure, Variable}
use Rattle.language.specs.declared.typing.ValueType.{ValueType}
use Rattle.language.specs.declared.typing.ValueType.TheVariants.{Word}
use Rattle.language.specs.declared.typing.VariableType.{VariableType}
use Rattle.language.specs.declared.typing.Violation.{Violation}
use Rattle.language.specs.ExprTyping.{number_rules, prefix_rules, binary_rules, rotate_rules, convert_rules}
use Rattle.language.specs.ExprTyping.{select_rules, element_rules, type_of}
use Rattle.language.specs.ExprTyping.{typed_of, expr_violations}
use Rattle.language.specs.Reasons.{secret_in, literal_in, operand_why, rotate_why, operands_why, choice_why}
use Rattle.language.specs.Reasons.{element_why, unknown_why}
use Rattle.language.specs.Operators.{operation_of}
use Rattle.language.specs.Tree.{ExprTree, number, truth, name, prefix, binary, rotate, convert, select, element}
use Rattle.language.specs.declared.why.Typed.{Typed}
use Rattle.language.specs.declared.why.Why.{Why}
use Rattle.language.specs.Types.{Scope, found, variable, bits_of, because, because_of, when, unless, of_one, of_two}
use Rattle.language.specs.Types.{of_three}
use Rattle.language.specs.Types.{typed_as, asked_of_one, asked_of_two, asked_of_three}
use Rattle.language.specs.WellTyped.{HasType, of_number, of_truth, of_name, of_prefix, of_binary, of_rotation}
use Rattle.language.specs.WellTyped.{of_conversion, of_selection, of_element}
use Rattle.language.specs.typing_laws.ByRules.{ExpressionsByRules}
use Rattle.language.proofs.typing_laws_lemmas.NoRules.{none_of_two, none_of_three, none_of_four, no_rules, is_met}
use Rattle.language.proofs.typing_laws_lemmas.NoRules.{no_rules_of_one, no_rules_of_two, no_rules_of_three}
use Rattle.language.proofs.typing_laws_lemmas.Nodes.{taken_by_sign, sign_takes, is_operated, made, is_rotated, rotated}
use Rattle.language.proofs.typing_laws_lemmas.Nodes.{is_converted, converted, is_selected, selected, is_element}

-- There is a type exactly where no rule is violated.

data RulesAgree : Option ValueType → List Violation → Type 0 where
  typed_one : {type : ValueType} → RulesAgree (Some type) []
  untyped : {v : Violation} {vs : List Violation} → RulesAgree None (v ∷ vs)

module _ (place : Place) where
  own : (why : Rule → Why) (rules : List Rule) (type : ValueType)
      → RulesAgree (unless rules type) (because_of why place rules)
  own why [] type = typed_one
  own why (rule ∷ rules) type = untyped

  one_part : (why : Typed → Rule → Why) (rules : ValueType → List Rule) (type : ValueType → ValueType)
      (a : Option Place) (k : Option ℕ) {o : Option ValueType} {us : List Violation} → RulesAgree o us
      → RulesAgree (of_one None (λ s. unless (rules s) (type s)) o)
      (us ++ asked_of_one why place rules (option_map (typed_as a k) o))
  one_part why rules type a k (typed_one {type = s}) = own (why (typed_as a k s)) (rules s) (type s)
  one_part why rules type a k untyped = untyped

  two_parts : (why : Typed → Typed → Rule → Why) (rules : ValueType → ValueType → List Rule)
      (type : ValueType → ValueType → ValueType) (a b : Option Place) (k l : Option ℕ) {o p : Option ValueType}
      {us vs : List Violation} → RulesAgree o us → RulesAgree p vs
      → RulesAgree (of_two None (λ s t. unless (rules s t) (type s t)) o p)
      (us ++ vs ++ asked_of_two why place rules (option_map (typed_as a k) o) (option_map (typed_as b l) p))
  two_parts why rules type a b k l (typed_one {type = s}) (typed_one {type = t}) =
      own (why (typed_as a k s) (typed_as b l t)) (rules s t) (type s t)
  two_parts why rules type a b k l typed_one untyped = untyped
  two_parts why rules type a b k l untyped _ = untyped

  three_parts : (why : Typed → Typed → Typed → Rule → Why) (rules : ValueType → ValueType → ValueType → List Rule)
      (type : ValueType → ValueType → ValueType → ValueType) (a b c : Option Place) (k l m : Option ℕ)
      {o p q : Option ValueType} {us vs ws : List Violation} → RulesAgree o us → RulesAgree p vs → RulesAgree q ws
      → RulesAgree (of_three None (λ s t u. unless (rules s t u) (type s t u)) o p q)
      (us ++ vs ++ ws ++ asked_of_three why place rules (option_map (typed_as a k) o) (option_map (typed_as b l) p)
      (option_map (typed_as c m) q))
  three_parts why rules type a b c k l m (typed_one {type = s}) (typed_one {type = t}) (typed_one {type = u}) =
      own (why (typed_as a k s) (typed_as b l t) (typed_as c m u)) (rules s t u) (type s t u)
  three_parts why rules type a b c k l m typed_one typed_one untyped = untyped
  three_parts why rules type a b c k l m typed_one untyped _ = untyped
  three_parts why rules type a b c k l m untyped _ _ = untyped

  named : (why : Why) (o : Option Declared) → RulesAgree (option_map (λ (v : VariableType). v.value) (variable o))
      (because why place (when (not (is_some (variable o))) UndeclaredName))
  named why (Some (Variable v)) = typed_one
  named why (Some (Procedure c)) = untyped
  named why None = untyped

none_violated : {o : Option ValueType} {type : ValueType} {vs : List Violation} → RulesAgree o vs → o ≡ Some type
    → vs ≡ []
none_violated typed_one h = refl
none_violated untyped h = cc

-- a name that violates no rule is a variable's
pub is_variable : (why : Why) (place : Place) (o : Option Declared)
    → because why place (when (not (is_some (variable o))) UndeclaredName) ≡ []
    → (value : ValueType) × (mutable : Bool)
    × (o ≡ Some (Variable (record { value = value; mutable = mutable })))
is_variable why place (Some (Variable v)) h = (v.value, v.mutable, refl)
is_variable why place (Some (Procedure c)) h = cc
is_variable why place None h = cc

module _ (scope : Scope) where
  agree : (e : ExprTree) → RulesAgree (type_of scope e) (expr_violations scope e)
  agree (number place value kind) = own place _ (number_rules value kind) _
  agree (truth place value) = typed_one
  agree (name place text) = named place (unknown_why scope text) (found scope text)
  agree (prefix place operator a) = one_part place operand_why _ _ _ _ (agree a)
  agree (binary place operator a b) =
      two_parts place (operands_why (operation_of operator)) _ _ _ _ _ _ (agree a) (agree b)
  agree (rotate place a amount) = one_part place (rotate_why amount) _ _ _ _ (agree a)
  agree (convert place kind a) = one_part place operand_why _ _ _ _ (agree a)
  agree (select place c a b) = three_parts place choice_why _ _ _ _ _ _ _ _ (agree c) (agree a) (agree b)
  agree (element place target text i) =
      two_parts place element_why _ _ _ _ _ _ (named target (unknown_why scope text) (found scope text))
      (agree i)

-- From the rules of inference to the table.

-- what a type by the rules says
pub record IsTyped (scope : Scope) (e : ExprTree) (type : ValueType) : Type 0 where
  pub none : expr_violations scope e ≡ []
  pub is : type_of scope e ≡ Some type

-- what is known of it
pub told_of : (scope : Scope) (e : ExprTree) {type : ValueType} → type_of scope e ≡ Some type
    → typed_of scope e ≡ Some (typed_as (secret_in scope e) (literal_in e) type)
told_of scope e is = ap (option_map (typed_as (secret_in scope e) (literal_in e))) is

module _ (scope : Scope) where
  pub is_typed : {e : ExprTree} {type : ValueType} → HasType scope e type → IsTyped scope e type
  is_typed (of_number {value = value} {kind = kind} small) =
      let fits : nat_lt value (2 ^ bits_of kind) ≡ true = grind (arith, nat_tests) in
      record { none = rw fits; is = rw fits }
  is_typed of_truth = record { none = refl; is = refl }
  is_typed (of_name is) = record { none = rw is; is = rw is }
  is_typed (of_prefix {operator = operator} {kind = kind} {label = label} has takes) =
      let x = is_typed has in
      let none = sign_takes operator kind label takes in
      record { none = rw (x.none, x.is, none); is = rw (x.is, none) }
  is_typed (of_binary has more makes) =
      let x = is_typed has in
      let y = is_typed more in
      let m = made makes in
      record {
        none = rw (x.none, y.none, x.is, y.is, m.none);
        is = rw (x.is, y.is, m.none) (ap (λ w. Some (Word w)) m.whole_is);
      }
  is_typed (of_rotation {amount = amount} {kind = kind} {label = label} has numeric low high) =
      let x = is_typed has in
      let none = rotated amount kind label numeric low high in
      record { none = rw (x.none, x.is, none); is = rw (x.is, none) }
  is_typed (of_conversion {other = other} {label = label} has) =
      let x = is_typed has in
      let none = converted other label in
      record { none = rw (x.none, x.is, none); is = rw (x.is, none) }
  is_typed (of_selection {kind = kind} {l = l} {m = m} {n = n} chooser has more) =
      let x = is_typed chooser in
      let y = is_typed has in
      let z = is_typed more in
      let none = selected kind l m n in
      record {
        none = rw (x.none, y.none, z.none, x.is, y.is, z.is, none);
        is = rw (x.is, y.is, z.is, none);
      }
  is_typed (of_element is has) =
      let x = is_typed has in record { none = rw (is, x.none, x.is); is = rw (is, x.is) }

-- From the table to the rules of inference.

-- an expression that violates no rule
pub record IsKnown (scope : Scope) (e : ExprTree) : Type 0 where
  pub type : ValueType
  pub has : HasType scope e type
  pub is : type_of scope e ≡ Some type
  pub told : typed_of scope e ≡ Some (typed_as (secret_in scope e) (literal_in e) type)

module _ (scope : Scope) where
  as_typed : {e : ExprTree} {type : ValueType} → HasType scope e type → IsKnown scope e
  as_typed {e = e} {type = type} has =
      let is = (is_typed scope has).is in record { type = type; has = has; is = is; told = told_of scope e is }

  pub known : (e : ExprTree) → expr_violations scope e ≡ [] → IsKnown scope e
  known (number place value kind) h =
      as_typed (of_number (ltb-true value (2 ^ bits_of kind) (is_met _ (no_rules _ place h))))
  known (truth place value) h = as_typed of_truth
  known (name place text) h = as_typed (of_name (is_variable (unknown_why scope text) place (found scope text) h).2)
  known (prefix place operator a) h =
      let none = none_of_two h in
      let x = known a none.0 in
      let w = taken_by_sign operator x.type (no_rules_of_one operand_why place (prefix_rules operator) x.told none.1) in
      as_typed (of_prefix {kind = w.0.kind} {label = w.0.label} (rw w.1 at x.has) w.2)
  known (binary place operator a b) h =
      let none = none_of_three h in
      let x = known a none.0 in
      let y = known b none.1 in
      let w = is_operated scope.profile (operation_of operator) x.type y.type
      (no_rules_of_two (operands_why (operation_of operator)) place (binary_rules scope.profile operator) x.told y.told
      none.2) in
      as_typed (of_binary (rw w.one_is at x.has) (rw w.other_is at y.has) w.makes)
  known (rotate place a amount) h =
      let none = none_of_two h in
      let x = known a none.0 in
      let w = is_rotated amount x.type (no_rules_of_one (rotate_why amount) place (rotate_rules amount) x.told none.1) in
      as_typed (of_rotation {kind = w.of.kind} {label = w.of.label} (rw w.is at x.has) w.number w.low w.high)
  known (convert place kind a) h =
      let none = none_of_two h in
      let x = known a none.0 in
      let w = is_converted x.type (no_rules_of_one operand_why place convert_rules x.told none.1) in
      as_typed (of_conversion {other = w.0.kind} {label = w.0.label} (rw w.1 at x.has))
  known (select place c a b) h =
      let none = none_of_four h in
      let x = known c none.0 in
      let y = known a none.1 in
      let z = known b none.2 in
      let w = is_selected x.type y.type z.type (no_rules_of_three choice_why place select_rules x.told y.told z.told none.3) in
      as_typed (of_selection (rw w.condition_is at x.has) (rw w.one_is at y.has) (rw w.other_is at z.has))
  known (element place target text i) h =
      let none = none_of_three h in
      let v = is_variable (unknown_why scope text) target (found scope text) none.0 in
      let x = known i none.1 in
      let named_is = told_of scope (name target text) (is_typed scope (of_name {place = target} v.2)).is in
      let w = is_element v.0 x.type (no_rules_of_two element_why place element_rules named_is x.told none.2) in
      as_typed (of_element {array = w.0} (rw w.1 at v.2) (rw w.2 at x.has))

  typed : (e : ExprTree) (type : ValueType) → type_of scope e ≡ Some type → HasType scope e type
  typed e type h =
      let x = known e (none_violated (agree scope e) h) in
      subst (HasType scope e) (same_Some x.type type (sym x.is ∙ h)) x.has

-- The law.

pub expressions : ExpressionsByRules
expressions = record {
  none = λ scope e. (λ h. let x = known scope e h in (x.type, x.has), λ x. (is_typed scope x.1).none);
  type = λ scope e type. (typed scope e type, λ x. (is_typed scope x).is);
}
