-- What is known of an expression is made of what is known of its parts.
use Rattle.std.proofs.Common.{◌≡◌, ℕ, List, Option, Some, None, fold, refl}
use Rattle.std.proofs.lemmas.List.Sums.{fold-append}
use Rattle.std.specs.Option.{option_map, option_or}
use Rattle.labels.specs.Below.{asked_of_two, declared_at, element, element_assignment, element_assignment_violations}
use Rattle.labels.specs.Below.{element_rules, element_type, element_why, expr_violations, ExprTree, found, name}
use Rattle.labels.specs.Below.{name_type, name_violations, of_one, of_three, of_two, Place, ProcedureTree, right_typed}
use Rattle.labels.specs.Below.{right_violations, RightTree, Scope, SecretControl, Noted, noted, statement_violations, type_of}
use Rattle.labels.specs.Below.{Typed, typed_as, typed_of, ValueType, variable, VariableType}
use Rattle.labels.specs.private.Made.{of_operand, of_operands, of_choice}

pub of_one-typed : (a : Option Place) (k : Option ℕ) (type : ValueType → Option ValueType) (o : Option ValueType)
    → of_one None (of_operand type) (option_map (typed_as a k) o) ≡ option_map (typed_as a None) (of_one None type o)
of_one-typed a k type (Some s) = refl
of_one-typed a k type None = refl

pub of_two-typed : (a b : Option Place) (k l : Option ℕ) (type : ValueType → ValueType → Option ValueType)
    (o p : Option ValueType)
    → of_two None (of_operands type) (option_map (typed_as a k) o) (option_map (typed_as b l) p)
    ≡ option_map (typed_as (option_or a b) None) (of_two None type o p)
of_two-typed a b k l type (Some s) (Some t) = refl
of_two-typed a b k l type (Some s) None = refl
of_two-typed a b k l type None p = refl

pub of_three-typed : (a b c : Option Place) (k l m : Option ℕ)
    (type : ValueType → ValueType → ValueType → Option ValueType) (o p q : Option ValueType)
    → of_three None (of_choice type) (option_map (typed_as a k) o) (option_map (typed_as b l) p)
    (option_map (typed_as c m) q)
    ≡ option_map (typed_as (option_or a (option_or b c)) None) (of_three None type o p q)
of_three-typed a b c k l m type (Some s) (Some t) (Some u) = refl
of_three-typed a b c k l m type (Some s) (Some t) None = refl
of_three-typed a b c k l m type (Some s) None q = refl
of_three-typed a b c k l m type None p q = refl

-- what an element violates, from what its parts have noted
pub element_seen : (seen of_name of_index last : Noted) (scope : Scope) (place target : Place)
    (text : List ℕ) (index : ExprTree) (array given : Option Typed) → array ≡ typed_of scope (name target text)
    → given ≡ typed_of scope index → of_name ≡ fold noted seen (name_violations scope target text)
    → of_index ≡ fold noted of_name (expr_violations scope index)
    → last ≡ fold noted of_index (asked_of_two element_why place element_rules array given)
    → last ≡ fold noted seen (expr_violations scope (element place target text index))
element_seen seen of_name of_index last scope place target text index array given is is' n i l =
    let whole : fold noted seen (expr_violations scope (element place target text index))
    ≡ fold noted (fold noted (fold noted seen (name_violations scope target text))
    (expr_violations scope index)) (asked_of_two element_why place element_rules
    (typed_of scope (name target text)) (typed_of scope index)) = simp (fold-append noted) in
    cc

-- the type of an element is by the types of its parts
pub value_of-element : (a b : Option Place) (k l : Option ℕ) (o p : Option ValueType)
    → option_map (λ (known : Typed). known.value)
    (of_two None (of_operands element_type) (option_map (typed_as a k) o) (option_map (typed_as b l) p))
    ≡ of_two None element_type o p
value_of-element a b k l (Some s) (Some t) = by (element_type s t)
  where
    by : (type : Option ValueType)
        → option_map (λ (known : Typed). known.value) (option_map (typed_as (option_or a b) None) type) ≡ type
    by (Some value) = refl
    by None = refl
value_of-element a b k l (Some s) None = refl
value_of-element a b k l None p = refl

-- what an assignment to an element violates, from what its parts have noted
pub element_assignment_seen : (seen of_name of_index of_element of_right last : Noted)
    (earlier : List ProcedureTree) (scope : Scope) (control : Option SecretControl) (place bracket target : Place)
    (text : List ℕ) (index : ExprTree) (right : RightTree) (array given value : Option Typed)
    (type : Option ValueType) (known_at : Place) (v : Option VariableType)
    → v ≡ variable (found scope text) → known_at ≡ declared_at scope text → array ≡ typed_of scope (name target text)
    → given ≡ typed_of scope index → type ≡ of_two None element_type (name_type scope text) (type_of scope index)
    → value ≡ right_typed earlier scope control right
    → of_name ≡ fold noted seen (name_violations scope target text)
    → of_index ≡ fold noted of_name (expr_violations scope index)
    → of_element ≡ fold noted of_index (asked_of_two element_why bracket element_rules array given)
    → of_right ≡ fold noted of_element (right_violations earlier scope control right)
    → last ≡ fold noted of_right (element_assignment_violations control place known_at v type value)
    → last ≡ fold noted seen (statement_violations earlier scope control
    (element_assignment place bracket target text index right))
element_assignment_seen seen of_name of_index of_element of_right last earlier scope control place bracket target text
    index right array given value type known_at v is_variable at_place is is' typed gives n i e r l =
    let whole : fold noted seen (statement_violations earlier scope control
    (element_assignment place bracket target text index right))
    ≡ fold noted (fold noted (fold noted (fold noted (fold noted seen (name_violations scope target text))
    (expr_violations scope index)) (asked_of_two element_why bracket element_rules
    (typed_of scope (name target text)) (typed_of scope index))) (right_violations earlier scope control right))
    (element_assignment_violations control place (declared_at scope text) (variable (found scope text))
    (of_two None element_type (name_type scope text) (type_of scope index))
    (right_typed earlier scope control right)) = simp (fold-append noted) in
    cc
