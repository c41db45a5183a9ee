-- A rule is violated at a head of the tree, or at the place where a text begins.
use Rattle.std.proofs.Common.{◌≡◌, ℕ, Bool, true, false, not, ◌+◌, ◌==◌, if◌then◌else◌, List, [], ◌∷◌, ◌++◌, length}
use Rattle.std.proofs.Common.{Option, None, Some, is_some, refl, arith}
use Rattle.hepurita.specs.Below.{ArgumentCount, arguments_violations, array, array_violations, asked_of_one}
use Rattle.hepurita.specs.Below.{asked_of_three, asked_of_two, assignment, assignment_violations, because}
use Rattle.hepurita.specs.Below.{because_of, binary, block_violations, BlockTree, body_scope, bounds_rules, call}
use Rattle.hepurita.specs.Below.{call_violations, called, called_one, Callee, callee, CallTree, change_violations}
use Rattle.hepurita.specs.Below.{clash_violations, computed, condition_rules, conditional, control_rules}
use Rattle.hepurita.specs.Below.{control_violations, convert, count_violations, counter_as, declaration}
use Rattle.hepurita.specs.Below.{declaration_control_violations, declaration_violations, declared, declared_at}
use Rattle.hepurita.specs.Below.{element, element_assignment, element_assignment_violations, empty, export_place}
use Rattle.hepurita.specs.Below.{export_violations, exports, ExprTree, first, first_clash, found, Kind, kind_of}
use Rattle.hepurita.specs.Below.{known_call_violations, Label, label_of, label_under, loop, missing_violations, name}
use Rattle.hepurita.specs.Below.{NameDeclaredTwice, nothing, NotMutable, number, of_one, of_two, origin}
use Rattle.hepurita.specs.Below.{parameter_as, parameter_violations, ParameterTree, Passed, passed_violations, Place}
use Rattle.hepurita.specs.Below.{prefix, procedure_violations, procedures_violations, ProcedureTree, Profile}
use Rattle.hepurita.specs.Below.{ProgramTree, return_violations, returned_violations, ReturnTree, right_typed}
use Rattle.hepurita.specs.Below.{right_violations, RightTree, rotate, Scope, scope_after, scope_after_all, select}
use Rattle.hepurita.specs.Below.{size_violations, statement_violations, StatementTree, too_many, truth, value_rules}
use Rattle.hepurita.specs.Below.{value_violations, values_violations, ValueType, variable, Violation, violations}
use Rattle.hepurita.specs.Below.{when, with_procedure, WordType, written}
use Rattle.language.specs.declared.rule.Rule.{Rule}
use Rattle.language.specs.declared.typing.VariableType.{VariableType}
use Rattle.language.specs.declared.why.Part.{Part}
use Rattle.language.specs.declared.why.Part.TheVariants.{Element, Result, Variable as VariablePart}
use Rattle.language.specs.declared.why.SecretControl.{SecretControl}
use Rattle.language.specs.declared.why.SharedArray.{SharedArray}
use Rattle.language.specs.declared.why.Typed.{Typed}
use Rattle.language.specs.declared.why.Why.{Why}
use Rattle.language.specs.declared.why.Why.TheVariants.{ArgumentCounts}
use Rattle.language.specs.ExprTyping.{binary_rules, convert_rules, element_rules, element_type, expr_violations}
use Rattle.language.specs.ExprTyping.{exprs_violations, name_rules, name_type, number_rules, prefix_rules, rotate_rules}
use Rattle.language.specs.ExprTyping.{select_rules, type_of, typed_of, typed_of_all}
use Rattle.language.specs.Operators.{operation_of}
use Rattle.language.specs.Reasons.{operand_why, operands_why, rotate_why, choice_why, element_why, condition_why}
use Rattle.language.specs.Reasons.{bounds_why, control_under}
use Rattle.language.specs.Typing.{passed}
use Rattle.hepurita.proofs.grammar_laws_lemmas.Light.{AreLight, none, more, both}
use Rattle.hepurita.specs.grammar_laws.Heads.{in_block, in_call, in_expr, in_exprs, in_export, in_parameters}
use Rattle.hepurita.specs.grammar_laws.Heads.{in_procedure, in_procedures, in_program, in_return, in_right}
use Rattle.hepurita.specs.grammar_laws.Heads.{in_statement, in_values}

module _ (w : Place → ℕ) where
  -- violations at places without weight
  abbrev pub AreAtLight : List Violation → Type 0
  AreAtLight vs = AreLight (λ (v : Violation). w v.place) vs

  at_place : (why : Rule → Why) (place : Place) → w place ≡ 0 → (rules : List Rule)
      → AreAtLight (because_of why place rules)
  at_place why place is [] = none
  at_place why place is (r ∷ rules) = more is (at_place why place is rules)

  -- of a node, by its parts
  of_one_part : (why : Typed → Rule → Why) (place : Place) → w place ≡ 0 → (rules : ValueType → List Rule)
      (o : Option Typed) → AreAtLight (asked_of_one why place rules o)
  of_one_part why place is rules (Some a) = at_place (why a) place is (rules a.value)
  of_one_part why place is rules None = none

  of_two_parts : (why : Typed → Typed → Rule → Why) (place : Place) → w place ≡ 0
      → (rules : ValueType → ValueType → List Rule) (o p : Option Typed)
      → AreAtLight (asked_of_two why place rules o p)
  of_two_parts why place is rules (Some a) (Some b) = at_place (why a b) place is (rules a.value b.value)
  of_two_parts why place is rules (Some a) None = none
  of_two_parts why place is rules None p = none

  of_three_parts : (why : Typed → Typed → Typed → Rule → Why) (place : Place) → w place ≡ 0
      → (rules : ValueType → ValueType → ValueType → List Rule) (o p q : Option Typed)
      → AreAtLight (asked_of_three why place rules o p q)
  of_three_parts why place is rules (Some a) (Some b) (Some c) =
      at_place (why a b c) place is (rules a.value b.value c.value)
  of_three_parts why place is rules (Some a) (Some b) None = none
  of_three_parts why place is rules (Some a) None q = none
  of_three_parts why place is rules None p q = none

  -- of what is known, where it is
  where_known : {A : Type 0} (f : A → List Violation) → ((a : A) → AreAtLight (f a)) → (o : Option A)
      → AreAtLight (of_one [] f o)
  where_known f h (Some a) = h a
  where_known f h None = none

  expr : (scope : Scope) (e : ExprTree) → in_expr w e ≡ 0 → AreAtLight (expr_violations scope e)
  expr scope (number place value kind) h = at_place _ place h (number_rules value kind)
  expr scope (truth place value) h = none
  expr scope (name place text) h = at_place _ place h (name_rules scope text)
  expr scope (prefix place operator operand) h =
      both (expr scope operand (omega arith)) (of_one_part operand_why place (omega arith) (prefix_rules operator)
      (typed_of scope operand))
  expr scope (binary place operator left right) h =
      both (both (expr scope left (omega arith)) (expr scope right (omega arith)))
      (of_two_parts (operands_why (operation_of operator)) place (omega arith) (binary_rules scope.profile operator)
      (typed_of scope left) (typed_of scope right))
  expr scope (rotate place operand amount) h =
      both (expr scope operand (omega arith)) (of_one_part (rotate_why amount) place (omega arith) (rotate_rules amount)
      (typed_of scope operand))
  expr scope (convert place kind operand) h =
      both (expr scope operand (omega arith)) (of_one_part operand_why place (omega arith) convert_rules
      (typed_of scope operand))
  expr scope (select place condition accepted otherwise) h =
      both (both (both (expr scope condition (omega arith)) (expr scope accepted (omega arith)))
      (expr scope otherwise (omega arith))) (of_three_parts choice_why place (omega arith) select_rules
      (typed_of scope condition) (typed_of scope accepted) (typed_of scope otherwise))
  expr scope (element place target text index) h =
      both (both (at_place _ target (omega arith) (name_rules scope text)) (expr scope index (omega arith)))
      (of_two_parts element_why place (omega arith) element_rules (typed_of scope (name target text))
      (typed_of scope index))

  exprs : (scope : Scope) (es : List ExprTree) → in_exprs w es ≡ 0 → AreAtLight (exprs_violations scope es)
  exprs scope [] h = none
  exprs scope (e ∷ es) h = search (arith, both, expr scope e, exprs scope es)

  values : (scope : Scope) (given : Option (List ExprTree)) → in_values w given ≡ 0
      → AreAtLight (exprs_violations scope (written given))
  values scope None h = none
  values scope (Some es) h = exprs scope es h

  -- Values, arguments and control.

  value : (place : Place) → w place ≡ 0 → (part : Part) (wanted : WordType) (given : Typed)
      → AreAtLight (value_violations place part wanted given)
  value place is part wanted given = at_place _ place is (value_rules wanted given.value)

  under_control : (control : Option SecretControl) (place : Place) → w place ≡ 0 → (label : Label)
      → AreAtLight (control_violations control place label)
  under_control control place is label = at_place _ place is (control_rules (label_under control) label)

  change : (control : Option SecretControl) (place known_at : Place) → w place ≡ 0 → (mutable : Bool) (label : Label)
      → AreAtLight (change_violations control place known_at mutable label)
  change control place known_at is mutable label =
      both (at_place _ place is (when (not mutable) NotMutable)) (under_control control place is label)

  declared_under_control : (control : Option SecretControl) (place : Place) → w place ≡ 0 → (label : Label)
      (mutable : Bool) → AreAtLight (declaration_control_violations control place label mutable)
  declared_under_control control place is label true = under_control control place is label
  declared_under_control control place is label false = none

  arguments : (scope : Scope) (place : Place) → w place ≡ 0 → (ps : List Passed)
      → AreAtLight (passed_violations scope place ps)
  arguments scope place is [] = none
  arguments scope place is (p ∷ ps) =
      both (both (at_place _ place is _) (at_place _ place is _)) (arguments scope place is ps)

  shared_array : (place : Place) → w place ≡ 0 → (twice : Option SharedArray) → AreAtLight (clash_violations place twice)
  shared_array place is (Some twice) = more is none
  shared_array place is None = none

  all_arguments : (scope : Scope) (place : Place) → w place ≡ 0 → (p : ProcedureTree) (ts : List Typed)
      (es : List ExprTree) → AreAtLight (arguments_violations scope place p ts es)
  all_arguments scope place is p ts es = by (length es == length p.parameters)
    where
      by : (even : Bool)
          → AreAtLight (if even then passed_violations scope place (passed p.parameters ts es)
          ++ clash_violations place (first_clash [] (passed p.parameters ts es))
          else because (ArgumentCounts (record {
            given = length es;
            taken = length p.parameters;
            procedure = p.place;
          })) place (ArgumentCount ∷ []))
      by true = both (arguments scope place is (passed p.parameters ts es))
          (shared_array place is (first_clash [] (passed p.parameters ts es)))
      by false = more is none

  known_call : (scope : Scope) (control : Option SecretControl) (c : CallTree) → w c.place ≡ 0
      → (o : Option (Callee × ProcedureTree)) (ts : List Typed)
      → AreAtLight (known_call_violations scope control c o ts)
  known_call scope control c is (Some (known, p)) ts =
      both (all_arguments scope c.place is p ts c.arguments) (at_place _ c.place is _)
  known_call scope control c is None ts = more is none

  module _ (control : Option SecretControl) (place : Place) (is : w place ≡ 0) where
    declares : (taken : Bool) (label : Label) (mutable : Bool) (kind : Kind) (given : Typed)
        → AreAtLight (declaration_violations control place taken label mutable kind given)
    declares taken label mutable kind given =
        both (both (at_place _ place is (when taken NameDeclaredTwice)) (value place is VariablePart (record { kind = kind; label = label }) given))
        (declared_under_control control place is label mutable)

    first_values : (wanted : WordType) (ts : List Typed) → AreAtLight (values_violations place wanted ts)
    first_values wanted [] = none
    first_values wanted (t ∷ ts) = both (value place is Element wanted t) (first_values wanted ts)

    counts : (size : ℕ) (given : Option (List ExprTree)) → AreAtLight (count_violations place size given)
    counts size None = none
    counts size (Some es) = at_place _ place is _

    declares_array : (taken : Bool) (label : Label) (mutable : Bool) (kind : Kind) (size : ℕ)
        (given : Option (List ExprTree)) (ts : List Typed)
        → AreAtLight (array_violations control place taken label mutable kind size given ts)
    declares_array taken label mutable kind size given ts =
        both (both (both (at_place _ place is (when taken NameDeclaredTwice)) (first_values (record { kind = kind; label = label }) ts)) (counts size given))
        (declared_under_control control place is label mutable)

    assigns : (known_at : Place) (v : Option VariableType) (given : Option Typed)
        → AreAtLight (assignment_violations control place known_at v given)
    assigns known_at (Some v) (Some given) =
        both (at_place _ place is _) (change control place known_at is v.mutable (label_of v.value))
    assigns known_at (Some v) None = none
    assigns known_at None given = none

    assigns_element : (known_at : Place) (v : Option VariableType) (type : Option ValueType) (given : Option Typed)
        → AreAtLight (element_assignment_violations control place known_at v type given)
    assigns_element known_at (Some v) (Some type) (Some given) =
        both (value place is Element (record { kind = kind_of type; label = label_of type }) given)
        (change control place known_at is v.mutable (label_of type))
    assigns_element known_at (Some v) (Some type) None = none
    assigns_element known_at (Some v) None given = none
    assigns_element known_at None type given = none

  module _ (earlier : List ProcedureTree) where
    calls : (scope : Scope) (control : Option SecretControl) (c : CallTree) → in_call w c ≡ 0
        → AreAtLight (call_violations earlier scope control c)
    calls scope control c h =
        both (exprs scope c.arguments (omega arith))
        (where_known (known_call_violations scope control c (called_one earlier (callee (found scope c.name))))
        (known_call scope control c (omega arith) (called_one earlier (callee (found scope c.name))))
        (typed_of_all scope c.arguments))

    right_side : (scope : Scope) (control : Option SecretControl) (r : RightTree) → in_right w r ≡ 0
        → AreAtLight (right_violations earlier scope control r)
    right_side scope control (called c) h = calls scope control c h
    right_side scope control (computed e) h = expr scope e h

    mutual
      statement : (scope : Scope) (control : Option SecretControl) (s : StatementTree) → in_statement w s ≡ 0
          → AreAtLight (statement_violations earlier scope control s)
      statement scope control (declaration place label mutable kind text right) h =
          both (right_side scope control right (omega arith))
          (where_known (declaration_violations control place (is_some (found scope text)) label mutable kind)
          (declares control place (omega arith) (is_some (found scope text)) label mutable kind)
          (right_typed earlier scope control right))
      statement scope control (array place label mutable kind size text given) h =
          both (values scope given (omega arith))
          (where_known (array_violations control place (is_some (found scope text)) label mutable kind size given)
          (declares_array control place (omega arith) (is_some (found scope text)) label mutable kind size given)
          (typed_of_all scope (written given)))
      statement scope control (assignment place target text right) h =
          both (both (at_place _ target (omega arith) (name_rules scope text))
          (right_side scope control right (omega arith))) (assigns control place (omega arith) (declared_at scope text)
          (variable (found scope text)) (right_typed earlier scope control right))
      statement scope control (element_assignment place bracket target text index right) h =
          both (both (both (both (at_place _ target (omega arith) (name_rules scope text))
          (expr scope index (omega arith))) (of_two_parts element_why bracket (omega arith) element_rules
          (typed_of scope (name target text)) (typed_of scope index)))
          (right_side scope control right (omega arith))) (assigns_element control place (omega arith)
          (declared_at scope text) (variable (found scope text))
          (of_two None element_type (name_type scope text) (type_of scope index))
          (right_typed earlier scope control right))
      statement scope control (call c) h = calls scope control c h
      statement scope control (conditional place condition accepted otherwise) h =
          let within = control_under place control (typed_of scope condition) in
          both (both (both (expr scope condition (omega arith))
          (of_one_part condition_why place (omega arith) condition_rules (typed_of scope condition)))
          (block scope within accepted (omega arith))) (block scope within otherwise (omega arith))
      statement scope control (loop place counter text low high body) h =
          both (both (both (both (expr scope low (omega arith)) (expr scope high (omega arith)))
          (of_two_parts bounds_why place (omega arith) bounds_rules (typed_of scope low) (typed_of scope high)))
          (at_place _ counter (omega arith) (when (is_some (found scope text)) NameDeclaredTwice)))
          (block (declared scope counter text counter_as) control body (omega arith))

      block : (scope : Scope) (control : Option SecretControl) (b : BlockTree) → in_block w b ≡ 0
          → AreAtLight (block_violations earlier scope control b)
      block scope control nothing h = none
      block scope control (first one rest) h =
          both (statement scope control one (omega arith)) (block (scope_after scope one) control rest (omega arith))

  parameters : (scope : Scope) (ps : List ParameterTree) → in_parameters w ps ≡ 0
      → AreAtLight (parameter_violations scope ps)
  parameters scope [] h = none
  parameters scope (p ∷ ps) h =
      both (at_place _ p.place (omega arith) (when (is_some (found scope p.name)) NameDeclaredTwice))
      (parameters (declared scope p.place p.name (parameter_as p)) ps (omega arith))

  returned_value : (place : Place) → w place ≡ 0 → (result : Option WordType) (given : Typed)
      → AreAtLight (returned_violations place result given)
  returned_value place is None given = more is none
  returned_value place is (Some wanted) given = value place is Result wanted given

  returned : (scope : Scope) (result : Option WordType) (r : Option ReturnTree) → in_return w r ≡ 0
      → AreAtLight (return_violations scope result r)
  returned scope result None h = none
  returned scope result (Some r) h =
      both (expr scope r.value (omega arith)) (where_known (returned_violations r.place result)
      (returned_value r.place (omega arith) result) (typed_of scope r.value))

  missing : (place : Place) → w place ≡ 0 → (result : Option WordType) (r : Option ReturnTree)
      → AreAtLight (missing_violations place result r)
  missing place is (Some result) r = at_place _ place is _
  missing place is None r = none

  procedure : (earlier : List ProcedureTree) (scope : Scope) (p : ProcedureTree) → in_procedure w p ≡ 0
      → AreAtLight (procedure_violations earlier scope p)
  procedure earlier scope p h =
      both (both (both (both (at_place _ p.place (omega arith) (when (is_some (found scope p.name)) NameDeclaredTwice))
      (missing p.place (omega arith) p.result p.returned))
      (parameters (with_procedure scope (length earlier) p) p.parameters (omega arith)))
      (block earlier (body_scope scope (length earlier) p) None p.body (omega arith)))
      (returned (scope_after_all (body_scope scope (length earlier) p) p.body) p.result p.returned (omega arith))

  procedures : (earlier : List ProcedureTree) (scope : Scope) (ps : List ProcedureTree) → in_procedures w ps ≡ 0
      → AreAtLight (procedures_violations earlier scope ps)
  procedures earlier scope [] h = none
  procedures earlier scope (p ∷ ps) h =
      search (arith, both, procedure, procedures (earlier ++ p ∷ []) (with_procedure scope (length earlier) p) ps)

  -- the places of `export`
  abbrev sum : List Place → ℕ
  sum [] = 0
  sum (place ∷ places) = w place + sum places

  exported : (place : Option Place) (places : List Place)
      → sum (export_place place places) ≡ in_export w place + sum places
  exported None places = omega arith
  exported (Some place) places = refl

  exports_light : (ps : List ProcedureTree) → in_procedures w ps ≡ 0 → sum (exports ps) ≡ 0
  exports_light [] h = refl
  exports_light (p ∷ ps) h = omega (arith, exported p.export (exports ps), exports_light ps)

  further : (places : List Place) → sum places ≡ 0 → AreAtLight (too_many places)
  further [] h = none
  further (place ∷ places) h = more (omega arith) (further places (omega arith))

  one_export : (places : List Place) → w origin ≡ 0 → sum places ≡ 0 → AreAtLight (export_violations places)
  one_export [] at_origin h = more at_origin none
  one_export (place ∷ places) at_origin h = further places (omega arith)

  pub violations_light : (profile : Profile) (program : ProgramTree) → in_program w program ≡ 0 → w origin ≡ 0
      → AreAtLight (violations profile program)
  violations_light profile program h at_origin =
      both (one_export (exports program.procedures) at_origin (exports_light program.procedures h))
      (procedures [] (empty profile) program.procedures h)

  pub sizes_light : (before : List ProcedureTree) (p : ProcedureTree) → in_procedure w p ≡ 0
      → AreAtLight (size_violations before p)
  sizes_light before p h = both (at_place _ p.place (omega arith) _) (at_place _ p.place (omega arith) _)
