-- The rules that calls, statements, procedures and a program have to meet.
use Rattle.std.specs.Prelude.{ℕ, Bool, true, false, not, ◌&&◌, ◌||◌, ◌==◌, List, [], ◌∷◌, ◌++◌, length, Option, None}
use Rattle.std.specs.Prelude.{Some, is_some, if◌then◌else◌}
use Rattle.std.specs.List.{find, slice_get}
use Rattle.std.specs.Option.{option_map, option_or}
use Rattle.std.specs.Str.{bytes_eq}
use Rattle.word.specs.declared.place.Place.{Place}
use Rattle.word.specs.declared.profile.Profile.{Profile}
use Rattle.word.specs.Places.{origin}
use Rattle.language.specs.declared.rule.Rule.{Rule}
use Rattle.language.specs.declared.rule.Rule.TheVariants.{NameDeclaredTwice, ProcedureNotDeclaredEarlier}
use Rattle.language.specs.declared.rule.Rule.TheVariants.{NotExactlyOneExport, WidthsDiffer, WrongKind, ArgumentCount}
use Rattle.language.specs.declared.rule.Rule.TheVariants.{ArrayShapeOrLabel, NotMutable, ReturnMismatch}
use Rattle.language.specs.declared.rule.Rule.TheVariants.{ArrayPassedTwice, InitialiserCount, SecretToPublic}
use Rattle.language.specs.declared.rule.Rule.TheVariants.{PublicAssignedUnderSecretControl, SecretBound}
use Rattle.language.specs.declared.rule.Rule.TheVariants.{CallAssignsPublicUnderSecretControl}
use Rattle.language.specs.declared.signature.Form.{Form}
use Rattle.language.specs.declared.signature.Form.TheVariants.{SingleWord, FixedArray, MutableArray}
use Rattle.language.specs.declared.signature.Kind.{Kind}
use Rattle.language.specs.declared.signature.Kind.TheVariants.{Uint32}
use Rattle.language.specs.declared.signature.Label.{Label}
use Rattle.language.specs.declared.signature.Label.TheVariants.{Public}
use Rattle.language.specs.declared.typing.ArrayType.{ArrayType}
use Rattle.language.specs.declared.typing.Callee.{Callee}
use Rattle.language.specs.declared.typing.Declared.{Declared}
use Rattle.language.specs.declared.typing.Declared.TheVariants.{Procedure, Variable}
use Rattle.language.specs.declared.typing.ValueType.{ValueType}
use Rattle.language.specs.declared.typing.ValueType.TheVariants.{Word, Array, Nothing}
use Rattle.language.specs.declared.typing.VariableType.{VariableType}
use Rattle.language.specs.declared.typing.Violation.{Violation}
use Rattle.language.specs.declared.typing.WordType.{WordType}
use Rattle.language.specs.declared.why.Part.{Part}
use Rattle.language.specs.declared.why.Part.TheVariants.{Element, Result, Value, Argument, Parameter}
use Rattle.language.specs.declared.why.Part.TheVariants.{Variable as VariablePart}
use Rattle.language.specs.declared.why.SecretControl.{SecretControl}
use Rattle.language.specs.declared.why.SharedArray.{SharedArray}
use Rattle.language.specs.declared.why.Typed.{Typed}
use Rattle.language.specs.declared.why.TypedPart.{TypedPart}
use Rattle.language.specs.declared.why.Why.{Why}
use Rattle.language.specs.declared.why.Why.TheVariants.{Shapes, ArgumentCounts, Fixed, Returned, Missing, Shared}
use Rattle.language.specs.declared.why.Why.TheVariants.{ValueCounts}
use Rattle.language.specs.ExprTyping.{name_type, name_violations, type_of, typed_of, typed_of_all, expr_violations}
use Rattle.language.specs.ExprTyping.{exprs_violations, element_rules, element_type}
use Rattle.language.specs.Reasons.{secret_in, literal_in, typed_part, put_why, element_why, condition_why, bounds_why}
use Rattle.language.specs.Reasons.{control_why, control_under}
use Rattle.language.specs.Tree.{ExprTree, name, CallTree, RightTree, called, computed, StatementTree, declaration}
use Rattle.language.specs.Tree.{array, assignment, element_assignment, call, conditional, loop, BlockTree, nothing}
use Rattle.language.specs.Tree.{first, ParameterTree, ReturnTree, ProcedureTree, ProgramTree, written}
use Rattle.language.specs.Types.{Scope, empty, found, declared, declared_at, variable, callee, same_kind, same_label}
use Rattle.language.specs.Types.{is_secret, label_under, word, is_numeric, is_bool, is_array, is_narrow, is_hidden}
use Rattle.language.specs.Types.{kind_of, label_of, widths_differ, are_alike, when, because_of, because, at, unless}
use Rattle.language.specs.Types.{of_one, of_two, typed_as, asked_of_one, asked_of_two}

-- Values put where a type is wanted.

-- a value of one type, put where a word of another is wanted
abbrev pub value_rules : WordType → ValueType → List Rule
value_rules wanted given =
    when (widths_differ (Word wanted) given) WidthsDiffer
    ++ when (not (are_alike (Word wanted) given)) WrongKind
    ++ when (not (is_secret wanted.label) && is_hidden given) SecretToPublic

-- something public that is assigned to under secret control
abbrev pub control_rules : Label → Label → List Rule
control_rules control label = when (not (is_secret label) && is_secret control) PublicAssignedUnderSecretControl

abbrev pub control_violations : Option SecretControl → Place → Label → List Violation
control_violations control place label = because (control_why control) place (control_rules (label_under control) label)

-- what is changed, whose name is declared at a place, has to be mutable, and not public under secret control
abbrev pub change_violations : Option SecretControl → Place → Place → Bool → Label → List Violation
change_violations control place known_at mutable label =
    because (Fixed known_at) place (when (not mutable) NotMutable) ++ control_violations control place label

-- Calls.

-- what a parameter is: a word is immutable, an array as it says
abbrev pub parameter_value : ParameterTree → Form → ValueType
parameter_value p SingleWord = word p.kind p.label
parameter_value p FixedArray =
    Array (record { element = record { kind = p.kind; label = p.label }; length = p.length })
parameter_value p MutableArray =
    Array (record { element = record { kind = p.kind; label = p.label }; length = p.length })

-- an array parameter that the procedure may change
abbrev pub is_mutable : Form → Bool
is_mutable SingleWord = false
is_mutable FixedArray = false
is_mutable MutableArray = true

-- what a parameter's name stands for
abbrev pub parameter_as : ParameterTree → Declared
parameter_as p = Variable (record { value = parameter_value p p.form; mutable = is_mutable p.form })

-- two arrays of one shape and label
abbrev pub same_array : ArrayType → ArrayType → Bool
same_array a b = same_kind a.element.kind b.element.kind && (a.length == b.length)
    && same_label a.element.label b.element.label

-- an array argument is of the parameter's shape and label
abbrev pub shape_rules : ArrayType → ValueType → List Rule
shape_rules wanted (Array given) = when (not (same_array wanted given)) ArrayShapeOrLabel
shape_rules wanted (Word given) = WrongKind ∷ []
shape_rules wanted Nothing = WrongKind ∷ []

-- the rules of one argument by the parameter's type
abbrev pub argument_rules : ValueType → ValueType → List Rule
argument_rules (Word wanted) given = value_rules wanted given
argument_rules (Array wanted) given = shape_rules wanted given
argument_rules Nothing given = []

-- the variable that an argument is the bare name of
abbrev pub argument_variable : Scope → ExprTree → Option VariableType
argument_variable scope (name place text) = variable (found scope text)
argument_variable scope _ = None

-- where the variable is declared
abbrev pub argument_declared : Scope → ExprTree → Place
argument_declared scope (name place text) = declared_at scope text
argument_declared scope _ = origin

-- an array that may not be changed
abbrev pub is_immutable : Option VariableType → Bool
is_immutable (Some v) = is_array v.value && not v.mutable
is_immutable None = false

-- an argument that is well typed, beside its parameter
pub record Passed : Type 0 where
  pub parameter : ParameterTree
  pub given : Typed
  pub argument : ExprTree

abbrev pub parameter_part : ParameterTree → TypedPart
parameter_part p = typed_part (Parameter p.place) (parameter_value p p.form)

-- why an argument does not fit its parameter
abbrev pub argument_why : TypedPart → Typed → Rule → Why
argument_why wanted given ArrayShapeOrLabel = Shapes wanted (typed_part Argument given.value)
argument_why wanted given rule = put_why wanted Argument given rule

-- an argument of a call at a place is of the parameter's type, and may be changed where the procedure may change it
abbrev pub argument_violations : Scope → Place → Passed → List Violation
argument_violations scope place p =
    because_of (argument_why (parameter_part p.parameter) p.given) place
    (argument_rules (parameter_value p.parameter p.parameter.form) p.given.value)
    ++ because (Fixed (argument_declared scope p.argument)) place
    (when (is_mutable p.parameter.form && is_immutable (argument_variable scope p.argument)) NotMutable)

abbrev pub passed_violations : Scope → Place → List Passed → List Violation
passed_violations scope place [] = []
passed_violations scope place (p ∷ ps) = argument_violations scope place p ++ passed_violations scope place ps

-- the array that an argument of a type is the bare name of, and the place of that name
abbrev pub array_name : ValueType → ExprTree → Option (List ℕ)
array_name (Array a) (name place text) = Some text
array_name _ _ = None

abbrev pub name_place : ExprTree → Place
name_place (name place text) = place
name_place _ = origin

abbrev pub same_name : Option (List ℕ) → Option (List ℕ) → Bool
same_name (Some a) (Some b) = bytes_eq a b
same_name (Some a) None = false
same_name None b = false

-- two arguments are one array, which one of the two parameters may change
abbrev pub clash : Passed → Passed → Bool
clash p q =
    same_name (array_name p.given.value p.argument) (array_name q.given.value q.argument)
    && (is_mutable p.parameter.form || is_mutable q.parameter.form)

-- the array that is an argument at a place, for a parameter and one before it
abbrev pub shared_at : Place → Place → Place → SharedArray
shared_at place other one = record { array = place; one = one; other = other }

abbrev pub shared : Passed → Passed → SharedArray
shared p q = shared_at (name_place p.argument) p.parameter.place q.parameter.place

-- of the first argument that clashes with some before it, and the first of those
abbrev pub first_clash : List Passed → List Passed → Option SharedArray
first_clash before [] = None
first_clash before (p ∷ ps) =
    option_or (option_map (shared p) (find (clash p) before)) (first_clash (before ++ p ∷ []) ps)

abbrev pub clash_violations : Place → Option SharedArray → List Violation
clash_violations place (Some twice) = because (Shared twice) place (ArrayPassedTwice ∷ [])
clash_violations place None = []

-- arguments beside the parameters
abbrev pub passed : List ParameterTree → List Typed → List ExprTree → List Passed
passed [] types arguments = []
passed (p ∷ ps) [] arguments = []
passed (p ∷ ps) (t ∷ ts) [] = []
passed (p ∷ ps) (t ∷ ts) (e ∷ es) = record { parameter = p; given = t; argument = e } ∷ passed ps ts es

-- an earlier procedure that is called, with what is known of it
abbrev pub with_tree : Callee → Option ProcedureTree → Option (Callee × ProcedureTree)
with_tree c (Some p) = Some (c, p)
with_tree c None = None

abbrev pub called_one : List ProcedureTree → Option Callee → Option (Callee × ProcedureTree)
called_one earlier (Some c) = with_tree c (slice_get earlier c.number)
called_one earlier None = None

-- what well-typed arguments of a call at a place violate
abbrev pub arguments_violations : Scope → Place → ProcedureTree → List Typed → List ExprTree → List Violation
arguments_violations scope place p types arguments =
    if length arguments == length p.parameters
    then passed_violations scope place (passed p.parameters types arguments)
    ++ clash_violations place (first_clash [] (passed p.parameters types arguments))
    else because
    (ArgumentCounts (record { given = length arguments; taken = length p.parameters; procedure = p.place })) place
    (ArgumentCount ∷ [])

-- what a call with well-typed arguments violates: it is of an earlier procedure, the arguments fit, and nothing
-- public is assigned to under secret control
abbrev pub known_call_violations : Scope → Option SecretControl → CallTree → Option (Callee × ProcedureTree)
    → List Typed → List Violation
known_call_violations scope control c (Some (known, p)) types =
    arguments_violations scope c.place p types c.arguments
    ++ because (control_why control) c.place
    (when (is_some control && known.assigns_public) CallAssignsPublicUnderSecretControl)
known_call_violations scope control c None types = at c.place (ProcedureNotDeclaredEarlier ∷ [])

-- what a procedure gives
abbrev pub result_value : Option WordType → ValueType
result_value (Some result) = Word result
result_value None = Nothing

-- what a call gives, whose arguments are well typed
abbrev pub known_call_type : Scope → Option SecretControl → CallTree → Option (Callee × ProcedureTree) → List Typed
    → Option ValueType
known_call_type scope control c (Some (known, p)) types =
    unless (known_call_violations scope control c (Some (known, p)) types) (result_value p.result)
known_call_type scope control c None types = None

abbrev pub call_type : List ProcedureTree → Scope → Option SecretControl → CallTree → Option ValueType
call_type earlier scope control c =
    of_one None (known_call_type scope control c (called_one earlier (callee (found scope c.name))))
    (typed_of_all scope c.arguments)

abbrev pub call_violations : List ProcedureTree → Scope → Option SecretControl → CallTree → List Violation
call_violations earlier scope control c =
    exprs_violations scope c.arguments
    ++ of_one [] (known_call_violations scope control c (called_one earlier (callee (found scope c.name))))
    (typed_of_all scope c.arguments)

-- Right sides.

abbrev pub right_type : List ProcedureTree → Scope → Option SecretControl → RightTree → Option ValueType
right_type earlier scope control (called c) = call_type earlier scope control c
right_type earlier scope control (computed e) = type_of scope e

-- what is known of it: no name is secret in what a call gives
abbrev pub right_secret : Scope → RightTree → Option Place
right_secret scope (called c) = None
right_secret scope (computed e) = secret_in scope e

abbrev pub right_literal : RightTree → Option ℕ
right_literal (called c) = None
right_literal (computed e) = literal_in e

abbrev pub right_typed : List ProcedureTree → Scope → Option SecretControl → RightTree → Option Typed
right_typed earlier scope control right =
    option_map (typed_as (right_secret scope right) (right_literal right)) (right_type earlier scope control right)

abbrev pub right_violations : List ProcedureTree → Scope → Option SecretControl → RightTree → List Violation
right_violations earlier scope control (called c) = call_violations earlier scope control c
right_violations earlier scope control (computed e) = expr_violations scope e

-- Statements.

-- what a declared name is
abbrev pub declared_as : Label → Bool → Kind → Declared
declared_as label mutable kind = Variable (record { value = word kind label; mutable = mutable })

abbrev pub declared_array : Label → Bool → Kind → ℕ → Declared
declared_array label mutable kind size =
    Variable (record {
      value = Array (record { element = record { kind = kind; label = label }; length = size });
      mutable = mutable;
    })

-- a counter: a public number that may not be assigned to
abbrev pub counter_as : Declared
counter_as = declared_as Public false Uint32

-- a `mut` declaration of something public under secret control
abbrev pub declaration_control_violations : Option SecretControl → Place → Label → Bool → List Violation
declaration_control_violations control place label mutable =
    if mutable then control_violations control place label else []

-- a value that is put where a word is wanted
abbrev pub value_violations : Place → Part → WordType → Typed → List Violation
value_violations place part wanted given =
    because_of (put_why (typed_part part (Word wanted)) Value given) place (value_rules wanted given.value)

-- a declaration of a word whose value is well typed
abbrev pub declaration_violations : Option SecretControl → Place → Bool → Label → Bool → Kind → Typed → List Violation
declaration_violations control place taken label mutable kind given =
    at place (when taken NameDeclaredTwice)
    ++ value_violations place VariablePart (record { kind = kind; label = label }) given
    ++ declaration_control_violations control place label mutable

-- first values put where an array's elements are wanted
abbrev pub values_violations : Place → WordType → List Typed → List Violation
values_violations place wanted [] = []
values_violations place wanted (given ∷ rest) =
    value_violations place Element wanted given ++ values_violations place wanted rest

-- as many values as the array has elements, where some are written
abbrev pub count_violations : Place → ℕ → Option (List ExprTree) → List Violation
count_violations place size None = []
count_violations place size (Some values) =
    because (ValueCounts (record { length = size; values = length values })) place
    (when (not (length values == size)) InitialiserCount)

-- a declaration of an array whose values are well typed
abbrev pub array_violations : Option SecretControl → Place → Bool → Label → Bool → Kind → ℕ → Option (List ExprTree)
    → List Typed → List Violation
array_violations control place taken label mutable kind size values types =
    at place (when taken NameDeclaredTwice)
    ++ values_violations place (record { kind = kind; label = label }) types
    ++ count_violations place size values ++ declaration_control_violations control place label mutable

-- a value put into a target; an array as a whole is none
abbrev pub target_rules : ValueType → ValueType → List Rule
target_rules (Word wanted) given = value_rules wanted given
target_rules (Array wanted) given = WrongKind ∷ []
target_rules Nothing given = WrongKind ∷ []

-- an assignment to a variable that is declared at a place
abbrev pub assignment_violations : Option SecretControl → Place → Place → Option VariableType → Option Typed
    → List Violation
assignment_violations control place known_at (Some v) (Some given) =
    because_of (put_why (typed_part VariablePart v.value) Value given) place (target_rules v.value given.value)
    ++ change_violations control place known_at v.mutable (label_of v.value)
assignment_violations control place known_at (Some v) None = []
assignment_violations control place known_at None given = []

-- an assignment to an element, by the type of the element where it is well typed
abbrev pub element_assignment_violations : Option SecretControl → Place → Place → Option VariableType
    → Option ValueType → Option Typed → List Violation
element_assignment_violations control place known_at (Some v) (Some element) (Some given) =
    value_violations place Element (record { kind = kind_of element; label = label_of element }) given
    ++ change_violations control place known_at v.mutable (label_of element)
element_assignment_violations control place known_at (Some v) (Some element) None = []
element_assignment_violations control place known_at (Some v) None given = []
element_assignment_violations control place known_at None element given = []

-- a well-typed condition
abbrev pub condition_rules : ValueType → List Rule
condition_rules condition = when (not (is_bool condition)) WrongKind

-- well-typed bounds of a loop
abbrev pub bounds_rules : ValueType → ValueType → List Rule
bounds_rules low high =
    when (is_narrow low || is_narrow high) WidthsDiffer
    ++ when (not (is_numeric low && is_numeric high)) WrongKind
    ++ when (is_hidden low || is_hidden high) SecretBound

-- the scope after a statement: the names of arms and loops are their own
abbrev pub scope_after : Scope → StatementTree → Scope
scope_after scope (declaration place label mutable kind text right) =
    declared scope place text (declared_as label mutable kind)
scope_after scope (array place label mutable kind size text values) =
    declared scope place text (declared_array label mutable kind size)
scope_after scope (assignment place target text right) = scope
scope_after scope (element_assignment place bracket target text index right) = scope
scope_after scope (call c) = scope
scope_after scope (conditional place condition accepted otherwise) = scope
scope_after scope (loop place counter text low high body) = scope

abbrev mutual
  -- the rules that a statement's nodes violate under a control label
  pub statement_violations : List ProcedureTree → Scope → Option SecretControl → StatementTree → List Violation
  statement_violations earlier scope control (declaration place label mutable kind text right) =
      right_violations earlier scope control right
      ++ of_one [] (declaration_violations control place (is_some (found scope text)) label mutable kind)
      (right_typed earlier scope control right)
  statement_violations earlier scope control (array place label mutable kind size text values) =
      exprs_violations scope (written values)
      ++ of_one [] (array_violations control place (is_some (found scope text)) label mutable kind size values)
      (typed_of_all scope (written values))
  statement_violations earlier scope control (assignment place target text right) =
      name_violations scope target text ++ right_violations earlier scope control right
      ++ assignment_violations control place (declared_at scope text) (variable (found scope text))
      (right_typed earlier scope control right)
  statement_violations earlier scope control (element_assignment place bracket target text index right) =
      name_violations scope target text ++ expr_violations scope index
      ++ asked_of_two element_why bracket element_rules (typed_of scope (name target text)) (typed_of scope index)
      ++ right_violations earlier scope control right
      ++ element_assignment_violations control place (declared_at scope text) (variable (found scope text))
      (of_two None element_type (name_type scope text) (type_of scope index))
      (right_typed earlier scope control right)
  statement_violations earlier scope control (call c) = call_violations earlier scope control c
  statement_violations earlier scope control (conditional place condition accepted otherwise) =
      expr_violations scope condition
      ++ asked_of_one condition_why place condition_rules (typed_of scope condition)
      ++ block_violations earlier scope (control_under place control (typed_of scope condition)) accepted
      ++ block_violations earlier scope (control_under place control (typed_of scope condition)) otherwise
  statement_violations earlier scope control (loop place counter text low high body) =
      expr_violations scope low ++ expr_violations scope high
      ++ asked_of_two bounds_why place bounds_rules (typed_of scope low) (typed_of scope high)
      ++ at counter (when (is_some (found scope text)) NameDeclaredTwice)
      ++ block_violations earlier (declared scope counter text counter_as) control body

  pub block_violations : List ProcedureTree → Scope → Option SecretControl → BlockTree → List Violation
  block_violations earlier scope control nothing = []
  block_violations earlier scope control (first statement rest) =
      statement_violations earlier scope control statement
      ++ block_violations earlier (scope_after scope statement) control rest

-- the scope after some statements
abbrev pub scope_after_all : Scope → BlockTree → Scope
scope_after_all scope nothing = scope
scope_after_all scope (first statement rest) = scope_after_all (scope_after scope statement) rest

-- What a call may assign to.

-- a procedure, if it is one, that may assign to something public
abbrev pub may_assign : Option Callee → Bool
may_assign (Some c) = c.assigns_public
may_assign None = false

-- a call of such a procedure
abbrev pub calls_one : Scope → CallTree → Bool
calls_one scope c = may_assign (callee (found scope c.name))

abbrev pub right_assigns : Scope → RightTree → Bool
right_assigns scope (called c) = calls_one scope c
right_assigns scope (computed e) = false

abbrev pub is_public_mutable : Label → Bool → Bool
is_public_mutable label mutable = mutable && not (is_secret label)

abbrev mutual
  -- a public name is declared with `mut`, or such a procedure is called; the scope has the earlier procedures
  pub statement_assigns : Scope → StatementTree → Bool
  statement_assigns scope (declaration place label mutable kind text right) =
      is_public_mutable label mutable || right_assigns scope right
  statement_assigns scope (array place label mutable kind size text values) = is_public_mutable label mutable
  statement_assigns scope (assignment place target text right) = right_assigns scope right
  statement_assigns scope (element_assignment place bracket target text index right) = right_assigns scope right
  statement_assigns scope (call c) = calls_one scope c
  statement_assigns scope (conditional place condition accepted otherwise) =
      block_assigns scope accepted || block_assigns scope otherwise
  statement_assigns scope (loop place counter text low high body) = block_assigns scope body

  pub block_assigns : Scope → BlockTree → Bool
  block_assigns scope nothing = false
  block_assigns scope (first statement rest) = statement_assigns scope statement || block_assigns scope rest

-- one of the parameters is public and may be assigned to
abbrev pub parameters_assign : List ParameterTree → Bool
parameters_assign [] = false
parameters_assign (p ∷ ps) = is_public_mutable p.label (is_mutable p.form) || parameters_assign ps

-- a call of the procedure may assign to something public
abbrev pub assigns_public : Scope → ProcedureTree → Bool
assigns_public scope p = parameters_assign p.parameters || block_assigns scope p.body

-- Procedures.

-- the scope after the parameters
abbrev pub with_parameters : Scope → List ParameterTree → Scope
with_parameters scope [] = scope
with_parameters scope (p ∷ ps) = with_parameters (declared scope p.place p.name (parameter_as p)) ps

-- the rules that parameters violate: a name that is in scope is taken
abbrev pub parameter_violations : Scope → List ParameterTree → List Violation
parameter_violations scope [] = []
parameter_violations scope (p ∷ ps) =
    at p.place (when (is_some (found scope p.name)) NameDeclaredTwice)
    ++ parameter_violations (declared scope p.place p.name (parameter_as p)) ps

-- the scope after a procedure: its name, and whether it may assign to something public
abbrev pub with_procedure : Scope → ℕ → ProcedureTree → Scope
with_procedure scope number p =
    declared scope p.place p.name (Procedure (record { number = number; assigns_public = assigns_public scope p }))

-- a `return` whose value is well typed
abbrev pub returned_violations : Place → Option WordType → Typed → List Violation
returned_violations place None given = because (Returned given.value) place (ReturnMismatch ∷ [])
returned_violations place (Some wanted) given = value_violations place Result wanted given

abbrev pub return_violations : Scope → Option WordType → Option ReturnTree → List Violation
return_violations scope result None = []
return_violations scope result (Some r) =
    expr_violations scope r.value ++ of_one [] (returned_violations r.place result) (typed_of scope r.value)

-- there is a result, and no `return`
abbrev pub missing_violations : Place → Option WordType → Option ReturnTree → List Violation
missing_violations place (Some result) returned =
    because (Missing result) place (when (not (is_some returned)) ReturnMismatch)
missing_violations place None returned = []

-- where a procedure's body begins
abbrev pub body_scope : Scope → ℕ → ProcedureTree → Scope
body_scope scope number p = with_parameters (with_procedure scope number p) p.parameters

-- what a procedure violates, in the scope of the earlier ones
abbrev pub procedure_violations : List ProcedureTree → Scope → ProcedureTree → List Violation
procedure_violations earlier scope p =
    at p.place (when (is_some (found scope p.name)) NameDeclaredTwice)
    ++ missing_violations p.place p.result p.returned
    ++ parameter_violations (with_procedure scope (length earlier) p) p.parameters
    ++ block_violations earlier (body_scope scope (length earlier) p) None p.body
    ++ return_violations (scope_after_all (body_scope scope (length earlier) p) p.body) p.result p.returned

-- The program.

-- what procedures violate, after the earlier ones and in their scope
abbrev pub procedures_violations : List ProcedureTree → Scope → List ProcedureTree → List Violation
procedures_violations earlier scope [] = []
procedures_violations earlier scope (p ∷ ps) =
    procedure_violations earlier scope p
    ++ procedures_violations (earlier ++ p ∷ []) (with_procedure scope (length earlier) p) ps

-- the places of `export`
abbrev pub export_place : Option Place → List Place → List Place
export_place None places = places
export_place (Some place) places = place ∷ places

abbrev pub exports : List ProcedureTree → List Place
exports [] = []
exports (p ∷ ps) = export_place p.export (exports ps)

-- each place but the first
abbrev pub too_many : List Place → List Violation
too_many [] = []
too_many (place ∷ places) = at place (NotExactlyOneExport ∷ []) ++ too_many places

-- one export, neither none nor a further one
abbrev pub export_violations : List Place → List Violation
export_violations [] = at origin (NotExactlyOneExport ∷ [])
export_violations (place ∷ places) = too_many places

-- all the rules that a program violates, where this is the observer
abbrev pub violations : Profile → ProgramTree → List Violation
violations profile program =
    export_violations (exports program.procedures)
    ++ procedures_violations [] (empty profile) program.procedures
