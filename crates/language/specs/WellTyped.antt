-- Well-typed expressions, statements, procedures and programs, by rules of inference: the premises of a rule one a
-- line, its conclusion last.
use Rattle.std.specs.Prelude.{◌≡◌, ℕ, ◌^◌, ◌<◌, ◌&&◌, ◌||◌, Bool, true, false, List, [], ◌∷◌, ◌++◌, length, Option}
use Rattle.std.specs.Prelude.{Some, None}
use Rattle.std.specs.List.{slice_get}
use Rattle.word.specs.declared.place.Place.{Place}
use Rattle.word.specs.declared.profile.Profile.{Profile}
use Rattle.word.specs.declared.profile.Profile.TheVariants.{P1, P2}
use Rattle.language.specs.declared.signature.Form.{Form}
use Rattle.language.specs.declared.signature.Form.TheVariants.{SingleWord, FixedArray, MutableArray}
use Rattle.language.specs.declared.signature.Kind.{Kind}
use Rattle.language.specs.declared.signature.Kind.TheVariants.{Boolean, Uint32}
use Rattle.language.specs.declared.signature.Label.{Label}
use Rattle.language.specs.declared.signature.Label.TheVariants.{Public, Secret}
use Rattle.language.specs.declared.operators.BinaryOperator.{BinaryOperator}
use Rattle.language.specs.declared.operators.PrefixOperator.{PrefixOperator}
use Rattle.language.specs.declared.operators.PrefixOperator.TheVariants.{Not, Complement, Negate}
use Rattle.language.specs.declared.typing.ArrayType.{ArrayType}
use Rattle.language.specs.declared.typing.Callee.{Callee}
use Rattle.language.specs.declared.typing.Declared.TheVariants.{Procedure, Variable}
use Rattle.language.specs.declared.operation.Operation.{Operation}
use Rattle.language.specs.declared.operation.Operation.TheVariants.{Arithmetic, Multiplication, Division, Shift}
use Rattle.language.specs.declared.operation.Operation.TheVariants.{Equality, Order, Logic}
use Rattle.language.specs.declared.typing.ValueType.{ValueType}
use Rattle.language.specs.declared.typing.ValueType.TheVariants.{Word, Array}
use Rattle.language.specs.declared.typing.WordType.{WordType}
use Rattle.language.specs.Operators.{operation_of}
use Rattle.language.specs.Grammatical.{IsNumberKind}
use Rattle.language.specs.Tree.{ExprTree, number, truth, name, prefix, binary, rotate, convert, select, element}
use Rattle.language.specs.Tree.{CallTree, RightTree, called, computed, StatementTree, declaration, array, assignment}
use Rattle.language.specs.Tree.{element_assignment, call, conditional, loop, BlockTree, nothing, first, ParameterTree}
use Rattle.language.specs.Tree.{ReturnTree, ProcedureTree, ProgramTree, written}
use Rattle.language.specs.Types.{Scope, empty, found, declared, bits_of, joined, word}
use Rattle.language.specs.Typing.{same_name, is_mutable, result_value, counter_as, parameter_as, scope_after}
use Rattle.language.specs.Typing.{scope_after_all, with_procedure, body_scope, exports}

-- Types.

-- the type of a word of this kind and label
abbrev pub labelled : Kind → Label → WordType
labelled kind label = record { kind = kind; label = label }

-- a name stands for a variable of this type, which may be assigned to or not
abbrev pub IsVariable : Scope → List ℕ → ValueType → Bool → Type 0
IsVariable scope text type mutable = found scope text ≡ Some (Variable (record { value = type; mutable = mutable }))

-- what has the one label may be put where the other is asked for: no secret where something public is
pub data FlowsTo : Label → Label → Type 0 where
  public_flows : {label : Label} → FlowsTo Public label
  secret_flows : FlowsTo Secret Secret

-- a word of the one type may be put where one of the other is wanted
pub data Suits : WordType → WordType → Type 0 where
  suits : {kind : Kind} {label wanted : Label}
      → FlowsTo label wanted
      → Suits (labelled kind label) (labelled kind wanted)

-- Operators.

-- the operands of a multiplication may have these labels: they are public where the observer sees them
pub data MayBeMultiplied : Profile → Label → Label → Type 0 where
  unseen : {l m : Label} → MayBeMultiplied P1 l m
  both_public : MayBeMultiplied P2 Public Public

-- what an operation makes of two words
pub data Makes (profile : Profile) : Operation → WordType → WordType → WordType → Type 0 where
  arithmetic : {kind : Kind} {l m : Label}
      → IsNumberKind kind
      → Makes profile Arithmetic (labelled kind l) (labelled kind m) (labelled kind (joined l m))
  multiplication : {kind : Kind} {l m : Label}
      → IsNumberKind kind
      → MayBeMultiplied profile l m
      → Makes profile Multiplication (labelled kind l) (labelled kind m) (labelled kind (joined l m))
  division : {kind : Kind}
      → IsNumberKind kind
      → Makes profile Division (labelled kind Public) (labelled kind Public) (labelled kind Public)
  shift : {kind : Kind} {l m : Label}
      → IsNumberKind kind
      → Makes profile Shift (labelled kind l) (labelled Uint32 m) (labelled kind (joined l m))
  equality : {kind : Kind} {l m : Label}
      → Makes profile Equality (labelled kind l) (labelled kind m) (labelled Boolean (joined l m))
  order : {kind : Kind} {l m : Label}
      → IsNumberKind kind
      → Makes profile Order (labelled kind l) (labelled kind m) (labelled Boolean (joined l m))
  logic : {l m : Label}
      → Makes profile Logic (labelled Boolean l) (labelled Boolean m) (labelled Boolean (joined l m))

-- `!` takes a bool, `~` and `-` take a number
abbrev pub Takes : PrefixOperator → Kind → Type 0
Takes Not kind = kind ≡ Boolean
Takes Complement kind = IsNumberKind kind
Takes Negate kind = IsNumberKind kind

-- Expressions.

-- an expression has this type
pub data HasType (scope : Scope) : ExprTree → ValueType → Type 0 where
  of_number : {place : Place} {value : ℕ} {kind : Kind}
      → value < 2 ^ bits_of kind
      → HasType scope (number place value kind) (word kind Public)
  of_truth : {place : Place} {value : Bool}
      → HasType scope (truth place value) (word Boolean Public)
  of_name : {place : Place} {text : List ℕ} {type : ValueType} {mutable : Bool}
      → IsVariable scope text type mutable
      → HasType scope (name place text) type
  of_prefix : {place : Place} {operator : PrefixOperator} {operand : ExprTree} {kind : Kind} {label : Label}
      → HasType scope operand (word kind label)
      → Takes operator kind
      → HasType scope (prefix place operator operand) (word kind label)
  of_binary : {place : Place} {operator : BinaryOperator} {left right : ExprTree} {one other whole : WordType}
      → HasType scope left (Word one)
      → HasType scope right (Word other)
      → Makes scope.profile (operation_of operator) one other whole
      → HasType scope (binary place operator left right) (Word whole)
  of_rotation : {place : Place} {operand : ExprTree} {amount : ℕ} {kind : Kind} {label : Label}
      → HasType scope operand (word kind label)
      → IsNumberKind kind
      → 0 < amount
      → amount < bits_of kind
      → HasType scope (rotate place operand amount) (word kind label)
  of_conversion : {place : Place} {kind other : Kind} {operand : ExprTree} {label : Label}
      → HasType scope operand (word other label)
      → HasType scope (convert place kind operand) (word kind label)
  of_selection : {place : Place} {condition accepted otherwise : ExprTree} {kind : Kind} {l m n : Label}
      → HasType scope condition (word Boolean l)
      → HasType scope accepted (word kind m)
      → HasType scope otherwise (word kind n)
      → HasType scope (select place condition accepted otherwise) (word kind (joined l (joined m n)))
  of_element : {place target : Place} {text : List ℕ} {index : ExprTree} {array : ArrayType} {mutable : Bool}
      → IsVariable scope text (Array array) mutable
      → HasType scope index (word Uint32 Public)
      → HasType scope (element place target text index) (Word array.element)

-- Calls.

-- the type of an array parameter
abbrev pub array_of : ParameterTree → ArrayType
array_of p = record { element = labelled p.kind p.label; length = p.length }

-- an argument fits its parameter: a word suits it, an array is given by its bare name
pub data IsPassed (scope : Scope) (p : ParameterTree) : ExprTree → Type 0 where
  as_word : {argument : ExprTree} {given : WordType}
      → p.form ≡ SingleWord
      → HasType scope argument (Word given)
      → Suits given (labelled p.kind p.label)
      → IsPassed scope p argument
  as_array : {place : Place} {text : List ℕ} {mutable : Bool}
      → p.form ≡ FixedArray
      → IsVariable scope text (Array (array_of p)) mutable
      → IsPassed scope p (name place text)
  as_mutable_array : {place : Place} {text : List ℕ}
      → p.form ≡ MutableArray
      → IsVariable scope text (Array (array_of p)) true
      → IsPassed scope p (name place text)

-- the array that is given for a parameter of this form
abbrev pub array_given : Form → ExprTree → Option (List ℕ)
array_given FixedArray (name place text) = Some text
array_given MutableArray (name place text) = Some text
array_given form argument = None

-- two arguments are one array, which one of the two parameters may change
abbrev pub is_shared : ParameterTree → ExprTree → ParameterTree → ExprTree → Bool
is_shared p a q b = same_name (array_given p.form a) (array_given q.form b)
    && (is_mutable p.form || is_mutable q.form)

-- no argument behind this one shares an array with it
abbrev pub SharesNone : ParameterTree → ExprTree → List ParameterTree → List ExprTree → Type 0
SharesNone p a [] bs = Unit {0}
SharesNone p a (q ∷ qs) [] = Unit {0}
SharesNone p a (q ∷ qs) (b ∷ bs) = (is_shared q b p a ≡ false) × SharesNone p a qs bs

-- an argument for each parameter
pub data ArePassed (scope : Scope) : List ParameterTree → List ExprTree → Type 0 where
  none_passed : ArePassed scope [] []
  one_passed : {p : ParameterTree} {ps : List ParameterTree} {argument : ExprTree} {arguments : List ExprTree}
      → IsPassed scope p argument
      → SharesNone p argument ps arguments
      → ArePassed scope ps arguments
      → ArePassed scope (p ∷ ps) (argument ∷ arguments)

-- under this control label, a call of an earlier procedure, and what it gives
pub data IsCall (earlier : List ProcedureTree) (scope : Scope) (control : Label) : CallTree → ValueType → Type 0 where
  of_procedure : {c : CallTree} {callee : Callee} {p : ProcedureTree}
      → found scope c.name ≡ Some (Procedure callee)
      → slice_get earlier callee.number ≡ Some p
      → ArePassed scope p.parameters c.arguments
      → (control ≡ Secret → callee.assigns_public ≡ false)
      → IsCall earlier scope control c (result_value p.result)

-- a right side gives a value of this type
pub data RightHasType (earlier : List ProcedureTree) (scope : Scope) (control : Label) : RightTree → ValueType
    → Type 0 where
  of_call : {c : CallTree} {type : ValueType}
      → IsCall earlier scope control c type
      → RightHasType earlier scope control (called c) type
  of_value : {e : ExprTree} {type : ValueType}
      → HasType scope e type
      → RightHasType earlier scope control (computed e) type

-- Statements.

-- first values for the elements of an array
pub data AllSuit (scope : Scope) (wanted : WordType) : List ExprTree → Type 0 where
  none_wanted : AllSuit scope wanted []
  one_suits : {e : ExprTree} {es : List ExprTree} {given : WordType}
      → HasType scope e (Word given)
      → Suits given wanted
      → AllSuit scope wanted es
      → AllSuit scope wanted (e ∷ es)

-- as many first values as elements, where there are some
pub data HasCount (size : ℕ) : Option (List ExprTree) → Type 0 where
  all_zero : HasCount size None
  all_given : {values : List ExprTree}
      → length values ≡ size
      → HasCount size (Some values)

mutual
  -- a statement is well typed under this control label
  pub data IsWellTyped (earlier : List ProcedureTree) : Scope → Label → StatementTree → Type 0 where
    declares : {scope : Scope} {control : Label} {place : Place} {label : Label} {mutable : Bool} {kind : Kind}
        {text : List ℕ} {right : RightTree} {given : WordType}
        → found scope text ≡ None
        → RightHasType earlier scope control right (Word given)
        → Suits given (labelled kind label)
        → (mutable ≡ true → FlowsTo control label)
        → IsWellTyped earlier scope control (declaration place label mutable kind text right)
    declares_array : {scope : Scope} {control : Label} {place : Place} {label : Label} {mutable : Bool} {kind : Kind}
        {size : ℕ} {text : List ℕ} {values : Option (List ExprTree)}
        → found scope text ≡ None
        → AllSuit scope (labelled kind label) (written values)
        → HasCount size values
        → (mutable ≡ true → FlowsTo control label)
        → IsWellTyped earlier scope control (array place label mutable kind size text values)
    assigns : {scope : Scope} {control : Label} {place target : Place} {text : List ℕ} {right : RightTree}
        {given wanted : WordType}
        → IsVariable scope text (Word wanted) true
        → RightHasType earlier scope control right (Word given)
        → Suits given wanted
        → FlowsTo control wanted.label
        → IsWellTyped earlier scope control (assignment place target text right)
    assigns_element : {scope : Scope} {control : Label} {place bracket target : Place} {text : List ℕ}
        {index : ExprTree} {right : RightTree} {given : WordType} {array : ArrayType}
        → IsVariable scope text (Array array) true
        → HasType scope index (word Uint32 Public)
        → RightHasType earlier scope control right (Word given)
        → Suits given array.element
        → FlowsTo control array.element.label
        → IsWellTyped earlier scope control (element_assignment place bracket target text index right)
    calls : {scope : Scope} {control : Label} {c : CallTree} {type : ValueType}
        → IsCall earlier scope control c type
        → IsWellTyped earlier scope control (call c)
    chooses : {scope : Scope} {control : Label} {place : Place} {condition : ExprTree}
        {accepted otherwise : BlockTree} {label : Label}
        → HasType scope condition (word Boolean label)
        → AreWellTyped earlier scope (joined label control) accepted
        → AreWellTyped earlier scope (joined label control) otherwise
        → IsWellTyped earlier scope control (conditional place condition accepted otherwise)
    repeats : {scope : Scope} {control : Label} {place counter : Place} {text : List ℕ} {low high : ExprTree}
        {body : BlockTree}
        → HasType scope low (word Uint32 Public)
        → HasType scope high (word Uint32 Public)
        → found scope text ≡ None
        → AreWellTyped earlier (declared scope counter text counter_as) control body
        → IsWellTyped earlier scope control (loop place counter text low high body)

  -- statements in their order
  pub data AreWellTyped (earlier : List ProcedureTree) : Scope → Label → BlockTree → Type 0 where
    no_statement : {scope : Scope} {control : Label}
        → AreWellTyped earlier scope control nothing
    one_more : {scope : Scope} {control : Label} {statement : StatementTree} {rest : BlockTree}
        → IsWellTyped earlier scope control statement
        → AreWellTyped earlier (scope_after scope statement) control rest
        → AreWellTyped earlier scope control (first statement rest)

-- Procedures and programs.

-- no parameter has a name that is taken
pub data AreNew : Scope → List ParameterTree → Type 0 where
  no_parameter : {scope : Scope}
      → AreNew scope []
  one_is_new : {scope : Scope} {p : ParameterTree} {ps : List ParameterTree}
      → found scope p.name ≡ None
      → AreNew (declared scope p.place p.name (parameter_as p)) ps
      → AreNew scope (p ∷ ps)

-- a `return` stands exactly where there is a result, and its value suits it
pub data Returns (scope : Scope) : Option WordType → Option ReturnTree → Type 0 where
  nothing_returned : Returns scope None None
  value_returned : {wanted given : WordType} {r : ReturnTree}
      → HasType scope r.value (Word given)
      → Suits given wanted
      → Returns scope (Some wanted) (Some r)

-- a procedure after the earlier ones, in their scope
pub record IsProcedure (earlier : List ProcedureTree) (scope : Scope) (p : ProcedureTree) : Type 0 where
  pub is_new : found scope p.name ≡ None
  pub parameters : AreNew (with_procedure scope (length earlier) p) p.parameters
  pub body : AreWellTyped earlier (body_scope scope (length earlier) p) Public p.body
  pub returns : Returns (scope_after_all (body_scope scope (length earlier) p) p.body) p.result p.returned

-- procedures in their order
pub data AreProcedures : List ProcedureTree → Scope → List ProcedureTree → Type 0 where
  no_procedure : {earlier : List ProcedureTree} {scope : Scope}
      → AreProcedures earlier scope []
  one_procedure : {earlier : List ProcedureTree} {scope : Scope} {p : ProcedureTree} {ps : List ProcedureTree}
      → IsProcedure earlier scope p
      → AreProcedures (earlier ++ p ∷ []) (with_procedure scope (length earlier) p) ps
      → AreProcedures earlier scope (p ∷ ps)

-- a program, for an observer: one procedure is exported, and all are well typed
pub record IsTypedProgram (profile : Profile) (program : ProgramTree) : Type 0 where
  pub export : Place
  pub exported : exports program.procedures ≡ export ∷ []
  pub procedures : AreProcedures [] (empty profile) program.procedures
