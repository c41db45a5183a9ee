-- Why a rule is violated: what is found where it is asked.
use Rattle.std.specs.Prelude.{ℕ, ◌&&◌, ◌^◌, nat_lt, List, Option, None, Some, if◌then◌else◌}
use Rattle.std.specs.Option.{option_or}
use Rattle.word.specs.declared.place.Place.{Place}
use Rattle.language.specs.declared.rule.Rule.{Rule}
use Rattle.language.specs.declared.rule.Rule.TheVariants.{WidthsDiffer, WrongKind, LiteralOutOfRange, SecretToPublic}
use Rattle.language.specs.declared.signature.Kind.TheVariants.{Uint32}
use Rattle.language.specs.declared.signature.Label.TheVariants.{Public}
use Rattle.language.specs.declared.operation.Operation.{Operation}
use Rattle.language.specs.declared.operation.Operation.TheVariants.{Arithmetic, Multiplication, Division, Shift}
use Rattle.language.specs.declared.operation.Operation.TheVariants.{Equality, Order, Logic}
use Rattle.language.specs.declared.typing.ValueType.{ValueType}
use Rattle.language.specs.declared.typing.VariableType.{VariableType}
use Rattle.language.specs.declared.why.ComparedTypes.{ComparedTypes}
use Rattle.language.specs.declared.why.ComparedTypes.TheVariants.{One, Two, Choice}
use Rattle.language.specs.declared.why.Literal.{Literal}
use Rattle.language.specs.declared.why.Part.{Part}
use Rattle.language.specs.declared.why.Part.TheVariants.{Operand, LeftOperand, RightOperand, Condition, FirstBound}
use Rattle.language.specs.declared.why.Part.TheVariants.{SecondBound, Index}
use Rattle.language.specs.declared.why.Part.TheVariants.{Variable as VariablePart}
use Rattle.language.specs.declared.why.SecretControl.{SecretControl}
use Rattle.language.specs.declared.why.Typed.{Typed}
use Rattle.language.specs.declared.why.TypedPart.{TypedPart}
use Rattle.language.specs.declared.why.Why.{Why}
use Rattle.language.specs.declared.why.Why.TheVariants.{Plain, Types, Amount, Nearest, Leak, Secret, Control}
use Rattle.language.specs.Nearest.{nearest_place}
use Rattle.language.specs.Tree.{ExprTree, number, truth, name, prefix, binary, rotate, convert, select, element}
use Rattle.language.specs.Types.{Scope, found, declared_at, variable, bits_of, word, is_numeric, is_hidden, kind_of}

-- Secret names.

-- this place, where the variable is secret
abbrev pub where_hidden : Place → Option VariableType → Option Place
where_hidden place (Some v) = if is_hidden v.value then Some place else None
where_hidden place None = None

-- where a name is declared that is a secret variable's
abbrev pub secret_name : Scope → List ℕ → Option Place
secret_name scope text = where_hidden (declared_at scope text) (variable (found scope text))

-- where the first such name in an expression is declared
abbrev pub secret_in : Scope → ExprTree → Option Place
secret_in scope (number place value kind) = None
secret_in scope (truth place value) = None
secret_in scope (name place text) = secret_name scope text
secret_in scope (prefix place operator operand) = secret_in scope operand
secret_in scope (binary place operator left right) = option_or (secret_in scope left) (secret_in scope right)
secret_in scope (rotate place operand amount) = secret_in scope operand
secret_in scope (convert place kind operand) = secret_in scope operand
secret_in scope (select place condition accepted otherwise) =
    option_or (secret_in scope condition) (option_or (secret_in scope accepted) (secret_in scope otherwise))
secret_in scope (element place target text index) = option_or (secret_name scope text) (secret_in scope index)

-- Numbers.

-- the number that an expression is
abbrev pub literal_in : ExprTree → Option ℕ
literal_in (number place value kind) = Some value
literal_in (truth place value) = None
literal_in (name place text) = None
literal_in (prefix place operator operand) = None
literal_in (binary place operator left right) = None
literal_in (rotate place operand amount) = None
literal_in (convert place kind operand) = None
literal_in (select place condition accepted otherwise) = None
literal_in (element place target text index) = None

-- how it is written in the width that is wanted, where it fits it
abbrev pub number_as : ValueType → ℕ → Option Literal
number_as wanted value =
    if is_numeric wanted && nat_lt value (2 ^ bits_of (kind_of wanted))
    then Some (record { value = value; kind = kind_of wanted }) else None

abbrev pub literal_as : ValueType → Option ℕ → Option Literal
literal_as wanted (Some value) = number_as wanted value
literal_as wanted None = None

-- one of two parts, in the width of the other
abbrev pub either_literal : Typed → Typed → Option Literal
either_literal a b = option_or (literal_as b.value a.literal) (literal_as a.value b.literal)

-- a `uint32`
abbrev pub whole_literal : Typed → Option Literal
whole_literal a = literal_as (word Uint32 Public) a.literal

abbrev pub operand_literal : Operation → Typed → Typed → Option Literal
operand_literal Arithmetic a b = either_literal a b
operand_literal Multiplication a b = either_literal a b
operand_literal Division a b = either_literal a b
operand_literal Shift a b = whole_literal b
operand_literal Equality a b = either_literal a b
operand_literal Order a b = either_literal a b
operand_literal Logic a b = None

-- Unknown names.

abbrev pub nearest_why : Option Place → Why
nearest_why (Some place) = Nearest place
nearest_why None = Plain

-- by the nearest variable in scope, where one is near
abbrev pub unknown_why : Scope → List ℕ → Why
unknown_why scope text = nearest_why (nearest_place scope text)

-- Types that are compared.

abbrev pub typed_part : Part → ValueType → TypedPart
typed_part part value = record { part = part; value = value }

-- of these types, with a number that can be written in the width that is wanted, and with the first secret name in what
-- has to be public
abbrev pub compared_why : ComparedTypes → Option Literal → Option Place → Rule → Why
compared_why types literal secret WidthsDiffer = Types types literal
compared_why types literal secret WrongKind = Types types None
compared_why types literal secret SecretToPublic = Leak types secret
compared_why types literal secret rule = Secret secret

abbrev pub operand_why : Typed → Rule → Why
operand_why a = compared_why (One (typed_part Operand a.value)) None None

-- of a rotation by so many bits
abbrev pub rotate_why : ℕ → Typed → Rule → Why
rotate_why amount a LiteralOutOfRange = Amount (record { value = amount; kind = kind_of a.value })
rotate_why amount a rule = operand_why a rule

abbrev pub operands_why : Operation → Typed → Typed → Rule → Why
operands_why operation a b =
    compared_why (Two (typed_part LeftOperand a.value) (typed_part RightOperand b.value))
    (operand_literal operation a b) (option_or a.secret b.secret)

abbrev pub choice_why : Typed → Typed → Typed → Rule → Why
choice_why condition accepted otherwise =
    compared_why (Choice condition.value accepted.value otherwise.value) (either_literal accepted otherwise) None

abbrev pub element_why : Typed → Typed → Rule → Why
element_why array index =
    compared_why (Two (typed_part VariablePart array.value) (typed_part Index index.value)) (whole_literal index)
    index.secret

abbrev pub condition_why : Typed → Rule → Why
condition_why condition = compared_why (One (typed_part Condition condition.value)) None None

abbrev pub bounds_why : Typed → Typed → Rule → Why
bounds_why low high =
    compared_why (Two (typed_part FirstBound low.value) (typed_part SecondBound high.value)) None
    (option_or low.secret high.secret)

-- of a value, by what it is, that is put where this is wanted
abbrev pub put_why : TypedPart → Part → Typed → Rule → Why
put_why wanted part given =
    compared_why (Two wanted (typed_part part given.value)) (literal_as wanted.value given.literal) given.secret

-- Control.

-- why it is secret
abbrev pub control_why : Option SecretControl → Why
control_why (Some control) = Control control
control_why None = Plain

-- in the arms of the conditional at a place: secret under a secret condition, else as around them
abbrev pub control_under : Place → Option SecretControl → Option Typed → Option SecretControl
control_under place control (Some condition) =
    if is_hidden condition.value then Some (record { place = place; name = condition.secret }) else control
control_under place control None = control
