-- The rules that the nodes of an expression have to meet, and its type. A rule is asked of a node only where the
-- node's own parts are well typed; a node has a type only where it violates no rule.
use Rattle.std.specs.Prelude.{ℕ, Bool, false, not, ◌&&◌, ◌||◌, ◌^◌, nat_lt, List, [], ◌∷◌, ◌++◌, Option, None, Some}
use Rattle.std.specs.Prelude.{is_some}
use Rattle.std.specs.Option.{option_map}
use Rattle.language.specs.declared.rule.Rule.{Rule}
use Rattle.language.specs.declared.rule.Rule.TheVariants.{UndeclaredName, WidthsDiffer, WrongKind, LiteralOutOfRange}
use Rattle.language.specs.declared.rule.Rule.TheVariants.{SecretIndex, SecretDivisionOperand}
use Rattle.language.specs.declared.rule.Rule.TheVariants.{SecretMultiplicationOperand}
use Rattle.language.specs.declared.signature.Kind.{Kind}
use Rattle.language.specs.declared.signature.Kind.TheVariants.{Boolean}
use Rattle.language.specs.declared.signature.Label.TheVariants.{Public}
use Rattle.language.specs.declared.operators.BinaryOperator.{BinaryOperator}
use Rattle.language.specs.declared.operators.PrefixOperator.{PrefixOperator}
use Rattle.language.specs.declared.operators.PrefixOperator.TheVariants.{Not, Complement, Negate}
use Rattle.language.specs.declared.operation.Operation.{Operation}
use Rattle.language.specs.declared.operation.Operation.TheVariants.{Arithmetic, Multiplication, Division, Shift}
use Rattle.language.specs.declared.operation.Operation.TheVariants.{Equality, Order, Logic}
use Rattle.language.specs.declared.typing.ValueType.{ValueType}
use Rattle.language.specs.declared.typing.VariableType.{VariableType}
use Rattle.language.specs.declared.typing.Violation.{Violation}
use Rattle.word.specs.declared.place.Place.{Place}
use Rattle.word.specs.declared.profile.Profile.{Profile}
use Rattle.word.specs.declared.profile.Profile.TheVariants.{P1, P2}
use Rattle.language.specs.declared.why.Typed.{Typed}
use Rattle.language.specs.declared.why.Why.TheVariants.{Number}
use Rattle.language.specs.Operators.{operation_of}
use Rattle.language.specs.Reasons.{secret_in, literal_in, operand_why, rotate_why, operands_why, choice_why}
use Rattle.language.specs.Reasons.{element_why}
use Rattle.language.specs.Reasons.{unknown_why}
use Rattle.language.specs.Tree.{ExprTree, number, truth, name, prefix, binary, rotate, convert, select, element}
use Rattle.language.specs.Types.{Scope, found, variable, bits_of, word, joined, is_numeric, is_bool, is_array}
use Rattle.language.specs.Types.{is_narrow, is_hidden, kind_of, label_of, widths_differ, are_alike, when, unless}
use Rattle.language.specs.Types.{of_one, of_two, of_three, because, typed_as, with_typed, asked_of_one, asked_of_two}
use Rattle.language.specs.Types.{asked_of_three}

-- operands whose widths do not go together: a shift wants a `uint32` by which to shift
abbrev pub is_uneven : Operation → ValueType → ValueType → Bool
is_uneven Arithmetic a b = widths_differ a b
is_uneven Multiplication a b = widths_differ a b
is_uneven Division a b = widths_differ a b
is_uneven Shift a b = is_narrow b
is_uneven Equality a b = widths_differ a b
is_uneven Order a b = widths_differ a b
is_uneven Logic a b = false

-- operands of the kinds that an operation takes
abbrev pub takes : Operation → ValueType → ValueType → Bool
takes Arithmetic a b = is_numeric a && is_numeric b
takes Multiplication a b = is_numeric a && is_numeric b
takes Division a b = is_numeric a && is_numeric b
takes Shift a b = is_numeric a && is_numeric b
takes Equality a b = are_alike a b
takes Order a b = is_numeric a && is_numeric b
takes Logic a b = is_bool a && is_bool b

-- a division of or by something secret
abbrev pub divides_secret : Operation → ValueType → ValueType → Bool
divides_secret Arithmetic a b = false
divides_secret Multiplication a b = false
divides_secret Division a b = is_hidden a || is_hidden b
divides_secret Shift a b = false
divides_secret Equality a b = false
divides_secret Order a b = false
divides_secret Logic a b = false

-- a product of something secret, where the observer sees the operands of multiplications
abbrev pub multiplies_secret : Profile → Operation → ValueType → ValueType → Bool
multiplies_secret P1 operation a b = false
multiplies_secret P2 Arithmetic a b = false
multiplies_secret P2 Multiplication a b = is_hidden a || is_hidden b
multiplies_secret P2 Division a b = false
multiplies_secret P2 Shift a b = false
multiplies_secret P2 Equality a b = false
multiplies_secret P2 Order a b = false
multiplies_secret P2 Logic a b = false

-- the rules of a node between two operands
abbrev pub operation_rules : Profile → Operation → ValueType → ValueType → List Rule
operation_rules profile operation a b =
    when (is_uneven operation a b) WidthsDiffer
    ++ when (not (takes operation a b)) WrongKind
    ++ when (divides_secret operation a b) SecretDivisionOperand
    ++ when (multiplies_secret profile operation a b) SecretMultiplicationOperand

-- the kind of what it gives
abbrev pub operation_kind : Operation → Kind → Kind
operation_kind Arithmetic kind = kind
operation_kind Multiplication kind = kind
operation_kind Division kind = kind
operation_kind Shift kind = kind
operation_kind Equality kind = Boolean
operation_kind Order kind = Boolean
operation_kind Logic kind = Boolean

abbrev pub binary_rules : Profile → BinaryOperator → ValueType → ValueType → List Rule
binary_rules profile operator a b = operation_rules profile (operation_of operator) a b

abbrev pub binary_type : Profile → BinaryOperator → ValueType → ValueType → Option ValueType
binary_type profile operator a b =
    unless (binary_rules profile operator a b)
    (word (operation_kind (operation_of operator) (kind_of a)) (joined (label_of a) (label_of b)))

-- `!` wants a bool, `~` and `-` want a number
abbrev pub prefix_rules : PrefixOperator → ValueType → List Rule
prefix_rules Not a = when (not (is_bool a)) WrongKind
prefix_rules Complement a = when (not (is_numeric a)) WrongKind
prefix_rules Negate a = when (not (is_numeric a)) WrongKind

abbrev pub prefix_type : PrefixOperator → ValueType → Option ValueType
prefix_type operator a = unless (prefix_rules operator a) a

-- an amount in 1..width - 1
abbrev pub rotates_within : ℕ → ValueType → Bool
rotates_within amount a = nat_lt 0 amount && nat_lt amount (bits_of (kind_of a))

abbrev pub rotate_rules : ℕ → ValueType → List Rule
rotate_rules amount a =
    when (not (is_numeric a)) WrongKind
    ++ when (is_numeric a && not (rotates_within amount a)) LiteralOutOfRange

abbrev pub rotate_type : ℕ → ValueType → Option ValueType
rotate_type amount a = unless (rotate_rules amount a) a

-- any word may be converted
abbrev pub convert_rules : ValueType → List Rule
convert_rules a = when (not (is_numeric a || is_bool a)) WrongKind

abbrev pub convert_type : Kind → ValueType → Option ValueType
convert_type kind a = unless (convert_rules a) (word kind (label_of a))

-- a bool, and two numbers of one width or two bools
abbrev pub select_rules : ValueType → ValueType → ValueType → List Rule
select_rules condition accepted otherwise =
    when (widths_differ accepted otherwise) WidthsDiffer
    ++ when (not (is_bool condition && are_alike accepted otherwise)) WrongKind

abbrev pub select_type : ValueType → ValueType → ValueType → Option ValueType
select_type condition accepted otherwise =
    unless (select_rules condition accepted otherwise)
    (word (kind_of accepted) (joined (label_of condition) (joined (label_of accepted) (label_of otherwise))))

-- an array, and a public `uint32`
abbrev pub element_rules : ValueType → ValueType → List Rule
element_rules array index =
    when (is_narrow index) WidthsDiffer
    ++ when (not (is_array array && is_numeric index)) WrongKind
    ++ when (is_hidden index) SecretIndex

abbrev pub element_type : ValueType → ValueType → Option ValueType
element_type array index = unless (element_rules array index) (word (kind_of array) (label_of array))

-- a number has to be below 2 to the width that its suffix names
abbrev pub number_rules : ℕ → Kind → List Rule
number_rules value kind = when (not (nat_lt value (2 ^ bits_of kind))) LiteralOutOfRange

-- the type of a name that is a variable's
abbrev pub name_type : Scope → List ℕ → Option ValueType
name_type scope text = option_map (λ (v : VariableType). v.value) (variable (found scope text))

-- a name has to be a variable's
abbrev pub name_rules : Scope → List ℕ → List Rule
name_rules scope text = when (not (is_some (variable (found scope text)))) UndeclaredName

abbrev pub name_violations : Scope → Place → List ℕ → List Violation
name_violations scope place text = because (unknown_why scope text) place (name_rules scope text)

-- the type of an expression, where it is well typed
abbrev pub type_of : Scope → ExprTree → Option ValueType
type_of scope (number place value kind) = unless (number_rules value kind) (word kind Public)
type_of scope (truth place value) = Some (word Boolean Public)
type_of scope (name place text) = name_type scope text
type_of scope (prefix place operator operand) =
    of_one None (prefix_type operator) (type_of scope operand)
type_of scope (binary place operator left right) =
    of_two None (binary_type scope.profile operator) (type_of scope left) (type_of scope right)
type_of scope (rotate place operand amount) =
    of_one None (rotate_type amount) (type_of scope operand)
type_of scope (convert place kind operand) =
    of_one None (convert_type kind) (type_of scope operand)
type_of scope (select place condition accepted otherwise) =
    of_three None select_type (type_of scope condition) (type_of scope accepted) (type_of scope otherwise)
type_of scope (element place array text index) =
    of_two None element_type (name_type scope text) (type_of scope index)

-- what is known of an expression, where it is well typed
abbrev pub typed_of : Scope → ExprTree → Option Typed
typed_of scope e = option_map (typed_as (secret_in scope e) (literal_in e)) (type_of scope e)

-- and of several, where all are
abbrev pub typed_of_all : Scope → List ExprTree → Option (List Typed)
typed_of_all scope [] = Some []
typed_of_all scope (e ∷ es) = with_typed (typed_of scope e) (typed_of_all scope es)

-- the rules that an expression's nodes violate
abbrev pub expr_violations : Scope → ExprTree → List Violation
expr_violations scope (number place value kind) =
    because (Number (record { value = value; kind = kind })) place (number_rules value kind)
expr_violations scope (truth place value) = []
expr_violations scope (name place text) = name_violations scope place text
expr_violations scope (prefix place operator operand) =
    expr_violations scope operand
    ++ asked_of_one operand_why place (prefix_rules operator) (typed_of scope operand)
expr_violations scope (binary place operator left right) =
    expr_violations scope left ++ expr_violations scope right
    ++ asked_of_two (operands_why (operation_of operator)) place (binary_rules scope.profile operator)
    (typed_of scope left) (typed_of scope right)
expr_violations scope (rotate place operand amount) =
    expr_violations scope operand
    ++ asked_of_one (rotate_why amount) place (rotate_rules amount) (typed_of scope operand)
expr_violations scope (convert place kind operand) =
    expr_violations scope operand ++ asked_of_one operand_why place convert_rules (typed_of scope operand)
expr_violations scope (select place condition accepted otherwise) =
    expr_violations scope condition ++ expr_violations scope accepted ++ expr_violations scope otherwise
    ++ asked_of_three choice_why place select_rules (typed_of scope condition) (typed_of scope accepted)
    (typed_of scope otherwise)
expr_violations scope (element place array text index) =
    name_violations scope array text ++ expr_violations scope index
    ++ asked_of_two element_why place element_rules (typed_of scope (name array text)) (typed_of scope index)

abbrev pub exprs_violations : Scope → List ExprTree → List Violation
exprs_violations scope [] = []
exprs_violations scope (e ∷ es) = expr_violations scope e ++ exprs_violations scope es
