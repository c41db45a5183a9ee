-- Names become numbers: each declaration gets the next one, the parameters the first. The body of a called procedure
-- stands where the call stood: its word parameters are declared with the arguments, its array parameters are the
-- caller's arrays.
use Rattle.std.specs.Prelude.{ℕ, ◌+◌, false, List, [], ◌∷◌, ◌++◌, length, map, Option, None, Some, unwrap_or}
use Rattle.std.specs.Prelude.{if◌then◌else◌}
use Rattle.std.specs.Option.{option_map}
use Rattle.inline.specs.Below.{array, assignment, binary, BlockTree, Boolean, call, called, computed, conditional}
use Rattle.inline.specs.Below.{convert, declaration, element, element_assignment, ExprTree, extents_of, first, found}
use Rattle.inline.specs.Below.{is_word, joined, Kind, Known, known_of, Label, labelled, loop, name, nodes_of, nothing}
use Rattle.inline.specs.Below.{number, operation_kind, operation_of, ParameterTree, Place, place_of, prefix}
use Rattle.inline.specs.Below.{ProcedureTree}
use Rattle.inline.specs.Below.{Profile, Public, ReturnTree, RightTree, rotate, select, StatementTree, truth, width_of}
use Rattle.inline.specs.Below.{WordType, written}
use Rattle.language.specs.names.Scope.{declared}
use Rattle.inline.specs.declared.flat.FlatVariable.{FlatVariable}
use Rattle.inline.specs.declared.flat.Stretch.{Stretch}
use Rattle.inline.specs.Flat.{TermTree, FlatTree, FlatBlock, FlatProgram, chain, word_as, array_as, declaration_of}
use Rattle.inline.specs.Flat.{numbers_in, counter_type, length_of}
use Rattle.inline.specs.Flat as flat
use Rattle.inline.specs.declared.numbering.Numbered.{Numbered}
pub use Rattle.language.specs.Signature.{param_of}

-- the names in scope, each with its number and what it is declared as
abbrev pub Numbers : Type 0
Numbers = List (List ℕ × Numbered)

-- what a name stands for
abbrev pub numbered : Numbers → List ℕ → Numbered
numbered names text = unwrap_or (found names text) (record { number = 0; declaration = word_as counter_type false })

abbrev pub number_of : Numbers → List ℕ → ℕ
number_of names text = (numbered names text).number

abbrev pub size_of : Numbers → List ℕ → ℕ
size_of names text = numbers_in (numbered names text).declaration.elements

abbrev pub kind_of : Numbers → List ℕ → Kind
kind_of names text = (numbered names text).declaration.word.kind

-- the kind of an expression that is well typed
abbrev pub kind_in : Numbers → ExprTree → Kind
kind_in names (number place value kind) = kind
kind_in names (truth place value) = Boolean
kind_in names (name place text) = kind_of names text
kind_in names (prefix place operator operand) = kind_in names operand
kind_in names (binary place operator left right) = operation_kind (operation_of operator) (kind_in names left)
kind_in names (rotate place operand amount) = kind_in names operand
kind_in names (convert place kind operand) = kind
kind_in names (select place condition accepted otherwise) = kind_in names accepted
kind_in names (element place target text index) = kind_of names text

-- the label of an expression that is well typed: secret where one of its operands is
abbrev pub label_of : Numbers → List ℕ → Label
label_of names text = (numbered names text).declaration.word.label

abbrev pub label_in : Numbers → ExprTree → Label
label_in names (number place value kind) = Public
label_in names (truth place value) = Public
label_in names (name place text) = label_of names text
label_in names (prefix place operator operand) = label_in names operand
label_in names (binary place operator left right) = joined (label_in names left) (label_in names right)
label_in names (rotate place operand amount) = label_in names operand
label_in names (convert place kind operand) = label_in names operand
label_in names (select place condition accepted otherwise) =
    joined (label_in names condition) (joined (label_in names accepted) (label_in names otherwise))
label_in names (element place target text index) = label_of names text

abbrev pub term : Numbers → ExprTree → TermTree
term names (number place value kind) = flat.number value kind
term names (truth place value) = flat.truth value
term names (name place text) = flat.variable (number_of names text)
term names (prefix place operator operand) =
    flat.prefix operator (width_of (kind_in names operand)) (term names operand)
term names (binary place operator left right) = flat.binary place operator (width_of (kind_in names left))
    (term names left) (term names right)
term names (rotate place operand amount) = flat.rotate (width_of (kind_in names operand)) (term names operand) amount
term names (convert place kind operand) = flat.convert kind (term names operand)
term names (select place condition accepted otherwise) =
    flat.select (term names condition) (term names accepted) (term names otherwise)
term names (element place target text index) =
    flat.element place (number_of names text) (size_of names text) (term names index)

-- a name that is declared at a number
abbrev pub naming : Numbers → List ℕ → ℕ → FlatVariable → Numbers
naming names text n what = declared names text (record { number = n; declaration = what })

-- a block of one statement
abbrev pub single : FlatTree → FlatBlock
single s = flat.first s flat.nothing

-- Calls.

-- a procedure that may be called: its parameters and the type of its result, what its body declares, and its body and
-- its result for the numbers of its parameters' names, where the next number is the given one
pub record Callable : Type 0 where
  pub parameters : List ParameterTree
  pub result : Option WordType
  pub declared : List FlatVariable
  pub body : Numbers → ℕ → FlatBlock
  pub value : Numbers → ℕ → Option TermTree

abbrev pub Callables : Type 0
Callables = Known Callable

-- a parameter as a variable
abbrev pub own_variable : ParameterTree → FlatVariable
own_variable p = declaration_of (param_of p)

-- the variables that word parameters become
abbrev pub passed_variables : List ParameterTree → List ExprTree → List FlatVariable
passed_variables [] es = []
passed_variables (p ∷ ps) [] = []
passed_variables (p ∷ ps) (e ∷ es) = if is_word p.form then own_variable p ∷ passed_variables ps es
    else passed_variables ps es

-- word arguments, each put into a variable: the first has the number n
abbrev pub passed : Numbers → ℕ → List ParameterTree → List ExprTree → FlatBlock
passed names n [] es = flat.nothing
passed names n (p ∷ ps) [] = flat.nothing
passed names n (p ∷ ps) (e ∷ es) =
    if is_word p.form then flat.first (flat.declare n (labelled p.kind p.label) false (term names e))
    (passed names (n + 1) ps es)
    else passed names n ps es

-- the number of the array that an argument names
abbrev pub number_given : Numbers → ExprTree → ℕ
number_given names (name place text) = number_of names text
number_given names e = 0

-- the names of a called body: words have the numbers from n on, an array has that of the argument
abbrev pub begun : Numbers → Numbers → ℕ → List ParameterTree → List ExprTree → Numbers
begun names own n [] es = own
begun names own n (p ∷ ps) [] = own
begun names own n (p ∷ ps) (e ∷ es) =
    if is_word p.form then begun names (naming own p.name n (own_variable p)) (n + 1) ps es
    else begun names (naming own p.name (number_given names e) (own_variable p)) n ps es

-- what a call declares: its word parameters, and what the called body declares
abbrev pub call_variables : Option Callable → List ExprTree → List FlatVariable
call_variables None es = []
call_variables (Some c) es = passed_variables c.parameters es ++ c.declared

-- where the called body begins: its parameters' names, and the next number
abbrev pub call_names : Numbers → ℕ → Callable → List ExprTree → Numbers
call_names names n c es = begun names [] n c.parameters es

abbrev pub call_start : ℕ → Callable → List ExprTree → ℕ
call_start n c es = n + length (passed_variables c.parameters es)

-- a call without its own node: the words passed, and the called body
abbrev pub call_block : Option Callable → Numbers → ℕ → List ExprTree → FlatBlock
call_block None names n es = flat.nothing
call_block (Some c) names n es =
    chain (passed names n c.parameters es) (c.body (call_names names n c es) (call_start n c es))

-- what it gives, in the names at its end
abbrev pub call_value : Option Callable → Numbers → ℕ → List ExprTree → Option TermTree
call_value None names n es = None
call_value (Some c) names n es = c.value (call_names names n c es) (call_start n c es)

abbrev pub value_given : Option TermTree → TermTree
value_given (Some value) = value
value_given None = flat.truth false

-- the type of what it gives
abbrev pub call_result : Option Callable → Option WordType
call_result None = None
call_result (Some c) = c.result

-- Right sides.

-- what stands before a right side is known: a call's own node, the call, and the node of the called body's `return`
abbrev pub right_block : Callables → Numbers → ℕ → RightTree → FlatBlock
right_block known names n (computed e) = flat.nothing
right_block known names n (called c) =
    flat.first flat.skip (chain (call_block (known c.name) names n c.arguments) (single flat.skip))

abbrev pub right_variables : Callables → RightTree → List FlatVariable
right_variables known (computed e) = []
right_variables known (called c) = call_variables (known c.name) c.arguments

abbrev pub right : Callables → Numbers → ℕ → RightTree → TermTree
right known names n (computed e) = term names e
right known names n (called c) = value_given (call_value (known c.name) names n c.arguments)

-- the number behind a right side
abbrev pub right_end : Callables → ℕ → RightTree → ℕ
right_end known n value = n + length (right_variables known value)

-- Statements.

-- an assignment to an element: an index is held where a call stands behind it, since the call may change what it was
-- made of.
-- The nodes of the call and of the called body's `return` are those of the element that is assigned to then.
abbrev pub element_block : Callables → Numbers → ℕ → Place → List ℕ → ExprTree → RightTree → FlatBlock
element_block known names n bracket text index (computed e) =
    single (flat.put bracket (number_of names text) (size_of names text) (term names index) (term names e))
element_block known names n bracket text index (called c) =
    flat.first (flat.hold n bracket (size_of names text) (term names index))
    (chain (call_block (known c.name) names (n + 1) c.arguments)
    (single (flat.put bracket (number_of names text) (size_of names text) (flat.variable n)
    (value_given (call_value (known c.name) names (n + 1) c.arguments)))))

abbrev pub element_variables : Callables → RightTree → List FlatVariable
element_variables known (computed e) = []
element_variables known (called c) = word_as counter_type false ∷ call_variables (known c.name) c.arguments

-- a result that nothing takes is held in a variable
abbrev pub dropped_block : ℕ → Option WordType → Option TermTree → FlatBlock
dropped_block n None value = flat.nothing
dropped_block n (Some word) value = single (flat.declare n word false (value_given value))

abbrev pub dropped_variables : Option WordType → List FlatVariable
dropped_variables None = []
dropped_variables (Some word) = word_as word false ∷ []

abbrev mutual
  -- what a statement declares, in the order of its flat form
  pub declared_in : Callables → StatementTree → List FlatVariable
  declared_in known (declaration place label mutable kind text value) =
      right_variables known value ++ word_as (labelled kind label) mutable ∷ []
  declared_in known (array place label mutable kind size text values) =
      array_as (labelled kind label) mutable size ∷ []
  declared_in known (assignment place target text value) = right_variables known value
  declared_in known (element_assignment place bracket target text index value) = element_variables known value
  declared_in known (call c) = call_variables (known c.name) c.arguments
      ++ dropped_variables (call_result (known c.name))
  declared_in known (conditional place condition accepted otherwise) =
      declared_in_all known accepted ++ declared_in_all known otherwise
  declared_in known (loop place counter text low high body) = word_as counter_type false ∷ declared_in_all known body

  pub declared_in_all : Callables → BlockTree → List FlatVariable
  declared_in_all known nothing = []
  declared_in_all known (first s rest) = declared_in known s ++ declared_in_all known rest

-- how many numbers a statement takes
abbrev pub numbers_taken : Callables → StatementTree → ℕ
numbers_taken known s = length (declared_in known s)

abbrev pub numbers_taken_all : Callables → BlockTree → ℕ
numbers_taken_all known b = length (declared_in_all known b)

-- the names after a statement, where the next number is n: those of an arm, a loop or a called body are its own
abbrev pub names_after : Callables → Numbers → ℕ → StatementTree → Numbers
names_after known names n (declaration place label mutable kind text value) =
    naming names text (right_end known n value) (word_as (labelled kind label) mutable)
names_after known names n (array place label mutable kind size text values) =
    naming names text n (array_as (labelled kind label) mutable size)
names_after known names n (assignment place target text value) = names
names_after known names n (element_assignment place bracket target text index value) = names
names_after known names n (call c) = names
names_after known names n (conditional place condition accepted otherwise) = names
names_after known names n (loop place counter text low high body) = names

abbrev mutual
  -- the flat form of a statement, whose first declaration gets the number n
  pub statement : Callables → Numbers → ℕ → StatementTree → FlatBlock
  statement known names n (declaration place label mutable kind text value) =
      chain (right_block known names n value)
      (single (flat.declare (right_end known n value) (labelled kind label) mutable (right known names n value)))
  statement known names n (array place label mutable kind size text values) =
      single (flat.array n (labelled kind label) mutable size (map (term names) (written values)))
  statement known names n (assignment place target text value) =
      chain (right_block known names n value)
      (single (flat.assign (number_of names text) (right known names n value)))
  statement known names n (element_assignment place bracket target text index value) =
      element_block known names n bracket text index value
  statement known names n (call c) =
      flat.first flat.skip (chain (call_block (known c.name) names n c.arguments)
      (dropped_block (n + length (call_variables (known c.name) c.arguments)) (call_result (known c.name))
      (call_value (known c.name) names n c.arguments)))
  statement known names n (conditional place condition accepted otherwise) =
      single (flat.branch (label_in names condition) (term names condition) (block known names n accepted)
      (block known names (n + numbers_taken_all known accepted) otherwise))
  statement known names n (loop place counter text low high body) =
      single (flat.loop n (term names low) (term names high)
      (block known (naming names text n (word_as counter_type false)) (n + 1) body))

  pub block : Callables → Numbers → ℕ → BlockTree → FlatBlock
  block known names n nothing = flat.nothing
  block known names n (first s rest) = chain (statement known names n s)
      (block known (names_after known names n s) (n + numbers_taken known s) rest)

-- how many statements each statement of a body becomes, those inside others aside
abbrev pub stretches : Callables → Numbers → ℕ → BlockTree → List Stretch
stretches known names n nothing = []
stretches known names n (first s rest) =
    record { place = place_of s; statements = length_of (statement known names n s) }
    ∷ stretches known (names_after known names n s) (n + numbers_taken known s) rest

-- the names after some statements
abbrev pub names_after_all : Callables → Numbers → ℕ → BlockTree → Numbers
names_after_all known names n nothing = names
names_after_all known names n (first s rest) =
    names_after_all known (names_after known names n s) (n + numbers_taken known s) rest

-- Procedures.

-- a result in the names where `return` stands
abbrev pub value_of : Numbers → Option ReturnTree → Option TermTree
value_of names returned = option_map (λ (r : ReturnTree). term names r.value) returned

-- where a result stands
abbrev pub return_place : Option ReturnTree → Option Place
return_place returned = option_map (λ (r : ReturnTree). r.place) returned

-- a procedure that may be called, and calls the earlier ones itself
abbrev pub callable : Callables → ProcedureTree → Callable
callable known p = record {
  parameters = p.parameters;
  result = p.result;
  declared = declared_in_all known p.body;
  body = λ names n. block known names n p.body;
  value = λ names n. value_of (names_after_all known names n p.body) p.returned;
}

-- the procedures that may be called behind these
abbrev pub callables : List ProcedureTree → Callables
callables before = known_of callable before

-- the parameters' numbers, the first being n
abbrev pub with_parameters : Numbers → ℕ → List ParameterTree → Numbers
with_parameters names n [] = names
with_parameters names n (p ∷ ps) = with_parameters (naming names p.name n (own_variable p)) (n + 1) ps

-- where the body begins
abbrev pub parameter_names : ProcedureTree → Numbers
parameter_names p = with_parameters [] 0 p.parameters

-- where `return` stands
abbrev pub return_names : Callables → ProcedureTree → Numbers
return_names known p = names_after_all known (parameter_names p) (length p.parameters) p.body

-- a procedure behind those that it may call, as one body with numbered variables
abbrev pub flattened : Profile → List ProcedureTree → ProcedureTree → FlatProgram
flattened profile before p = record {
  profile = profile;
  place = p.place;
  parameters = map param_of p.parameters;
  returned = p.result;
  nodes = nodes_of (extents_of before) p;
  declared = map declaration_of (map param_of p.parameters) ++ declared_in_all (callables before) p.body;
  body = block (callables before) (parameter_names p) (length p.parameters) p.body;
  stretches = stretches (callables before) (parameter_names p) (length p.parameters) p.body;
  value = value_of (return_names (callables before) p) p.returned;
  return_place = return_place p.returned;
}
