-- How large a program is, and the limits on it. What is counted is the exported procedure, with every call replaced
-- by the called body.
use Rattle.std.specs.Prelude.{ℕ, ◌+◌, ◌*◌, ◌/◌, ◌||◌, max, List, [], ◌∷◌, ◌++◌, map, Option, None, Some, nat_lt}
use Rattle.std.specs.Prelude.{if◌then◌else◌}
pub use Rattle.language.specs.Limits.{most_nodes, most_declared_bytes, most_bodies}
use Rattle.language.specs.declared.cost.Cost.{Cost}
use Rattle.language.specs.declared.rule.Rule.TheVariants.{InlinedSize, DeclaredBytes}
use Rattle.language.specs.declared.signature.Form.{Form}
use Rattle.language.specs.declared.signature.Form.TheVariants.{SingleWord, FixedArray, MutableArray}
use Rattle.language.specs.declared.signature.Kind.{Kind}
use Rattle.language.specs.declared.signature.Kind.TheVariants.{Boolean, Uint8, Uint16, Uint32}
use Rattle.language.specs.declared.typing.Violation.{Violation}
use Rattle.language.specs.declared.why.Counted.TheVariants as counted
use Rattle.language.specs.declared.why.Excess.{Excess}
use Rattle.language.specs.declared.why.Share.{Share}
use Rattle.language.specs.declared.why.Why.TheVariants.{TooMuch}
use Rattle.language.specs.Known.{Known, known_of}
use Rattle.language.specs.Meaning.{is_word, word_arguments}
use Rattle.language.specs.Shares.{cost_of, excess, statement_shares}
use Rattle.language.specs.Tree.{ExprTree, number, truth, name, prefix, binary, rotate, convert, select, element}
use Rattle.language.specs.Tree.{CallTree, RightTree, called, computed, StatementTree, declaration, array, assignment}
use Rattle.language.specs.Tree.{element_assignment, call, conditional, loop, BlockTree, nothing, first, ParameterTree}
use Rattle.language.specs.Tree.{ReturnTree, ProcedureTree, written}
use Rattle.language.specs.Types.{because, when}

-- how large a procedure is where it is called
pub record Extent : Type 0 where
  pub parameters : List ParameterTree
  -- the nodes of its body
  pub nodes : ℕ
  -- the words, of 4 bytes each, that its word parameters and its body declare
  pub words : ℕ
  -- how many bodies are open in it at once, its own among them
  pub bodies : ℕ

abbrev pub Extents : Type 0
Extents = Known Extent

-- the nodes of an expression
abbrev pub nodes_in : ExprTree → ℕ
nodes_in (number place value kind) = 1
nodes_in (truth place value) = 1
nodes_in (name place text) = 1
nodes_in (prefix place operator operand) = 1 + nodes_in operand
nodes_in (binary place operator left right) = 1 + nodes_in left + nodes_in right
nodes_in (rotate place operand amount) = 1 + nodes_in operand
nodes_in (convert place kind operand) = 1 + nodes_in operand
nodes_in (select place condition accepted otherwise) = 1 + nodes_in condition + nodes_in accepted + nodes_in otherwise
nodes_in (element place target text index) = 1 + nodes_in index

-- of the first values of an array
abbrev pub nodes_in_all : List ExprTree → ℕ
nodes_in_all [] = 0
nodes_in_all (e ∷ es) = nodes_in e + nodes_in_all es

-- of the arguments that are put into word parameters
abbrev pub nodes_passed : List ExprTree → ℕ
nodes_passed [] = 0
nodes_passed (e ∷ es) = 1 + nodes_in e + nodes_passed es

-- of a call: itself, its word arguments and the called body
abbrev pub called_nodes : Option Extent → CallTree → ℕ
called_nodes None c = 1
called_nodes (Some extent) c = 1 + nodes_passed (word_arguments extent.parameters c.arguments) + extent.nodes

abbrev pub call_nodes : Extents → CallTree → ℕ
call_nodes extents c = called_nodes (extents c.name) c

abbrev pub right_nodes : Extents → RightTree → ℕ
right_nodes extents (called c) = call_nodes extents c
right_nodes extents (computed e) = nodes_in e

abbrev mutual
  -- the nodes of a statement, itself among them
  pub statement_nodes : Extents → StatementTree → ℕ
  statement_nodes extents (declaration place label mutable kind text right) = 1 + right_nodes extents right
  statement_nodes extents (array place label mutable kind length text values) = 1 + nodes_in_all (written values)
  statement_nodes extents (assignment place target text right) = 1 + right_nodes extents right
  statement_nodes extents (element_assignment place bracket target text index right) =
      1 + (1 + nodes_in index) + right_nodes extents right
  statement_nodes extents (call c) = call_nodes extents c
  statement_nodes extents (conditional place condition accepted otherwise) =
      1 + nodes_in condition + block_nodes extents accepted + block_nodes extents otherwise
  statement_nodes extents (loop place counter text low high body) =
      1 + nodes_in low + nodes_in high + block_nodes extents body

  pub block_nodes : Extents → BlockTree → ℕ
  block_nodes extents nothing = 0
  block_nodes extents (first statement rest) = statement_nodes extents statement + block_nodes extents rest

-- `return`, where it stands, is a node
abbrev pub return_nodes : Option ReturnTree → ℕ
return_nodes None = 0
return_nodes (Some r) = 1 + nodes_in r.value

-- the nodes of a procedure
abbrev pub nodes_of : Extents → ProcedureTree → ℕ
nodes_of extents p = block_nodes extents p.body + return_nodes p.returned

-- the bytes of an element
abbrev pub element_bytes : Kind → ℕ
element_bytes Boolean = 1
element_bytes Uint8 = 1
element_bytes Uint16 = 2
element_bytes Uint32 = 4

-- how many words, of 4 bytes each, an array takes: the last may be taken in part
abbrev pub array_words : Kind → ℕ → ℕ
array_words kind length = (length * element_bytes kind + 3) / 4

-- the words that a called body declares
abbrev pub words_of_called : Option Extent → ℕ
words_of_called None = 0
words_of_called (Some extent) = extent.words

abbrev pub right_words : Extents → RightTree → ℕ
right_words extents (called c) = words_of_called (extents c.name)
right_words extents (computed e) = 0

abbrev mutual
  -- how many words a statement declares; a counter is one
  pub statement_words : Extents → StatementTree → ℕ
  statement_words extents (declaration place label mutable kind text right) = 1 + right_words extents right
  statement_words extents (array place label mutable kind length text values) = array_words kind length
  statement_words extents (assignment place target text right) = right_words extents right
  statement_words extents (element_assignment place bracket target text index right) = right_words extents right
  statement_words extents (call c) = words_of_called (extents c.name)
  statement_words extents (conditional place condition accepted otherwise) =
      block_words extents accepted + block_words extents otherwise
  statement_words extents (loop place counter text low high body) = 1 + block_words extents body

  pub block_words : Extents → BlockTree → ℕ
  block_words extents nothing = 0
  block_words extents (first statement rest) = statement_words extents statement + block_words extents rest

abbrev pub held_words : Form → Kind → ℕ → ℕ
held_words SingleWord kind length = 1
held_words FixedArray kind length = array_words kind length
held_words MutableArray kind length = array_words kind length

-- of the export's parameters
abbrev pub parameter_words : List ParameterTree → ℕ
parameter_words [] = 0
parameter_words (p ∷ ps) = held_words p.form p.kind p.length + parameter_words ps

-- of a called procedure's parameters: an array is the caller's own
abbrev pub passed_words : List ParameterTree → ℕ
passed_words [] = 0
passed_words (p ∷ ps) = (if is_word p.form then 1 else 0) + passed_words ps

-- the bytes of what a procedure declares: 4 for each word
abbrev pub declared_bytes : Extents → ProcedureTree → ℕ
declared_bytes extents p = 4 * (parameter_words p.parameters + block_words extents p.body)

-- how many bodies are open at once in a called one
abbrev pub bodies_of_called : Option Extent → ℕ
bodies_of_called None = 0
bodies_of_called (Some extent) = extent.bodies

abbrev pub right_bodies : Extents → RightTree → ℕ
right_bodies extents (called c) = bodies_of_called (extents c.name)
right_bodies extents (computed e) = 0

abbrev mutual
  -- how many bodies are open at once in a statement
  pub statement_bodies : Extents → StatementTree → ℕ
  statement_bodies extents (declaration place label mutable kind text right) = right_bodies extents right
  statement_bodies extents (array place label mutable kind length text values) = 0
  statement_bodies extents (assignment place target text right) = right_bodies extents right
  statement_bodies extents (element_assignment place bracket target text index right) = right_bodies extents right
  statement_bodies extents (call c) = bodies_of_called (extents c.name)
  statement_bodies extents (conditional place condition accepted otherwise) =
      max (block_bodies extents accepted) (block_bodies extents otherwise)
  statement_bodies extents (loop place counter text low high body) = block_bodies extents body

  pub block_bodies : Extents → BlockTree → ℕ
  block_bodies extents nothing = 0
  block_bodies extents (first statement rest) = max (statement_bodies extents statement) (block_bodies extents rest)

-- in a procedure: its own body, and those in it
abbrev pub bodies_of : Extents → ProcedureTree → ℕ
bodies_of extents p = 1 + block_bodies extents p.body

-- a procedure where it is called
abbrev pub extent_of : Extents → ProcedureTree → Extent
extent_of extents p = record {
  parameters = p.parameters;
  nodes = nodes_of extents p;
  words = passed_words p.parameters + block_words extents p.body;
  bodies = bodies_of extents p;
}

-- the procedures that may be called behind these
abbrev pub extents_of : List ProcedureTree → Extents
extents_of before = known_of extent_of before

-- the bytes that a statement declares
abbrev pub statement_bytes : Extents → StatementTree → ℕ
statement_bytes extents s = 4 * statement_words extents s

-- The parts of a procedure: its parameters, its statements and its `return`, each with what it has.

abbrev pub return_shares : Option ReturnTree → List Share
return_shares None = []
return_shares (Some r) = record { place = r.place; count = 1 + nodes_in r.value } ∷ []

abbrev pub parameter_share : ParameterTree → Share
parameter_share p = record { place = p.place; count = 4 * held_words p.form p.kind p.length }

abbrev pub node_shares : Extents → ProcedureTree → List Share
node_shares extents p = statement_shares (statement_nodes extents) p.body ++ return_shares p.returned

abbrev pub body_shares : Extents → ProcedureTree → List Share
body_shares extents p = statement_shares (statement_bodies extents) p.body

abbrev pub byte_shares : Extents → ProcedureTree → List Share
byte_shares extents p =
    map parameter_share p.parameters ++ statement_shares (statement_bytes extents) p.body

-- what is counted of a procedure, and the part that has most of it
abbrev pub nodes_cost : Extents → ProcedureTree → Cost
nodes_cost extents p = cost_of (nodes_of extents p) (node_shares extents p)

abbrev pub bodies_cost : Extents → ProcedureTree → Cost
bodies_cost extents p = cost_of (bodies_of extents p) (body_shares extents p)

abbrev pub bytes_cost : Extents → ProcedureTree → Cost
bytes_cost extents p = cost_of (declared_bytes extents p) (byte_shares extents p)

-- what there is too much of where the size is too large: the nodes, or where these are within their limit the bodies
abbrev pub size_excess : Extents → ProcedureTree → Excess
size_excess extents p =
    if nat_lt most_nodes (nodes_of extents p) then excess counted.Nodes (nodes_cost extents p)
    else excess counted.Bodies (bodies_cost extents p)

abbrev pub bytes_excess : Extents → ProcedureTree → Excess
bytes_excess extents p = excess counted.DeclaredBytes (bytes_cost extents p)

-- the limits that a procedure passes, at its name, with what there is too much of
abbrev pub limits_passed : Extents → ProcedureTree → List Violation
limits_passed extents p =
    because (TooMuch (size_excess extents p)) p.place
    (when (nat_lt most_nodes (nodes_of extents p) || nat_lt most_bodies (bodies_of extents p)) InlinedSize)
    ++ because (TooMuch (bytes_excess extents p)) p.place
    (when (nat_lt most_declared_bytes (declared_bytes extents p)) DeclaredBytes)

-- those that it passes behind the earlier ones
abbrev pub size_violations : List ProcedureTree → ProcedureTree → List Violation
size_violations before p = limits_passed (extents_of before) p
