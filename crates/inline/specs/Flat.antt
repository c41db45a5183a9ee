-- One body with numbered variables, as values, without where it lies in memory.
use Rattle.std.specs.Option.{option_map}
use Rattle.std.specs.Prelude.{ℕ, ◌+◌, Bool, List, [], ◌∷◌, map, Option, None, Some}
use Rattle.inline.specs.declared.flat.FlatVariable.{FlatVariable}
use Rattle.inline.specs.declared.flat.Term.{Term, Number, Truth, Variable, Prefix', Binary', Rotate', Convert'}
use Rattle.inline.specs.declared.flat.Term.{Select', Element'}
use Rattle.inline.specs.declared.flat.FlatStatement.{FlatStatement, Declare, DeclareArray, Assign, AssignElement}
use Rattle.inline.specs.declared.flat.FlatStatement.{Hold, Skip, Branch', Loop', Row_of-FlatStatement}
use Rattle.inline.specs.declared.flat.FlatStatement.{end_of-FlatStatement, more_of-FlatStatement}
use Rattle.inline.specs.declared.flat.Stretch.{Stretch}
use Rattle.inline.specs.Below.{BinaryOperator, FixedArray, Form, is_mutable, Kind, Label, MutableArray, Param, Place}
use Rattle.inline.specs.Below.{PrefixOperator, Profile, Public, SingleWord, Uint32, Width, WordType}

-- An expression; where the width of an operand decides what a node means, the node has it: the left operand's. A node
-- that may meet a fault has its place.
pub data TermTree : Type 0 where
  number : (value : ℕ) (kind : Kind) → TermTree
  truth : (value : Bool) → TermTree
  variable : (number : ℕ) → TermTree
  prefix : (operator : PrefixOperator) (width : Width) (operand : TermTree) → TermTree
  binary : (place : Place) (operator : BinaryOperator) (width : Width) (left right : TermTree) → TermTree
  rotate : (width : Width) (operand : TermTree) (amount : ℕ) → TermTree
  convert : (kind : Kind) (operand : TermTree) → TermTree
  select : (condition accepted otherwise : TermTree) → TermTree
  -- an element of an array of so many
  element : (place : Place) (array size : ℕ) (index : TermTree) → TermTree

mutual
  pub data FlatTree : Type 0 where
    declare : (variable : ℕ) (word : WordType) (mutable : Bool) (value : TermTree) → FlatTree
    -- an array of so many elements: its first values where some are written, else zeros
    array : (variable : ℕ) (word : WordType) (mutable : Bool) (size : ℕ) (values : List TermTree) → FlatTree
    assign : (variable : ℕ) (value : TermTree) → FlatTree
    -- an element of an array of so many is assigned to
    put : (place : Place) (variable size : ℕ) (index value : TermTree) → FlatTree
    -- an index is held in a variable until the element of an array of so many is assigned to
    hold : (variable : ℕ) (place : Place) (size : ℕ) (index : TermTree) → FlatTree
    -- nothing: a node of the source, such as a call's own, for which nothing is left to do
    skip : FlatTree
    -- a conditional, with the label of its condition
    branch : (label : Label) (condition : TermTree) (accepted otherwise : FlatBlock) → FlatTree
    -- a loop: the first number that its counter is, and the first that it is no longer
    loop : (counter : ℕ) (low high : TermTree) (body : FlatBlock) → FlatTree

  pub data FlatBlock : Type 0 where
    nothing : FlatBlock
    first : (statement : FlatTree) (rest : FlatBlock) → FlatBlock

-- a block, and another behind it
abbrev pub chain : FlatBlock → FlatBlock → FlatBlock
chain nothing next = next
chain (first statement rest) next = first statement (chain rest next)

-- how many statements a block has
abbrev pub length_of : FlatBlock → ℕ
length_of nothing = 0
length_of (first statement rest) = 1 + length_of rest

-- one word, declared
abbrev pub word_as : WordType → Bool → FlatVariable
word_as word mutable = record { word = word; mutable = mutable; elements = None }

-- an array of so many elements, declared
abbrev pub array_as : WordType → Bool → ℕ → FlatVariable
array_as word mutable size = record { word = word; mutable = mutable; elements = Some size }

-- how many numbers a variable holds
abbrev pub numbers_in : Option ℕ → ℕ
numbers_in None = 1
numbers_in (Some size) = size

-- how many elements a parameter of this form has, where it is an array
abbrev pub elements_by : Form → ℕ → Option ℕ
elements_by SingleWord length = None
elements_by FixedArray length = Some length
elements_by MutableArray length = Some length

-- a parameter is a variable
abbrev pub declaration_of : Param → FlatVariable
declaration_of p = record {
  word = record { kind = p.kind; label = p.label };
  mutable = is_mutable p.form;
  elements = elements_by p.form p.length;
}

-- a number that decides what is public, such as a counter or an index that is held
abbrev pub counter_type : WordType
counter_type = record { kind = Uint32; label = Public }

-- the export
pub record FlatProgram : Type 0 where
  -- for which observer it is
  pub profile : Profile
  -- where its name stands
  pub place : Place
  pub parameters : List Param
  -- the type of its result, where it has one
  pub returned : Option WordType
  -- how many nodes the source has
  pub nodes : ℕ
  -- its variables, each at its number: the parameters first, in their order, then what is declared, in the order of
  -- the text
  pub declared : List FlatVariable
  pub body : FlatBlock
  -- which of its statements each statement of the source became, those inside others aside
  pub stretches : List Stretch
  -- the result, where there is one
  pub value : Option TermTree
  -- where its `return` stands
  pub return_place : Option Place

abbrev pub term_tree : Term → TermTree
term_tree (Number value kind) = number value kind
term_tree (Truth value) = truth value
term_tree (Variable n) = variable n
term_tree (Prefix' operator width p operand) = prefix operator width (term_tree operand)
term_tree (Binary' place operator width p left q right) =
    binary place operator width (term_tree left) (term_tree right)
term_tree (Rotate' width p operand amount) = rotate width (term_tree operand) amount
term_tree (Convert' kind p operand) = convert kind (term_tree operand)
term_tree (Select' p condition q accepted r otherwise) =
    select (term_tree condition) (term_tree accepted) (term_tree otherwise)
term_tree (Element' place x size p index) = element place x size (term_tree index)

abbrev mutual
  pub flat_tree : FlatStatement → FlatTree
  flat_tree (Declare x word mutable value) = declare x word mutable (term_tree value)
  flat_tree (DeclareArray x word mutable size values) = array x word mutable size (map term_tree values.items)
  flat_tree (Assign x value) = assign x (term_tree value)
  flat_tree (AssignElement place x size index value) = put place x size (term_tree index) (term_tree value)
  flat_tree (Hold x place size index) = hold x place size (term_tree index)
  flat_tree Skip = skip
  flat_tree (Branch' label condition shape accepted shape' otherwise) =
      branch label (term_tree condition) (row_tree accepted) (row_tree otherwise)
  flat_tree (Loop' x low high shape body) = loop x (term_tree low) (term_tree high) (row_tree body)

  -- the statements of an arm or a loop
  pub row_tree : {m : _} → Row_of-FlatStatement m → FlatBlock
  row_tree end_of-FlatStatement = nothing
  row_tree (more_of-FlatStatement statement rest) = first (flat_tree statement) (row_tree rest)

-- a list of statements
abbrev pub flat_block : List FlatStatement → FlatBlock
flat_block [] = nothing
flat_block (statement ∷ rest) = first (flat_tree statement) (flat_block rest)

-- the program of parts that lie in memory
abbrev pub flat_program : Profile → Place → List Param → Option WordType → ℕ → List FlatVariable → List FlatStatement
    → List Stretch → Option Term → Option Place → FlatProgram
flat_program profile place parameters returned nodes declared body stretches value return_place = record {
  profile = profile;
  place = place;
  parameters = parameters;
  returned = returned;
  nodes = nodes;
  declared = declared;
  body = flat_block body;
  stretches = stretches;
  value = option_map term_tree value;
  return_place = return_place;
}
