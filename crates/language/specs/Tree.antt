-- Syntax trees as values, without where they lie in memory.
use Rattle.std.specs.Prelude.{ℕ, Bool, List, [], ◌∷◌, Option, None, Some, map}
use Rattle.std.specs.Option.{option_map}
use Rattle.word.specs.declared.place.Place.{Place}
use Rattle.language.specs.declared.signature.Form.{Form}
use Rattle.language.specs.declared.signature.Kind.{Kind}
use Rattle.language.specs.declared.signature.Label.{Label}
use Rattle.language.specs.declared.typing.WordType.{WordType}
use Rattle.language.specs.declared.operators.BinaryOperator.{BinaryOperator}
use Rattle.language.specs.declared.operators.PrefixOperator.{PrefixOperator}
use Rattle.language.specs.declared.tree.Expr.{Expr, Number, Truth, Name, Prefix', Binary', Rotate', Convert', Select'}
use Rattle.language.specs.declared.tree.Expr.{Element'}
use Rattle.language.specs.declared.tree.Call.{Call}
use Rattle.language.specs.declared.tree.RightSide.{RightSide}
use Rattle.language.specs.declared.tree.RightSide.TheVariants.{Value, Call as OfCall}
use Rattle.language.specs.declared.tree.Parameter.{Parameter}
use Rattle.language.specs.declared.tree.Return.{Return}
use Rattle.language.specs.declared.tree.Statement.{Statement, Declare, DeclareArray, Assign, AssignElement}
use Rattle.language.specs.declared.tree.Statement.{Call as CallStatement, If', For', Row_of-Statement}
use Rattle.language.specs.declared.tree.Statement.{end_of-Statement, more_of-Statement}
use Rattle.language.specs.declared.tree.Procedure.{Procedure}

-- an expression; each has the place of its head token
pub data ExprTree : Type 0 where
  number : (place : Place) (value : ℕ) (kind : Kind) → ExprTree
  truth : (place : Place) (value : Bool) → ExprTree
  name : (place : Place) (text : List ℕ) → ExprTree
  prefix : (place : Place) (operator : PrefixOperator) (operand : ExprTree) → ExprTree
  binary : (place : Place) (operator : BinaryOperator) (left right : ExprTree) → ExprTree
  rotate : (place : Place) (operand : ExprTree) (amount : ℕ) → ExprTree
  convert : (place : Place) (kind : Kind) (operand : ExprTree) → ExprTree
  select : (place : Place) (condition accepted otherwise : ExprTree) → ExprTree
  -- the place of `[`, and the array's name and its place
  element : (place target : Place) (text : List ℕ) (index : ExprTree) → ExprTree

-- a call, at the procedure's name
pub record CallTree : Type 0 where
  pub place : Place
  pub name : List ℕ
  pub arguments : List ExprTree

-- what a declaration or an assignment gives its target
pub data RightTree : Type 0 where
  called : (call : CallTree) → RightTree
  computed : (expr : ExprTree) → RightTree

mutual
  -- a statement: a declaration has the place of its name, an assignment that of `=`, a call that of the procedure's
  -- name, a conditional that of `if`, a loop that of `for`
  pub data StatementTree : Type 0 where
    declaration : (place : Place) (label : Label) (mutable : Bool) (kind : Kind) (text : List ℕ) (right : RightTree)
        → StatementTree
    array : (place : Place) (label : Label) (mutable : Bool) (kind : Kind) (length : ℕ) (text : List ℕ)
        (values : Option (List ExprTree)) → StatementTree
    assignment : (place target : Place) (text : List ℕ) (right : RightTree) → StatementTree
    -- the place of `=`, that of `[`, and the array's name and its place
    element_assignment : (place bracket target : Place) (text : List ℕ) (index : ExprTree) (right : RightTree)
        → StatementTree
    call : (call : CallTree) → StatementTree
    conditional : (place : Place) (condition : ExprTree) (accepted otherwise : BlockTree) → StatementTree
    -- a loop: its counter's place and name, the first number that the counter is, and the first that it is no longer
    loop : (place counter : Place) (text : List ℕ) (low high : ExprTree) (body : BlockTree) → StatementTree

  -- statements in their order
  pub data BlockTree : Type 0 where
    nothing : BlockTree
    first : (statement : StatementTree) (rest : BlockTree) → BlockTree

-- where a statement stands
abbrev pub place_of : StatementTree → Place
place_of (declaration place label mutable kind text right) = place
place_of (array place label mutable kind length text values) = place
place_of (assignment place target text right) = place
place_of (element_assignment place bracket target text index right) = place
place_of (call c) = c.place
place_of (conditional place condition accepted otherwise) = place
place_of (loop place counter text low high body) = place

-- the first values of an array, where they are written
abbrev pub written : Option (List ExprTree) → List ExprTree
written None = []
written (Some values) = values

pub record ParameterTree : Type 0 where
  pub label : Label
  pub kind : Kind
  pub form : Form
  pub length : ℕ
  pub place : Place
  pub name : List ℕ

pub record ReturnTree : Type 0 where
  pub place : Place
  pub value : ExprTree

pub record ProcedureTree : Type 0 where
  -- the place of the word `export`, where it stands
  pub export : Option Place
  -- the type of its result, where it has one
  pub result : Option WordType
  pub place : Place
  pub name : List ℕ
  pub parameters : List ParameterTree
  pub body : BlockTree
  pub returned : Option ReturnTree

pub record ProgramTree : Type 0 where
  pub procedures : List ProcedureTree

abbrev pub expr_tree : Expr → ExprTree
expr_tree (Number place value kind) = number place value kind
expr_tree (Truth place value) = truth place value
expr_tree (Name place text) = name place text
expr_tree (Prefix' place operator p operand) = prefix place operator (expr_tree operand)
expr_tree (Binary' place operator p left q right) = binary place operator (expr_tree left) (expr_tree right)
expr_tree (Rotate' place p operand amount) = rotate place (expr_tree operand) amount
expr_tree (Convert' place kind p operand) = convert place kind (expr_tree operand)
expr_tree (Select' place p condition q accepted r otherwise) =
    select place (expr_tree condition) (expr_tree accepted) (expr_tree otherwise)
expr_tree (Element' place target text p index) = element place target text (expr_tree index)

abbrev pub call_tree : Call → CallTree
call_tree c = record { place = c.place; name = c.name; arguments = map expr_tree c.arguments.items }

abbrev pub right_tree : RightSide → RightTree
right_tree (OfCall c) = called (call_tree c)
right_tree (Value e) = computed (expr_tree e)

abbrev mutual
  pub statement_tree : Statement → StatementTree
  statement_tree (Declare d) = declaration d.place d.label d.mutable d.kind d.name (right_tree d.value)
  statement_tree (DeclareArray d) =
      array d.place d.label d.mutable d.kind d.length d.name
      (option_map (λ values. map expr_tree values.items) d.values)
  statement_tree (Assign a) = assignment a.place a.target a.name (right_tree a.value)
  statement_tree (AssignElement a) =
      element_assignment a.place a.bracket a.target a.name (expr_tree a.index) (right_tree a.value)
  statement_tree (CallStatement c) = call (call_tree c)
  statement_tree (If' place condition shape accepted shape' otherwise) =
      conditional place (expr_tree condition) (row_tree accepted) (row_tree otherwise)
  statement_tree (For' place counter low high shape body) =
      loop place counter.place counter.name (expr_tree low) (expr_tree high) (row_tree body)

  -- the statements of an arm or a loop
  pub row_tree : {m : _} → Row_of-Statement m → BlockTree
  row_tree end_of-Statement = nothing
  row_tree (more_of-Statement statement rest) = first (statement_tree statement) (row_tree rest)

-- a list of statements
abbrev pub block_tree : List Statement → BlockTree
block_tree [] = nothing
block_tree (statement ∷ rest) = first (statement_tree statement) (block_tree rest)

abbrev pub parameter_tree : Parameter → ParameterTree
parameter_tree p = record {
  label = p.label;
  kind = p.kind;
  form = p.form;
  length = p.length;
  place = p.place;
  name = p.name;
}

abbrev pub return_tree : Return → ReturnTree
return_tree r = record { place = r.place; value = expr_tree r.value }

abbrev pub procedure_tree : Procedure → ProcedureTree
procedure_tree p = record {
  export = p.export;
  result = p.result;
  place = p.place;
  name = p.name;
  parameters = map parameter_tree p.parameters.items;
  body = block_tree p.body.items;
  returned = option_map return_tree p.returned;
}

abbrev pub program_tree : List Procedure → ProgramTree
program_tree procedures = record { procedures = map procedure_tree procedures }
