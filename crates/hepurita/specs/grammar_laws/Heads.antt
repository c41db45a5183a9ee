-- The heads of a tree: the place of each node and, where a node names an array, a target or a counter, that name's
-- place. Each is given a weight, and the weights are summed.
use Rattle.std.specs.Prelude.{ℕ, ◌+◌, ◌-◌, ◌==◌, List, [], ◌∷◌, take, Option, Some, None, if◌then◌else◌}
use Rattle.hepurita.specs.Below.{array, assignment, binary, BlockTree, call, called, CallTree, computed, conditional}
use Rattle.hepurita.specs.Below.{convert, declaration, element, element_assignment, ExprTree, first, loop, name}
use Rattle.hepurita.specs.Below.{nothing, number, origin, ParameterTree, Place, place_after, prefix, ProcedureTree}
use Rattle.hepurita.specs.Below.{ProgramTree, ReturnTree, RightTree, rotate, select, StatementTree, truth}

-- two weights. 1 where the place is at the offset, else 0
abbrev pub here : ℕ → Place → ℕ
here n place = if place.offset == n then 1 else 0

-- how far its line and its column are from those that its offset decides
abbrev pub gap : ℕ → ℕ → ℕ
gap a b = (a - b) + (b - a)

abbrev pub astray : List ℕ → Place → ℕ
astray text place =
    gap place.line (place_after origin (take place.offset text)).line
    + gap place.column (place_after origin (take place.offset text)).column

abbrev pub in_expr : (Place → ℕ) → ExprTree → ℕ
in_expr w (number place value kind) = w place
in_expr w (truth place value) = w place
in_expr w (name place text) = w place
in_expr w (prefix place operator operand) = w place + in_expr w operand
in_expr w (binary place operator left right) = w place + in_expr w left + in_expr w right
in_expr w (rotate place operand amount) = w place + in_expr w operand
in_expr w (convert place kind operand) = w place + in_expr w operand
in_expr w (select place condition accepted otherwise) =
    w place + in_expr w condition + in_expr w accepted + in_expr w otherwise
in_expr w (element place target text index) = w place + w target + in_expr w index

abbrev pub in_exprs : (Place → ℕ) → List ExprTree → ℕ
in_exprs w [] = 0
in_exprs w (tree ∷ trees) = in_expr w tree + in_exprs w trees

abbrev pub in_values : (Place → ℕ) → Option (List ExprTree) → ℕ
in_values w None = 0
in_values w (Some trees) = in_exprs w trees

abbrev pub in_call : (Place → ℕ) → CallTree → ℕ
in_call w c = w c.place + in_exprs w c.arguments

abbrev pub in_right : (Place → ℕ) → RightTree → ℕ
in_right w (called c) = in_call w c
in_right w (computed tree) = in_expr w tree

abbrev mutual
  pub in_statement : (Place → ℕ) → StatementTree → ℕ
  in_statement w (declaration place label mutable kind text right) = w place + in_right w right
  in_statement w (array place label mutable kind length text values) = w place + in_values w values
  in_statement w (assignment place target text right) = w place + w target + in_right w right
  in_statement w (element_assignment place bracket target text index right) =
      w place + w bracket + w target + in_expr w index + in_right w right
  in_statement w (call c) = in_call w c
  in_statement w (conditional place condition accepted otherwise) =
      w place + in_expr w condition + in_block w accepted + in_block w otherwise
  in_statement w (loop place counter text low high body) =
      w place + w counter + in_expr w low + in_expr w high + in_block w body

  pub in_block : (Place → ℕ) → BlockTree → ℕ
  in_block w nothing = 0
  in_block w (first statement rest) = in_statement w statement + in_block w rest

abbrev pub in_parameters : (Place → ℕ) → List ParameterTree → ℕ
in_parameters w [] = 0
in_parameters w (p ∷ ps) = w p.place + in_parameters w ps

abbrev pub in_return : (Place → ℕ) → Option ReturnTree → ℕ
in_return w None = 0
in_return w (Some r) = w r.place + in_expr w r.value

abbrev pub in_export : (Place → ℕ) → Option Place → ℕ
in_export w None = 0
in_export w (Some place) = w place

abbrev pub in_procedure : (Place → ℕ) → ProcedureTree → ℕ
in_procedure w p = in_export w p.export + w p.place + in_parameters w p.parameters + in_block w p.body
    + in_return w p.returned

abbrev pub in_procedures : (Place → ℕ) → List ProcedureTree → ℕ
in_procedures w [] = 0
in_procedures w (p ∷ ps) = in_procedure w p + in_procedures w ps

abbrev pub in_program : (Place → ℕ) → ProgramTree → ℕ
in_program w program = in_procedures w program.procedures
