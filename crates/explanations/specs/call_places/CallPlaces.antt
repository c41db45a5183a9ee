-- In which procedure a place is, and where that procedure is called.
use Rattle.std.specs.Prelude.{ℕ, nat_le, List, [], ◌∷◌, ◌++◌, Option, None, Some, if◌then◌else◌}
use Rattle.std.specs.Option.{option_or}
use Rattle.std.specs.Str.{bytes_eq}
use Rattle.explanations.specs.Below.{array, assignment, BlockTree, call, called, CallTree, computed, conditional}
use Rattle.explanations.specs.Below.{declaration, element_assignment, first, loop, nothing, Place, ProcedureTree}
use Rattle.explanations.specs.Below.{RightTree, StatementTree}

-- the last procedure whose name stands behind so many bytes or fewer
abbrev pub procedure_at : ℕ → List ProcedureTree → Option ProcedureTree
procedure_at at [] = None
procedure_at at (p ∷ ps) = option_or (procedure_at at ps) (if nat_le p.place.offset at then Some p else None)

-- the place of a call, where it is of this name
abbrev pub calls_at : List ℕ → CallTree → List Place
calls_at name c = if bytes_eq c.name name then c.place ∷ [] else []

abbrev pub calls_in_right : List ℕ → RightTree → List Place
calls_in_right name (called c) = calls_at name c
calls_in_right name (computed e) = []

abbrev mutual
  -- the places of the calls of a name in a statement
  pub calls_in : List ℕ → StatementTree → List Place
  calls_in name (declaration place label mutable kind text right) = calls_in_right name right
  calls_in name (array place label mutable kind length text values) = []
  calls_in name (assignment place target text right) = calls_in_right name right
  calls_in name (element_assignment place bracket target text index right) = calls_in_right name right
  calls_in name (call c) = calls_at name c
  calls_in name (conditional place condition accepted otherwise) =
      calls_in_all name accepted ++ calls_in_all name otherwise
  calls_in name (loop place counter text low high body) = calls_in_all name body

  pub calls_in_all : List ℕ → BlockTree → List Place
  calls_in_all name nothing = []
  calls_in_all name (first statement rest) = calls_in name statement ++ calls_in_all name rest

-- in a program
abbrev pub call_places : List ℕ → List ProcedureTree → List Place
call_places name [] = []
call_places name (p ∷ ps) = calls_in_all name p.body ++ call_places name ps
