-- Work, as a sum over the source: how many nodes a run evaluates at most. Each node counts 1 and its parts, but a
-- loop counts its body once for each iteration that the intervals of its bounds allow, and once more; an array counts
-- its elements too; and a call counts the words that it passes and the called body, there where it stands.
use Rattle.std.specs.Prelude.{ℕ, ◌+◌, ◌*◌, false, nat_lt, List, [], ◌∷◌, ◌++◌, length, map, replicate, Option, None}
use Rattle.std.specs.Prelude.{Some}
use Rattle.std.specs.Option.{option_map}
use Rattle.hepurita.specs.Below.{array, assignment, because, BlockTree, bound_of, Bounds, bounds_after_all, call}
use Rattle.hepurita.specs.Below.{call_names, call_start, Callable, callable, Callables, callables, called}
use Rattle.hepurita.specs.Below.{CallTree, computed, conditional, cost_of, declaration}
use Rattle.inline.specs.Flat.{counter_type}
use Rattle.hepurita.specs.Below.{declaration_of, declared_in_all, element_assignment, excess, ExprTree, first}
use Rattle.hepurita.specs.Below.{FlatVariable, in_loop, interval, Known, known_of, label_in, loop, most_iterations}
use Rattle.hepurita.specs.Below.{most_work, names_after, naming, nodes_in, nodes_in_all, nodes_passed, nothing}
use Rattle.hepurita.specs.Below.{Numbers, numbers_taken, numbers_taken_all, param_of, parameter_names, passed}
use Rattle.hepurita.specs.Below.{place_of, ProcedureTree, return_nodes, return_shares, RightTree, Share, statement}
use Rattle.hepurita.specs.Below.{StatementTree, term, TooMuch, TooMuchWork, Violation, when, where_false}
use Rattle.hepurita.specs.Below.{where_true, with_bound, word_arguments, word_as, Work, written}
use Rattle.language.specs.declared.cost.Cost.{Cost}
use Rattle.language.specs.declared.why.Excess.{Excess}

-- Where a statement stands: what number each name in scope has, which is the next number, and between which numbers
-- the variables lie there.
pub record Here : Type 0 where
  pub names : Numbers
  pub next : ℕ
  pub bounds : Bounds

abbrev pub here : Numbers → ℕ → Bounds → Here
here names next bounds = record { names = names; next = next; bounds = bounds }

-- a procedure that may be called: how its names are numbered, and its work where its body begins
pub record Worked : Type 0 where
  pub own : Callable
  pub work : Here → ℕ

abbrev pub Works : Type 0
Works = Known Worked

-- how the names of all of them are numbered
abbrev pub numberings : Works → Callables
numberings works text = option_map (λ (w : Worked). w.own) (works text)

-- The variables are declared so.
module _ (declared : List FlatVariable) where
  -- where a called body begins: its parameters lie where the arguments do
  abbrev pub entered : Callable → Here → List ExprTree → Here
  entered c at es =
      here (call_names at.names at.next c es) (call_start at.next c es)
      (bounds_after_all declared at.bounds (passed at.names at.next c.parameters es))

  -- a call: itself, its word arguments and the called body
  abbrev pub called_work : Option Worked → Here → CallTree → ℕ
  called_work None at c = 1
  called_work (Some w) at c = 1 + nodes_passed (word_arguments w.own.parameters c.arguments)
      + w.work (entered w.own at c.arguments)

  abbrev pub right_work : Works → Here → RightTree → ℕ
  right_work works at (called c) = called_work (works c.name) at c
  right_work works at (computed e) = nodes_in e

  -- where the right side of an assignment to an element stands: before a call the index is held
  abbrev pub behind_index : Here → ExprTree → RightTree → Here
  behind_index at index (called c) =
      here at.names (at.next + 1) (with_bound at.bounds at.next (interval declared at.bounds (term at.names index)))
  behind_index at index (computed e) = at

  -- where the next statement stands
  abbrev pub behind : Works → Here → StatementTree → Here
  behind works at s =
      here (names_after (numberings works) at.names at.next s) (at.next + numbers_taken (numberings works) s)
      (bounds_after_all declared at.bounds (statement (numberings works) at.names at.next s))

  -- the iterations of a loop: as many as the intervals of its bounds allow
  abbrev pub iterations : Here → ExprTree → ExprTree → ℕ
  iterations at low high = most_iterations (interval declared at.bounds (term at.names low))
      (interval declared at.bounds (term at.names high))

  -- where the arms of a conditional and the body of a loop begin
  abbrev pub in_accepted : Here → ExprTree → Here
  in_accepted at condition =
      here at.names at.next (where_true declared at.bounds (label_in at.names condition) (term at.names condition))

  abbrev pub in_otherwise : Works → Here → ExprTree → BlockTree → Here
  in_otherwise works at condition accepted =
      here at.names (at.next + numbers_taken_all (numberings works) accepted)
      (where_false declared at.bounds (label_in at.names condition) (term at.names condition))

  abbrev pub in_iteration : Here → List ℕ → ExprTree → ExprTree → Here
  in_iteration at text low high =
      here (naming at.names text at.next (word_as counter_type false)) (at.next + 1)
      (in_loop declared at.bounds at.next (term at.names low) (term at.names high))

  abbrev mutual
    -- the work of a statement
    pub statement_work : Works → Here → StatementTree → ℕ
    statement_work works at (declaration place label mutable kind text right) = 1 + right_work works at right
    statement_work works at (array place label mutable kind size text values) =
        1 + size + nodes_in_all (written values)
    statement_work works at (assignment place target text right) = 1 + right_work works at right
    statement_work works at (element_assignment place bracket target text index right) =
        1 + (1 + nodes_in index) + right_work works (behind_index at index right) right
    statement_work works at (call c) = called_work (works c.name) at c
    statement_work works at (conditional place condition accepted otherwise) =
        1 + nodes_in condition + block_work works (in_accepted at condition) accepted
        + block_work works (in_otherwise works at condition accepted) otherwise
    statement_work works at (loop place counter text low high body) =
        nodes_in low + nodes_in high + (iterations at low high + 1)
        * (1 + block_work works (in_iteration at text low high) body)

    pub block_work : Works → Here → BlockTree → ℕ
    block_work works at nothing = 0
    block_work works at (first s rest) = statement_work works at s + block_work works (behind works at s) rest

  -- the statements of a body, those inside others aside, each with its work
  abbrev pub statement_shares : Works → Here → BlockTree → List Share
  statement_shares works at nothing = []
  statement_shares works at (first s rest) =
      record { place = place_of s; count = statement_work works at s }
      ∷ statement_shares works (behind works at s) rest

  -- the work of a procedure's body and of its `return`
  abbrev pub work_in : Works → Here → ProcedureTree → ℕ
  work_in works at p = block_work works at p.body + return_nodes p.returned

  abbrev pub worked : Works → ProcedureTree → Worked
  worked works p = record { own = callable (numberings works) p; work = λ at. work_in works at p }

  -- the procedures that may be called behind these
  abbrev pub works_of : List ProcedureTree → Works
  works_of before = known_of worked before

-- the variables of the export: its parameters, and what is declared behind them
abbrev pub export_variables : List ProcedureTree → ProcedureTree → List FlatVariable
export_variables before p = map declaration_of (map param_of p.parameters)
    ++ declared_in_all (callables before) p.body

-- where the export's body begins: of its parameters, public words are anything of their kind
abbrev pub export_start : List ProcedureTree → ProcedureTree → Here
export_start before p =
    here (parameter_names p) (length p.parameters)
    (map bound_of (map param_of p.parameters) ++ replicate (length (declared_in_all (callables before) p.body)) None)

-- the work of the export behind the procedures that it may call
abbrev pub source_work : List ProcedureTree → ProcedureTree → ℕ
source_work before p = work_in (export_variables before p) (works_of (export_variables before p) before)
    (export_start before p) p

-- its parts, each with its work: its statements, with the bodies that they call and the iterations of their loops, and
-- its `return`
abbrev pub work_shares : List ProcedureTree → ProcedureTree → List Share
work_shares before p =
    statement_shares (export_variables before p) (works_of (export_variables before p) before)
    (export_start before p) p.body
    ++ return_shares p.returned

-- what is counted of its work, and the part that has most of it
abbrev pub work_cost : List ProcedureTree → ProcedureTree → Cost
work_cost before p = cost_of (source_work before p) (work_shares before p)

-- what there is too much of where the work is too much
abbrev pub work_excess : List ProcedureTree → ProcedureTree → Excess
work_excess before p = excess Work (work_cost before p)

-- the limit on work, at the name of the export, with what there is too much of
abbrev pub work_violations : List ProcedureTree → ProcedureTree → List Violation
work_violations before p =
    because (TooMuch (work_excess before p)) p.place (when (nat_lt most_work (source_work before p)) TooMuchWork)
