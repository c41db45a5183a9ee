-- What expressions, statements, calls and a program mean, worked out: a function beside the rules of the meaning,
-- which also counts the nodes that are evaluated and the bodies that are open.
use Rattle.std.specs.Prelude.{ℕ, zero, suc, ◌+◌, ◌-◌, max, List, [], ◌∷◌, Option, Some, None, if◌then◌else◌}
use Rattle.std.specs.Option.{option_map}
use Rattle.word.specs.declared.place.Place.{Place}
use Rattle.language.specs.declared.signature.Kind.{Kind}
use Rattle.language.specs.declared.values.Arg.{Arg}
use Rattle.language.specs.Meaning.{Ending, gives, faults, applied, element_held, word_arguments, begun, copied_out}
use Rattle.language.specs.Meaning.{Returned, made_array, written, with_element, with_some, word_given, counting}
use Rattle.language.specs.Meaning.{exported, holding, final_arrays}
use Rattle.language.specs.Known.{Known, known_of}
use Rattle.language.specs.Operators.{truth_of}
use Rattle.language.specs.Results.{Results}
use Rattle.language.specs.State.{State, Word, single, with_value}
use Rattle.language.specs.Tree.{ExprTree, number, truth, name, prefix, binary, rotate, convert, select, element}
use Rattle.language.specs.Tree.{CallTree, RightTree, called, computed, StatementTree, declaration, array, assignment}
use Rattle.language.specs.Tree.{element_assignment, call, conditional, loop, BlockTree, nothing, first, ReturnTree}
use Rattle.language.specs.Tree.{ProcedureTree, ProgramTree}

-- Runs.

-- a run of a part: how many nodes it evaluates, how many bodies are open in it at most, and what it comes to
pub record Run (A : Type 0) : Type 0 where
  pub nodes : ℕ
  pub bodies : ℕ
  pub ends : Ending A

-- no node is evaluated
abbrev pub ended : {A : Type 0} → Ending A → Run A
ended ending = record { nodes = 0; bodies = 0; ends = ending }

abbrev pub given : {A : Type 0} → A → Run A
given a = ended (gives a)

-- one node is evaluated, and then a run
unfoldable pub tick : {A : Type 0} → Run A → Run A
tick r = record { nodes = r.nodes + 1; bodies = r.bodies; ends = r.ends }

-- a run inside one more body
unfoldable pub inside : {A : Type 0} → Run A → Run A
inside r = record { nodes = r.nodes; bodies = r.bodies + 1; ends = r.ends }

-- a run once so many nodes have been evaluated, and so many bodies been open
abbrev pub later : {A : Type 0} → ℕ → ℕ → Run A → Run A
later nodes bodies r = record { nodes = nodes + r.nodes; bodies = max bodies r.bodies; ends = r.ends }

abbrev pub continued : {A B : Type 0} → ℕ → ℕ → Ending A → (A → Run B) → Run B
continued nodes bodies (gives a) next = later nodes bodies (next a)
continued nodes bodies (faults place) next = record { nodes = nodes; bodies = bodies; ends = faults place }

-- a run and, unless it meets a fault, a next one on its result
unfoldable pub andthen : {A B : Type 0} → Run A → (A → Run B) → Run B
andthen r next = continued r.nodes r.bodies r.ends next

-- Expressions.

-- the value of an expression
abbrev pub value : State → ExprTree → Run Word
value s (number place v kind) = tick (ended (applied s (number place v kind) []))
value s (truth place v) = tick (ended (applied s (truth place v) []))
value s (name place text) = tick (ended (applied s (name place text) []))
value s (prefix place operator operand) = tick (andthen (value s operand) (λ a.
    ended (applied s (prefix place operator operand) (a ∷ []))))
value s (binary place operator left right) = tick (andthen (value s left) (λ a. andthen (value s right) (λ b.
    ended (applied s (binary place operator left right) (a ∷ b ∷ [])))))
value s (rotate place operand amount) = tick (andthen (value s operand) (λ a.
    ended (applied s (rotate place operand amount) (a ∷ []))))
value s (convert place kind operand) = tick (andthen (value s operand) (λ a.
    ended (applied s (convert place kind operand) (a ∷ []))))
value s (select place condition accepted otherwise) =
    tick (andthen (value s condition) (λ c. andthen (value s accepted) (λ a. andthen (value s otherwise) (λ b.
    ended (applied s (select place condition accepted otherwise) (c ∷ a ∷ b ∷ []))))))
value s (element place target text index) = tick (andthen (value s index) (λ i.
    ended (applied s (element place target text index) (i ∷ []))))

-- the values of expressions, from left to right
abbrev pub values : State → List ExprTree → Run (List Word)
values s [] = given []
values s (e ∷ es) = andthen (value s e) (λ v. andthen (values s es) (λ vs. given (v ∷ vs)))

-- the values of a call's word arguments, each counted once more than its expression
abbrev pub passed : State → List ExprTree → Run (List Word)
passed s [] = given []
passed s (e ∷ es) = tick (andthen (value s e) (λ v. andthen (passed s es) (λ vs. given (v ∷ vs))))

-- Procedures.

-- what a procedure's name stands for: the procedure, and a run of its body from the state in which it begins
pub record Runnable : Type 0 where
  pub procedure : ProcedureTree
  pub body : State → Run Returned

-- the procedures that may be called
abbrev pub Runnables : Type 0
Runnables = Known Runnable

-- a call, once it is counted; one of a name that no procedure has gives nothing
abbrev pub called_run : Option Runnable → State → CallTree → Run Returned
called_run None s c = given (record { word = None; state = s })
called_run (Some known) s c = andthen (passed s (word_arguments known.procedure.parameters c.arguments)) (λ vs.
    andthen (inside (known.body (begun s known.procedure.parameters c.arguments vs))) (λ r.
    given (record { word = r.word; state = copied_out s r.state known.procedure.parameters c.arguments })))

abbrev pub call_run : Option Runnable → State → CallTree → Run Returned
call_run known s c = tick (called_run known s c)

-- a right side
abbrev pub right_run : Runnables → State → RightTree → Run Returned
right_run known s (called c) = call_run (known c.name) s c
right_run known s (computed e) = andthen (value s e) (λ v. given (record { word = Some v; state = s }))

-- so many iterations of a loop, the first at this number
abbrev pub iterations : ℕ → ℕ → (ℕ → State → Run State) → State → Run State
iterations zero i iteration s = given s
iterations (suc n) i iteration s = tick (andthen (iteration i s) (λ t. iterations n (i + 1) iteration t))

-- a name is set to a right side's word
abbrev pub set_run : Runnables → State → List ℕ → RightTree → Run State
set_run known s text right =
    tick (andthen (right_run known s right) (λ r. given (with_value r.state text (single (word_given r.word)))))

-- an element is set: it is evaluated first, so its index is tested before the right side
abbrev pub element_run : Runnables → State → Place → List ℕ → ExprTree → RightTree → Run State
element_run known s bracket text index right = tick (tick (andthen (value s index) (λ i.
    andthen (ended (element_held bracket (s text) i.value)) (λ old. andthen (right_run known s right) (λ r.
    given (with_some r.state text (with_element (r.state text) i.value (word_given r.word))))))))

-- a name is set to an array
abbrev pub array_run : State → List ℕ → Kind → ℕ → Option (List ExprTree) → Run State
array_run s text kind size initial =
    tick (andthen (values s (written initial)) (λ vs. given (with_value s text (made_array kind size vs))))

-- one of two runs, by a condition
abbrev pub branch_run : State → ExprTree → Run State → Run State → Run State
branch_run s condition accepted otherwise =
    tick (andthen (value s condition) (λ c. if truth_of c.value then accepted else otherwise))

-- the iterations between two bounds, each evaluated once
abbrev pub loop_run : State → ExprTree → ExprTree → (ℕ → State → Run State) → Run State
loop_run s low high iteration =
    tick (andthen (value s low) (λ a. andthen (value s high) (λ b. iterations (b.value - a.value) a.value iteration s)))

abbrev mutual
  -- a statement
  pub run : Runnables → State → StatementTree → Run State
  run known s (declaration place label mutable kind text right) = set_run known s text right
  run known s (array place label mutable kind size text initial) = array_run s text kind size initial
  run known s (assignment place target text right) = set_run known s text right
  run known s (element_assignment place bracket target text index right) =
      element_run known s bracket text index right
  run known s (call c) = andthen (call_run (known c.name) s c) (λ r. given r.state)
  run known s (conditional place condition accepted otherwise) =
      branch_run s condition (run_all known s accepted) (run_all known s otherwise)
  run known s (loop place counter text low high body) =
      loop_run s low high (λ i t. run_all known (counting t text i) body)

  -- statements in their order
  pub run_all : Runnables → State → BlockTree → Run State
  run_all known s nothing = given s
  run_all known s (first statement rest) = andthen (run known s statement) (λ t. run_all known t rest)

-- the end of a body: its `return`, where it has one
abbrev pub return_run : State → Option ReturnTree → Run Returned
return_run t None = given (record { word = None; state = t })
return_run t (Some r) = tick (andthen (value t r.value) (λ w. given (record { word = Some w; state = t })))

-- a procedure's body and its `return`
abbrev pub body_run : Runnables → ProcedureTree → State → Run Returned
body_run known p s = andthen (run_all known s p.body) (λ t. return_run t p.returned)

-- a procedure that calls the earlier ones
abbrev pub runnable : Runnables → ProcedureTree → Runnable
runnable known p = record { procedure = p; body = body_run known p }

-- the procedures that may be called behind these
abbrev pub runnables : List ProcedureTree → Runnables
runnables before = known_of runnable before

-- The program.

-- the outcome of an export, from the end of its body
abbrev pub results : ProcedureTree → Returned → Results
results p r = record {
  returned = option_map (λ (v : Word). v.value) r.word;
  arrays = final_arrays r.state p.parameters;
}

-- an export on arguments, after the earlier procedures
abbrev pub export_run : List ProcedureTree → ProcedureTree → List Arg → Run Results
export_run before p args = andthen (inside (body_run (runnables before) p (holding p.parameters args)))
    (λ r. given (results p r))

-- a program on arguments; without an export nothing is run
abbrev pub found_run : Option (List ProcedureTree × ProcedureTree) → List Arg → Run Results
found_run None args = given (record { returned = None; arrays = [] })
found_run (Some found) args = export_run found.0 found.1 args

abbrev pub program_run : ProgramTree → List Arg → Run Results
program_run program args = found_run (exported [] program.procedures) args
