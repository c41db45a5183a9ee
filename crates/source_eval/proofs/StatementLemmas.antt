-- How the running of a call, of a loop and of a conditional spends a budget.
use Rattle.std.proofs.Common.{◌≡◌, ℕ, ◌+◌, ◌-◌, ◌<◌, List, [], Option, Some, None, Result, map, Vec, Global, inl, inr}
use Rattle.std.proofs.Common.{refl, sym, ap, ap₂, ◌∙◌, arith}
use Rattle.std.proofs.lemmas.Result.{on_ok_weaker}
use Rattle.std.specs.Option.{option_map}
use Rattle.std.specs.Result.{OnOk}
use Rattle.source_eval.specs.Below.{Arg, begun, block_tree, BlockTree, body_run, branch_run, call_run, call_tree}
use Rattle.source_eval.specs.Below.{called_run, CallTree, copied_out, counting, export_run, Expr, expr_tree, ExprTree}
use Rattle.source_eval.specs.Below.{final_arrays, For, given, holding, If, inside, loop_run, most_bodies, named}
use Rattle.source_eval.specs.Below.{Parameter, parameter_tree, passed, Place, Procedure, procedure_tree, Results}
use Rattle.source_eval.specs.Below.{results, Returned, Run, run, run_all, Runnable, runnable, Runnables, State}
use Rattle.source_eval.specs.Below.{Statement, statement_tree, iterations, value, Word, word_arguments}
use Rattle.language.specs.declared.tree.Call.{Call}
use Rattle.language.specs.declared.tree.Counter.{Counter}
use Rattle.source_eval.specs.Metering.{EndedWithin, Stopped, known_of}
use Rattle.source_eval.proofs.Below.{conditional_tree, loop_tree, known-named}
use Rattle.source_eval.specs.declared.fault.EvalFault.{EvalFault}
use Rattle.source_eval.specs.declared.fault.EvalFault.TheVariants.{Argument, NoMeaning, Budget, Memory}
use Rattle.source_eval.proofs.RunLemmas.{GoesOnTo, then_ends, then_stops, stops_then, tick_ends, tick_stops, roomy_ends}
use Rattle.source_eval.proofs.RunLemmas.{roomy_stops, passed_open, value_opens, iterations_more, iterations_stop}

inside_ends : {A : Type 0} {r : Run A} {left room more : ℕ} {a : A} {after : ℕ} → more ≡ room + 1
    → EndedWithin r left room a after → EndedWithin (inside r) left more a after
unfolding inside
inside_ends one h = record { gives_it = h.gives_it; spends = h.spends; opens = omega arith }

inside_stops : {A : Type 0} (r : Run A) (left room more : ℕ) (fault : EvalFault) → more ≡ room + 1
    → Stopped r left room fault → Stopped (inside r) left more fault
unfolding inside
inside_stops r left room more (NoMeaning place) one h = (h.0, h.1, omega arith)
inside_stops r left room more Budget one (inl h) = inl h
inside_stops r left room more Budget one (inr h) = inr (omega arith)
inside_stops r left room more Memory one h = h
inside_stops r left room more (Argument fault) one h = h

inside_lacks : {A : Type 0} (r : Run A) (left room : ℕ) → room ≡ 0 → Stopped (inside r) left room Budget
unfolding inside
inside_lacks r left room none = inr (omega arith)

given_ends : {A : Type 0} {a : A} {left room : ℕ} → EndedWithin (given a) left room a left
given_ends = record { gives_it = refl; spends = omega arith; opens = omega arith }

-- calls
pub call_none : (o : Option Runnable) (s : State) (c : CallTree) (before left room : ℕ) → o ≡ None → before ≡ left + 1
    → EndedWithin (call_run o s c) before room (record { word = None; state = s }) left
call_none o s c before left room is one =
    rw is (tick_ends one given_ends)

-- the bounds of a loop
module _ (s : State) (low high : ExprTree) (iteration : ℕ → State
    → Run State) (start one room : ℕ) (counts : start ≡ one + 1) where
  pub low_stops : (fault : EvalFault) → Stopped (value s low) one 0 fault
      → Stopped (loop_run s low high iteration) start room fault
  low_stops fault h = tick_stops _ start one room fault counts
      (stops_then _ _ one room fault (roomy_stops _ one room fault (value_opens s low) h))

  pub high_stops : (a : Word) (two : ℕ) (fault : EvalFault) → EndedWithin (value s low) one 0 a two
      → Stopped (value s high) two 0 fault → Stopped (loop_run s low high iteration) start room fault
  high_stops a two fault h k =
      tick_stops _ start one room fault counts
      (then_stops _ fault (roomy_ends h)
      (stops_then _ _ two room fault (roomy_stops _ two room fault (value_opens s high) k)))

-- its iterations, from states in which the counter was set
module _ (whole : Run State) (known : Runnables) (text : List ℕ) (body : BlockTree) (start room : ℕ) where
  abbrev iteration : ℕ → State → Run State
  iteration i t = run_all known (counting t text i) body

  pub each_iteration : (s counted t : State) (i n before now middle : ℕ) → i < n
      → GoesOnTo whole start room (iterations (n - i) i iteration s) before (λ u. u) → before ≡ now + 1
      → counted ≡ counting s text i
      → EndedWithin (run_all known counted body) now room t middle
      → GoesOnTo whole start room (iterations (n - (i + 1)) (i + 1) iteration t) middle (λ u. u)
  each_iteration s counted t i n before now middle less leads one is h =
      iterations_more whole iteration start room s t i n before now middle less leads one (rw is at h)

  pub iteration_stops : (s counted : State) (i n before now : ℕ) (fault : EvalFault) → i < n
      → GoesOnTo whole start room (iterations (n - i) i iteration s) before (λ u. u) → before ≡ now + 1
      → counted ≡ counting s text i
      → Stopped (run_all known counted body) now room fault → Stopped whole start room fault
  iteration_stops s counted i n before now fault less leads one is h =
      iterations_stop whole iteration start room s i n before now fault less leads one (rw is at h)

-- a call, over the lists that the code goes through
module _ (earlier front : List Procedure) (callee : Procedure) (s : State) (c : Call) (ps : List Parameter)
    (es : List Expr) (before left room : ℕ)
    (found : Some (map procedure_tree front, procedure_tree callee)
    ≡ named [] (map procedure_tree earlier) c.name) (one : before ≡ left + 1)
    (parameters : ps ≡ callee.parameters.items) (arguments : es ≡ c.arguments.items) where
  abbrev words_of : List Parameter → List Expr → List ExprTree
  words_of xs ys = word_arguments (map parameter_tree xs) (map expr_tree ys)

  abbrev same_words : words_of ps es ≡ words_of callee.parameters.items c.arguments.items
  same_words = ap₂ words_of parameters arguments

  abbrev o : Option Runnable
  o = known_of earlier c.name

  abbrev known : Runnables
  known = known_of front

  abbrev k : Runnable
  k = runnable known (procedure_tree callee)

  is : o ≡ Some k
  is = known-named runnable (map procedure_tree earlier) (map procedure_tree front) (procedure_tree callee) c.name
      (sym found)

  stops_so : (fault : EvalFault) → Stopped (called_run (Some k) s (call_tree c)) left room fault
      → Stopped (call_run o s (call_tree c)) before room fault
  stops_so fault h = rw is (tick_stops _ before left room fault one h)

  pub argument_stops : (fault : EvalFault) → Stopped (passed s (words_of ps es)) left 0 fault
      → Stopped (call_run o s (call_tree c)) before room fault
  argument_stops fault h =
      stops_so fault (stops_then _ _ left room fault
      (roomy_stops _ left room fault (passed_open s (words_of callee.parameters.items c.arguments.items))
      (rw same_words at h)))

  module _ (vs : List Word) (middle : ℕ) (ended_words : EndedWithin (passed s (words_of ps es)) left 0 vs middle) where
    abbrev ended_so : EndedWithin (passed s (words_of callee.parameters.items c.arguments.items)) left room vs middle
    ended_so = roomy_ends (rw same_words at ended_words)

    pub room_lacks : room ≡ 0 → Stopped (call_run o s (call_tree c)) before room Budget
    room_lacks none =
        stops_so Budget (then_stops _ Budget ended_so
        (stops_then _ _ middle room Budget (inside_lacks _ middle room none)))

    module _ (inner : ℕ) (state : State) (more : room ≡ inner + 1)
        (begins : state ≡ begun s (map parameter_tree ps) (map expr_tree es) vs) where
      abbrev begins_so : state ≡ begun s (map parameter_tree callee.parameters.items)
          (map expr_tree c.arguments.items) vs
      begins_so = begins ∙ ap₂ (λ xs ys. begun s (map parameter_tree xs) (map expr_tree ys) vs) parameters arguments

      pub body_stops : (fault : EvalFault) → Stopped (body_run known (procedure_tree callee) state) middle inner fault
          → Stopped (call_run o s (call_tree c)) before room fault
      body_stops fault h =
          stops_so fault (then_stops _ fault ended_so
          (stops_then _ _ middle room fault (inside_stops _ middle inner room fault more (rw begins_so at h))))

      pub whole_ends : (word : Option Word) (t caller : State) (after : ℕ)
          → EndedWithin (body_run known (procedure_tree callee) state) middle inner
          (record { word = word; state = t }) after
          → caller ≡ copied_out s t (map parameter_tree ps) (map expr_tree es)
          → EndedWithin (call_run o s (call_tree c)) before room (record { word = word; state = caller }) after
      whole_ends word t caller after h out =
          rw (out, parameters, arguments, is)
          (tick_ends one (then_ends _ ended_so (then_ends _ (inside_ends more (rw begins_so at h)) given_ends)))

-- a conditional and a loop of the tree
pub if_run : (known : Runnables) (s : State) (statement : Statement) (place : Place) (condition : Expr)
    (accepted otherwise : Vec Statement Global) (a b : List Statement)
    → statement ≡ If place condition accepted otherwise → a ≡ accepted.items → b ≡ otherwise.items
    → branch_run s (expr_tree condition) (run_all known s (block_tree a)) (run_all known s (block_tree b))
    ≡ run known s (statement_tree statement)
if_run known s statement place condition accepted otherwise a b is one other =
    ap₂ (λ xs ys. branch_run s (expr_tree condition) (run_all known s (block_tree xs))
    (run_all known s (block_tree ys))) one other
    ∙ sym (ap (run known s) (ap statement_tree is ∙ conditional_tree place condition accepted otherwise))

pub for_run : (known : Runnables) (s : State) (statement : Statement) (place : Place) (counter : Counter)
    (low high : Expr) (body : Vec Statement Global) (b : List Statement)
    → statement ≡ For place counter low high body → b ≡ body.items
    → loop_run s (expr_tree low) (expr_tree high)
    (λ i t. run_all known (counting t counter.name i) (block_tree b))
    ≡ run known s (statement_tree statement)
for_run known s statement place counter low high body b is one =
    ap (λ xs. loop_run s (expr_tree low) (expr_tree high)
    (λ i t. run_all known (counting t counter.name i) (block_tree xs))) one
    ∙ sym (ap (run known s) (ap statement_tree is ∙ loop_tree place counter low high body))

pub ends_along : {A : Type 0} (r q : Run A) (left room : ℕ) (a : A) (after : ℕ) → r ≡ q
    → EndedWithin r left room a after
    → EndedWithin q left room a after
ends_along r q left room a after is h = rw is at h

pub stops_along : {A : Type 0} (r q : Run A) (left room : ℕ) (fault : EvalFault) → r ≡ q → Stopped r left room fault
    → Stopped q left room fault
stops_along r q left room fault is h = rw is at h

pub ok_along : {T : Type 0} (result : Result T EvalFault) (r q : Run State) (left room : ℕ) (t : State) (after : ℕ)
    → r ≡ q → OnOk result (EndedWithin r left room t after) → OnOk result (EndedWithin q left room t after)
ok_along result r q left room t after is h = on_ok_weaker result (λ k. ends_along r q left room t after is k) h

-- an export
module _ (before : List Procedure) (export : Procedure) (args : List Arg) (left : ℕ) (ps : List Parameter)
    (state : State)
    (parameters : ps ≡ export.parameters.items) (begins : state ≡ holding (map parameter_tree ps) args) where
  abbrev holds_so : state ≡ holding (map parameter_tree export.parameters.items) args
  holds_so = begins ∙ ap (λ xs. holding (map parameter_tree xs) args) parameters

  pub export_stops : (fault : EvalFault)
      → Stopped (body_run (known_of before) (procedure_tree export) state) left 63 fault
      → Stopped (export_run (map procedure_tree before) (procedure_tree export) args) left most_bodies fault
  export_stops fault h =
      stops_then _ _ left 64 fault
      (inside_stops _ left 63 64 fault (omega arith) (rw holds_so at h))

  pub export_ends : (word : Option Word) (t : State) (after : ℕ) (outcome : Results)
      → EndedWithin (body_run (known_of before) (procedure_tree export) state) left 63
      (record { word = word; state = t }) after
      → outcome.returned ≡ option_map (λ (v : Word). v.value) word
      → outcome.arrays ≡ final_arrays t (map parameter_tree ps)
      → EndedWithin (export_run (map procedure_tree before) (procedure_tree export) args) left most_bodies outcome after
  export_ends word t after outcome h one other =
      let r : Returned = record { word = word; state = t } in
      let out : Results = results (procedure_tree export) r in
      let arrays : outcome.arrays ≡ out.arrays = other ∙ ap (λ xs. final_arrays t (map parameter_tree xs)) parameters in
      let same : out ≡ outcome = ap₂ (λ a b. record { returned = a; arrays = b }) (sym one) (sym arrays) in
      rw (← same)
      (then_ends _ (inside_ends (omega arith) (rw holds_so at h)) given_ends)
