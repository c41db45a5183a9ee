-- Each derivation of an end gives the end that is worked out.
use Rattle.std.proofs.Common.{◌≡◌, ℕ, ◌+◌, ◌-◌, suc, List, [], ◌∷◌, refl, ◌∙◌, arith}
use Rattle.source_eval.specs.Below.{an_iteration, accepts, andthen, Arg, argument_faults, array, assignment}
use Rattle.source_eval.specs.Below.{assignment_faults, assigns, assigns_element, BlockTree, Bodies, body_ends}
use Rattle.source_eval.specs.Below.{body_faults, body_run, bounds_fault, by_operands, call, call_faults, call_run}
use Rattle.source_eval.specs.Below.{called, Calls, calls, CallTree, computed, condition_faults, conditional, counting}
use Rattle.source_eval.specs.Below.{declaration, declaration_faults, declares, declares_array, declines, element}
use Rattle.source_eval.specs.Below.{element_assignment, element_held, ended, Ending, ends, ends_well, Evaluates}
use Rattle.source_eval.specs.Below.{EvaluatesAll, expr_faults, ExprTree, faults, first, first_value_faults, Gives}
use Rattle.source_eval.specs.Below.{gives, goes_on, inside, later_faults, loop, loops, meets_fault, no_iteration}
use Rattle.source_eval.specs.Below.{none_left, nothing, of_call, of_expr, one_more, operand_faults, operands, passed}
use Rattle.source_eval.specs.Below.{ProcedureTree, program_run, ProgramTree, Results, return_faults, Returned, returns}
use Rattle.source_eval.specs.Below.{returns_nothing, right_faults, right_run, Rights, RightTree, run, run_all, runnable}
use Rattle.source_eval.specs.Below.{runnables, Runs, RunsAll, State, statements_fault, StatementTree, stops}
use Rattle.source_eval.specs.Below.{target_faults, this_faults, tick, iteration_faults, Iterations, iterations, value}
use Rattle.source_eval.specs.Below.{values, Word, written}
use Rattle.source_eval.proofs.Below.{known-named}
use Rattle.source_eval.proofs.RunEnds.{first-faults, first-gives, value-by-operands}

mutual
  unfolding andthen

  pub value-worked : (s : State) (e : ExprTree) (ending : Ending Word) → Evaluates s e ending
      → (value s e).ends ≡ ending
  value-worked s e ending (by_operands d) = value-by-operands s e ∙ rw (values-worked s (operands e) _ d)
  value-worked s e ending (operand_faults d) = value-by-operands s e ∙ rw (values-worked s (operands e) _ d)

  values-worked : (s : State) (es : List ExprTree) (ending : Ending (List Word)) → EvaluatesAll s es ending
      → (values s es).ends ≡ ending
  values-worked s [] ending none_left = refl
  values-worked s (e ∷ es) ending (one_more d ds) = rw (value-worked s e _ d, values-worked s es _ ds)
  values-worked s (e ∷ es) ending (this_faults d) = rw (value-worked s e _ d)
  values-worked s (e ∷ es) ending (later_faults d ds) = rw (value-worked s e _ d, values-worked s es _ ds)

pub passed-worked : (s : State) (es : List ExprTree) (ending : Ending (List Word)) → EvaluatesAll s es ending
    → (passed s es).ends ≡ ending
unfolding tick andthen
passed-worked s [] ending none_left = refl
passed-worked s (e ∷ es) ending (one_more d ds) = rw (value-worked s e _ d, passed-worked s es _ ds)
passed-worked s (e ∷ es) ending (this_faults d) = rw (value-worked s e _ d)
passed-worked s (e ∷ es) ending (later_faults d ds) = rw (value-worked s e _ d, passed-worked s es _ ds)

-- Calls, bodies and statements.

mutual
  unfolding tick inside andthen

  call-worked : (ps : List ProcedureTree) (s : State) (c : CallTree) (ending : Ending Returned) → Calls ps s c ending
      → (call_run (runnables ps c.name) s c).ends ≡ ending
  call-worked ps s c ending (argument_faults {before = before} {p = p} is d) =
      rw (known-named runnable ps before p c.name is, passed-worked s _ _ d)
  call-worked ps s c ending (body_faults {before = before} {p = p} is d body) =
      rw (known-named runnable ps before p c.name is, passed-worked s _ _ d, body-worked before p _ _ body)
  call-worked ps s c ending (body_ends {before = before} {p = p} is d body) =
      rw (known-named runnable ps before p c.name is, passed-worked s _ _ d, body-worked before p _ _ body)

  body-worked : (ps : List ProcedureTree) (p : ProcedureTree) (s : State) (ending : Ending Returned)
      → Bodies ps p s ending → (body_run (runnables ps) p s).ends ≡ ending
  body-worked ps p s ending (statements_fault d) = rw (block-worked ps s p.body _ d)
  body-worked ps p s ending (returns_nothing d is) = rw (block-worked ps s p.body _ d, is)
  body-worked ps p s ending (returns {t = t} {r = r} d is v) =
      rw (block-worked ps s p.body _ d, is, value-worked t r.value _ v)
  body-worked ps p s ending (return_faults {t = t} {r = r} d is v) =
      rw (block-worked ps s p.body _ d, is, value-worked t r.value _ v)

  right-worked : (ps : List ProcedureTree) (s : State) (right : RightTree) (ending : Ending Returned)
      → Rights ps s right ending → (right_run (runnables ps) s right).ends ≡ ending
  right-worked ps s (called c) ending (of_call d) = call-worked ps s c ending d
  right-worked ps s (computed e) ending (of_expr d) = rw (value-worked s e _ d)
  right-worked ps s (computed e) ending (expr_faults d) = rw (value-worked s e _ d)

  pub statement-worked : (ps : List ProcedureTree) (s : State) (statement : StatementTree) (ending : Ending State)
      → Runs ps s statement ending → (run (runnables ps) s statement).ends ≡ ending
  statement-worked ps s (declaration place label mutable kind text right) ending (declares d) =
      rw (right-worked ps s right _ d)
  statement-worked ps s (declaration place label mutable kind text right) ending (declaration_faults d) =
      rw (right-worked ps s right _ d)
  statement-worked ps s (array place label mutable kind size text initial) ending (declares_array d) =
      rw (values-worked s (written initial) _ d)
  statement-worked ps s (array place label mutable kind size text initial) ending (first_value_faults d) =
      rw (values-worked s (written initial) _ d)
  statement-worked ps s (assignment place target text right) ending (assigns d) = rw (right-worked ps s right _ d)
  statement-worked ps s (assignment place target text right) ending (assignment_faults d) =
      rw (right-worked ps s right _ d)
  statement-worked ps s (element_assignment place bracket target text index right) ending
      (target_faults {at = at} d) =
      first-faults (value s index) (λ i. ended (element_held bracket (s text) i.value)) _ at
      (value-worked s (element bracket target text index) (faults at) d)
  statement-worked ps s (element_assignment place bracket target text index right) ending
      (right_faults {old = old} d f) =
      first-gives (value s index) (λ i. ended (element_held bracket (s text) i.value)) _ old ending
      (value-worked s (element bracket target text index) (gives old) d)
      (λ i. rw (right-worked ps s right _ f))
  statement-worked ps s (element_assignment place bracket target text index right) ending (assigns_element d e f) =
      let held = rw (value-worked s index _ e) at (value-worked s (element bracket target text index) _ d) in
      rw (value-worked s index _ e, held, right-worked ps s right _ f)
  statement-worked ps s (call c) ending (calls d) = rw (call-worked ps s c _ d)
  statement-worked ps s (call c) ending (call_faults d) = rw (call-worked ps s c _ d)
  statement-worked ps s (conditional place condition accepted otherwise) ending (condition_faults d) =
      rw (value-worked s condition _ d)
  statement-worked ps s (conditional place condition accepted otherwise) ending (accepts d holds f) =
      rw (value-worked s condition _ d, holds) (block-worked ps s accepted ending f)
  statement-worked ps s (conditional place condition accepted otherwise) ending (declines d fails f) =
      rw (value-worked s condition _ d, fails) (block-worked ps s otherwise ending f)
  statement-worked ps s (loop place counter text low high body) ending (bounds_fault (this_faults d)) =
      rw (value-worked s low _ d)
  statement-worked ps s (loop place counter text low high body) ending (bounds_fault (later_faults d (this_faults f))) =
      rw (value-worked s low _ d, value-worked s high _ f)
  statement-worked ps s (loop place counter text low high body) ending
      (bounds_fault (later_faults d (later_faults f g))) = elim g [ ]
  statement-worked ps s (loop place counter text low high body) ending (loops {a = a} {b = b} (one_more d
      (one_more f g)) iterations) =
      rw (value-worked s low _ d, value-worked s high _ f)
      (iterations-worked ps s text body a.value b.value ending iterations)

  iterations-worked : (ps : List ProcedureTree) (s : State) (text : List ℕ) (body : BlockTree) (i n : ℕ)
      (ending : Ending State) → Iterations ps s text body i n ending
      → (iterations (n - i) i (λ k t. run_all (runnables ps) (counting t text k) body) s).ends ≡ ending
  iterations-worked ps s text body i n ending (no_iteration past) = let none : n - i ≡ 0 = omega
      (arith, past) in rw none
  iterations-worked ps s text body i n ending (iteration_faults low d) =
      let more : n - i ≡ suc (n - (i + 1)) = omega (arith, low) in rw (more, block-worked ps _ body _ d)
  iterations-worked ps s text body i n ending (an_iteration {t = t} low d later) =
      let more : n - i ≡ suc (n - (i + 1)) = omega (arith, low) in
      rw (more, block-worked ps _ body _ d) (iterations-worked ps t text body (i + 1) n ending later)

  pub block-worked : (ps : List ProcedureTree) (s : State) (block : BlockTree) (ending : Ending State)
      → RunsAll ps s block ending → (run_all (runnables ps) s block).ends ≡ ending
  block-worked ps s nothing ending ends = refl
  block-worked ps s (first statement rest) ending (stops d) = rw (statement-worked ps s statement _ d)
  block-worked ps s (first statement rest) ending (goes_on {t = t} d more) =
      rw (statement-worked ps s statement _ d) (block-worked ps t rest ending more)

pub worked-out : (program : ProgramTree) (args : List Arg) (ending : Ending Results) → Gives program args ending
    → (program_run program args).ends ≡ ending
unfolding inside andthen
worked-out program args ending (ends_well {before = before} {p = p} is d) = rw (is, body-worked before p _ _ d)
worked-out program args ending (meets_fault {before = before} {p = p} is d) = rw (is, body-worked before p _ _ d)
