-- The end that is worked out is one that the rules give, where each call is of an earlier procedure.
use Rattle.std.proofs.Common.{◌≡◌, ℕ, zero, suc, ◌+◌, ◌-◌, ◌<◌, Bool, true, false, if◌then◌else◌, List, [], ◌∷◌, ◌++◌}
use Rattle.std.proofs.Common.{Option, Some, None, ◌⊎◌, inl, inr, is_some, refl, sym, ap, ◌∙◌, subst, arith}
use Rattle.std.proofs.Common.{append-nil, append_assoc}
use Rattle.std.proofs.lemmas.Bool.{cases_Bool}
use Rattle.std.proofs.lemmas.Option.{none-some, same_Some}
use Rattle.std.specs.Str.{bytes_eq}
use Rattle.source_eval.specs.Below.{an_iteration, accepts, Arg, argument_faults, array, assignment, assignment_faults}
use Rattle.source_eval.specs.Below.{assigns, assigns_element, begun, BlockTree, Bodies, body_ends, body_faults}
use Rattle.source_eval.specs.Below.{body_run, bounds_fault, by_operands, call, call_faults, call_run, called, Calls}
use Rattle.source_eval.specs.Below.{calls, CallTree, computed, condition_faults, conditional, counting, declaration}
use Rattle.source_eval.specs.Below.{declaration_faults, declares, declares_array, declines, element, element_assignment}
use Rattle.source_eval.specs.Below.{element_held, ended, ends, ends_well, Evaluates, EvaluatesAll, exported}
use Rattle.source_eval.specs.Below.{expr_faults, ExprTree, first, first_value_faults, found_run, Gives, gives, goes_on}
use Rattle.source_eval.specs.Below.{holding, inside, later_faults, loop, loops, meets_fault, named, no_iteration}
use Rattle.source_eval.specs.Below.{none_left, nothing, of_call, of_expr, one_more, operand_faults, passed, Place}
use Rattle.source_eval.specs.Below.{ProcedureTree, program_run, ProgramTree, return_faults, return_run, returns}
use Rattle.source_eval.specs.Below.{returns_nothing, ReturnTree, right_faults, right_run, Rights, RightTree, run}
use Rattle.source_eval.specs.Below.{run_all, runnable, runnables, Runs, RunsAll, State, statements_fault, StatementTree}
use Rattle.source_eval.specs.Below.{stops, target_faults, this_faults, tick, truth_of, iteration_faults, Iterations}
use Rattle.source_eval.specs.Below.{iterations, value, values, Word, word_arguments, written}
use Rattle.source_eval.proofs.Below.{Found, known-named}
use Rattle.source_eval.proofs.EarlierCalls.{IsNamed, RightKnown, StatementKnown, BlockKnown, CallEarlier}
use Rattle.source_eval.proofs.RunEnds.{then-either}
use Rattle.source_eval.proofs.ValuesHad.{value-had, values-had, passed-had}

-- each run of a procedure's body, after those before it, comes to an end that the rules give
abbrev BodyHad : Found → Type 0
BodyHad found = (s : State) → Bodies found.0 found.1 s (body_run (runnables found.0) found.1 s).ends

abbrev AllHad : List ProcedureTree → Type 0
AllHad ps = (text : List ℕ) (found : Found) → named [] ps text ≡ Some found → BodyHad found

-- the iterations of a loop, by those of its body
iterations-had : (ps : List ProcedureTree) (text : List ℕ) (body : BlockTree)
    → ((s : State) → RunsAll ps s body (run_all (runnables ps) s body).ends)
    → (left i n : ℕ) (s : State) → n - i ≡ left
    → Iterations ps s text body i n (iterations left i (λ k t. run_all (runnables ps) (counting t text k) body) s).ends
unfolding tick
iterations-had ps text body had zero i n s none = no_iteration (omega (arith, none))
iterations-had ps text body had (suc left) i n s more =
    let low : i < n = omega (arith, more) in
    let fewer : n - (i + 1) ≡ left = omega (arith, more) in
    then-either (RunsAll ps (counting s text i) body) (Iterations ps s text body i n)
    (run_all (runnables ps) (counting s text i) body) _ (had (counting s text i))
    (λ t d. an_iteration low d (iterations-had ps text body had left (i + 1) n t fewer))
    (λ at d. iteration_faults low d)

module _ (ps : List ProcedureTree) (had : AllHad ps) where
  call-had : (s : State) (c : CallTree) → IsNamed ps c.name → Calls ps s c (call_run (runnables ps c.name) s c).ends
  unfolding tick inside
  call-had s c is =
      let before = is.0.0 in
      let p = is.0.1 in
      subst (λ o. Calls ps s c (call_run o s c).ends) (sym (known-named runnable ps before p c.name is.1))
      (then-either (EvaluatesAll s (word_arguments p.parameters c.arguments)) (Calls ps s c)
      (passed s (word_arguments p.parameters c.arguments)) _
      (passed-had s (word_arguments p.parameters c.arguments))
      (λ vs d. then-either (Bodies before p (begun s p.parameters c.arguments vs)) (Calls ps s c)
      (inside (body_run (runnables before) p (begun s p.parameters c.arguments vs))) _
      (had c.name is.0 is.1 (begun s p.parameters c.arguments vs))
      (λ r b. body_ends is.1 d b)
      (λ place b. body_faults is.1 d b))
      (λ place d. argument_faults is.1 d))

  right-had : (s : State) (right : RightTree) → RightKnown ps right
      → Rights ps s right (right_run (runnables ps) s right).ends
  right-had s (called c) is = of_call (call-had s c is)
  right-had s (computed e) is =
      then-either (Evaluates s e) (Rights ps s (computed e)) (value s e) _ (value-had s e) (λ v d. of_expr d)
      (λ place d. expr_faults d)

  branch-had : (s : State) (place : Place) (condition : ExprTree) (accepted otherwise : BlockTree) (c : Word)
      → Evaluates s condition (gives c)
      → RunsAll ps s accepted (run_all (runnables ps) s accepted).ends
      → RunsAll ps s otherwise (run_all (runnables ps) s otherwise).ends
      → (holds : Bool) → truth_of c.value ≡ holds
      → Runs ps s (conditional place condition accepted otherwise) (if holds then run_all (runnables ps) s accepted
      else run_all (runnables ps) s otherwise).ends
  branch-had s place condition accepted otherwise c d one other true is = accepts d is one
  branch-had s place condition accepted otherwise c d one other false is = declines d is other

  mutual
    unfolding tick

    statement-had : (s : State) (statement : StatementTree) → StatementKnown ps statement
        → Runs ps s statement (run (runnables ps) s statement).ends
    statement-had s (declaration place label mutable kind text right) is =
        then-either (Rights ps s right) (Runs ps s (declaration place label mutable kind text right))
        (right_run (runnables ps) s right) _ (right-had s right is)
        (λ r d. declares d)
        (λ at d. declaration_faults d)
    statement-had s (array place label mutable kind size text initial) is =
        then-either (EvaluatesAll s (written initial)) (Runs ps s (array place label mutable kind size text initial))
        (values s (written initial)) _ (values-had s (written initial))
        (λ vs d. declares_array d)
        (λ at d. first_value_faults d)
    statement-had s (assignment place target text right) is =
        then-either (Rights ps s right) (Runs ps s (assignment place target text right))
        (right_run (runnables ps) s right) _ (right-had s right is)
        (λ r d. assigns d)
        (λ at d. assignment_faults d)
    statement-had s (element_assignment place bracket target text index right) is =
        then-either (Evaluates s index) (Runs ps s (element_assignment place bracket target text index right))
        (value s index) _ (value-had s index)
        (λ i d. then-either (Evaluates s (element bracket target text index))
        (Runs ps s (element_assignment place bracket target text index right))
        (ended (element_held bracket (s text) i.value)) _
        (by_operands (one_more d none_left))
        (λ old e. then-either (Rights ps s right)
        (Runs ps s (element_assignment place bracket target text index right))
        (right_run (runnables ps) s right) _ (right-had s right is)
        (λ r f. assigns_element e d f)
        (λ at f. right_faults e f))
        (λ at e. target_faults e))
        (λ at d. target_faults (operand_faults (this_faults d)))
    statement-had s (call c) is =
        then-either (Calls ps s c) (Runs ps s (call c)) (call_run (runnables ps c.name) s c) _ (call-had s c is)
        (λ r d. calls d) (λ at d. call_faults d)
    statement-had s (conditional place condition accepted otherwise) is =
        then-either (Evaluates s condition) (Runs ps s (conditional place condition accepted otherwise))
        (value s condition) _ (value-had s condition)
        (λ c d. branch-had s place condition accepted otherwise c d (block-had s accepted is.0)
        (block-had s otherwise is.1) (truth_of c.value) refl)
        (λ at d. condition_faults d)
    statement-had s (loop place counter text low high body) is =
        then-either (Evaluates s low) (Runs ps s (loop place counter text low high body)) (value s low) _
        (value-had s low)
        (λ a d. then-either (Evaluates s high) (Runs ps s (loop place counter text low high body)) (value s high) _
        (value-had s high)
        (λ b e. loops (one_more d (one_more e none_left))
        (iterations-had ps text body (λ t. block-had t body is) (b.value - a.value) a.value b.value s refl))
        (λ at e. bounds_fault (later_faults d (this_faults e))))
        (λ at d. bounds_fault (this_faults d))

    block-had : (s : State) (block : BlockTree) → BlockKnown ps block
        → RunsAll ps s block (run_all (runnables ps) s block).ends
    block-had s nothing is = ends
    block-had s (first statement rest) is =
        then-either (Runs ps s statement) (RunsAll ps s (first statement rest)) (run (runnables ps) s statement) _
        (statement-had s statement is.0)
        (λ t d. goes_on d (block-had t rest is.1))
        (λ at d. stops d)

  return-had : (p : ProcedureTree) (s t : State) → RunsAll ps s p.body (gives t) → (o : Option ReturnTree)
      → p.returned ≡ o → Bodies ps p s (return_run t o).ends
  unfolding tick
  return-had p s t d None is = returns_nothing d is
  return-had p s t d (Some r) is =
      then-either (Evaluates t r.value) (Bodies ps p s) (value t r.value) _ (value-had t r.value)
      (λ w v. returns d is v)
      (λ place v. return_faults d is v)

  body-had : (p : ProcedureTree) → BlockKnown ps p.body → BodyHad (ps, p)
  body-had p is s =
      then-either (RunsAll ps s p.body) (Bodies ps p s) (run_all (runnables ps) s p.body) _ (block-had s p.body is)
      (λ t d. return-had p s t d p.returned refl)
      (λ place d. statements_fault d)

-- of these procedures and one more, a name's is one of them or the one
last-named : (before ps : List ProcedureTree) (p : ProcedureTree) (text : List ℕ) (found : Found)
    → named before (ps ++ p ∷ []) text ≡ Some found → (named before ps text ≡ Some found)
    ⊎ (found ≡ (before ++ ps, p))
last-named before [] p text found is = elim (cases_Bool (bytes_eq text p.name)) [
  | inl same ↦ (let here : Some (before, p) ≡ Some found = rw same at is in
      inr (sym (same_Some (before, p) found here) ∙ ap (λ l. (l, p)) (sym (append-nil before))))
  | inr other ↦ (let none : None ≡ Some found = rw other at is in cc)
]
last-named before (q ∷ ps) p text found is = elim (cases_Bool (bytes_eq text q.name)) [
  | inl same ↦ inl (rw same (rw same at is))
  | inr other ↦ elim (last-named (before ++ q ∷ []) ps p text found (rw other at is)) [
    | inl old ↦ inl (rw other old)
    | inr new ↦ inr (new ∙ ap (λ l. (l, p)) (append_assoc before (q ∷ []) ps))
  ]
]

one-more-had : (before : List ProcedureTree) (p : ProcedureTree) → AllHad before → BodyHad (before, p)
    → AllHad (before ++ p ∷ [])
one-more-had before p all this text found is = elim (last-named [] before p text found is) [
  | inl there ↦ all text found there
  | inr here ↦ subst BodyHad (sym here) this
]

export-had : (before ps : List ProcedureTree) → AllHad before → CallEarlier before ps → (found : Found)
    → exported before ps ≡ Some found → BodyHad found
export-had before [] all earlier found is = absurd (none-some found is)
export-had before (p ∷ ps) all earlier found is =
    let here = body-had before all p earlier.0 in
    elim (cases_Bool (is_some p.export)) [
      | inl exports ↦ subst BodyHad (same_Some (before, p) found (rw exports at is)) here
      | inr private ↦ export-had (before ++ p ∷ []) ps (one-more-had before p all here) earlier.1 found
          (rw private at is)
    ]

-- what the rules give a program with an export
pub program-had : (program : ProgramTree) (args : List Arg) (found : Found)
    → exported [] program.procedures ≡ Some found → CallEarlier [] program.procedures
    → Gives program args (program_run program args).ends
unfolding inside
program-had program args found is earlier =
    let p = found.1 in
    let body = export-had [] program.procedures (λ text other none. absurd (none-some other none)) earlier found is in
    subst (λ o. Gives program args (found_run o args).ends) (sym is)
    (then-either (Bodies found.0 p (holding p.parameters args)) (Gives program args)
    (inside (body_run (runnables found.0) p (holding p.parameters args))) _ (body (holding p.parameters args))
    (λ r d. ends_well is d)
    (λ at d. meets_fault is d))
