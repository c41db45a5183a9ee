-- The work of a procedure's source is that of its body with numbered variables, wherever it is called.
use Rattle.std.proofs.Common.{◌≡◌, ℕ, ◌+◌, ◌*◌, Bool, true, false, if◌then◌else◌, List, [], ◌∷◌, length, Option, None}
use Rattle.std.proofs.Common.{inl, inr, Some, refl, sym, ap, ◌∙◌, subst, arith}
use Rattle.std.proofs.lemmas.Bool.{cases_Bool}
use Rattle.std.proofs.Math.Path.{fun_ext}
use Rattle.std.specs.Option.{option_map}
use Rattle.std.specs.Str.{bytes_eq}
use Rattle.hepurita.specs.Below.{block, BlockTree, Bounds, bounds_after_all, call_block, call_result, call_value}
use Rattle.hepurita.specs.Below.{call_variables, callable, Callables, callables, CallTree, dropped_block}
use Rattle.hepurita.specs.Below.{element_assignment, ExprTree, first_known, FlatVariable, interval, is_word}
use Rattle.hepurita.specs.Below.{known_from, Label, names_after_all, nodes_passed, nothing_known, Numbers}
use Rattle.hepurita.specs.Below.{ParameterTree, passed, Place, ProcedureTree, result_value, ReturnTree, right}
use Rattle.hepurita.specs.Below.{right_block, RightTree, Scope, statement, StatementTree, term, term_nodes, TermTree}
use Rattle.hepurita.specs.Below.{value_nodes, value_of, ValueType, with_bound, with_known, with_procedure}
use Rattle.language.specs.declared.typing.ValueType.TheVariants.{Word}
use Rattle.hepurita.specs.Below.{word_arguments, WordType, written}
use Rattle.hepurita.proofs.source_work_lemmas.Below.{same_nodes, same_all, same_result, GoTogether, value_there}
use Rattle.hepurita.proofs.source_work_lemmas.Below.{Stand, IsAt, IsWithin, earlier_within, callable_after}
use Rattle.hepurita.proofs.source_work_lemmas.Below.{callable_declared, callable_parameters}
use Rattle.language.proofs.KnownLemmas.{known-named}
use Rattle.language.specs.WellTyped.{IsCall, of_procedure, RightHasType, of_call, of_value, IsWellTyped, declares}
use Rattle.language.specs.WellTyped.{declares_array, assigns, assigns_element, calls, chooses, repeats, AreWellTyped}
use Rattle.language.specs.WellTyped.{no_statement, one_more, IsProcedure, Returns, nothing_returned, value_returned}
use Rattle.hepurita.specs.source_work.SourceWork.{Here, here, Worked, Works, numberings, entered, called_work}
use Rattle.hepurita.specs.source_work.SourceWork.{right_work, behind, iterations, in_accepted, in_otherwise}
use Rattle.hepurita.specs.source_work.SourceWork.{in_iteration, statement_work, block_work, worked, works_of}
use Rattle.hepurita.proofs.source_work_lemmas.Walked.{walked_all, walked_chain}

-- Results.

value_together : (names : Numbers) (result : Option WordType) (returned : Option ReturnTree)
    → GoTogether result returned → GoTogether result (value_of names returned)
value_together names None None is = tt
value_together names None (Some r) is = absurd is
value_together names (Some word) None is = absurd is
value_together names (Some word) (Some r) is = tt

return_together : {scope : Scope} {result : Option WordType} {returned : Option ReturnTree}
    → Returns scope result returned → GoTogether result returned
return_together nothing_returned = tt
return_together (value_returned has suit) = tt

module _ (declared : List FlatVariable) where
  -- Names are numbered as the body's are.

  by_first : (o : Option Worked) (b : Bool) (w : Worked)
      → option_map (λ (w : Worked). w.own) (first_known o (if b then Some w else None))
      ≡ first_known (option_map (λ (w : Worked). w.own) o) (if b then Some w.own else None)
  by_first (Some x) b w = refl
  by_first None true w = refl
  by_first None false w = refl

  numbered_from : (works : Works) (ps : List ProcedureTree)
      → numberings (known_from (worked declared) works ps) ≡ known_from callable (numberings works) ps
  numbered_from works [] = refl
  numbered_from works (p ∷ ps) =
      numbered_from (with_known works p.name (worked declared works p)) ps
      ∙ ap (λ (known : Callables). known_from callable known ps)
      (fun_ext (λ text. by_first (works text) (bytes_eq text p.name) (worked declared works p)))

  pub numbered_alike : (ps : List ProcedureTree) → numberings (works_of declared ps) ≡ callables ps
  numbered_alike ps = numbered_from nothing_known ps

  -- Calls.

  dropped_walked : (bounds : Bounds) (n : ℕ) (result : Option WordType) (value : Option TermTree)
      → GoTogether result value → walked_all declared bounds (dropped_block n result value) ≡ value_nodes value
  dropped_walked bounds n None None together = refl
  dropped_walked bounds n None (Some value) together = absurd together
  dropped_walked bounds n (Some word) None together = absurd together
  dropped_walked bounds n (Some word) (Some value) together = omega arith

  passed_walked : (names : Numbers) (ps : List ParameterTree) (es : List ExprTree) (n : ℕ) (bounds : Bounds)
      → walked_all declared bounds (passed names n ps es) ≡ nodes_passed (word_arguments ps es)
  passed_walked names [] es n bounds = refl
  passed_walked names (p ∷ ps) [] n bounds = refl
  passed_walked names (p ∷ ps) (e ∷ es) n bounds = elim (cases_Bool (is_word p.form)) [
    | inl is ↦ rw is (simp (passed_walked names ps es) (omega (arith, same_nodes names e)))
    | inr is ↦ rw is (passed_walked names ps es n bounds)
  ]

  -- a called body's work, wherever it is called
  pub record Summed (before : List ProcedureTree) (at : Scope) (p : ProcedureTree) : Type 0 where
    pub work : (h : Here)
        → walked_all declared h.bounds (block (numberings (works_of declared before)) h.names h.next p.body)
        ≡ block_work declared (works_of declared before) h p.body
    pub returns : GoTogether p.result p.returned

  record CallSummed (h : Here) (c : CallTree) (type : ValueType) (o : Option Worked) : Type 0 where
    pub work : 1 + walked_all declared h.bounds
        (call_block (option_map (λ (w : Worked). w.own) o) h.names h.next c.arguments)
        + value_nodes (call_value (option_map (λ (w : Worked). w.own) o) h.names h.next c.arguments)
        ≡ called_work declared o h c
    pub gives : type ≡ result_value (call_result (option_map (λ (w : Worked). w.own) o))
    pub returns : GoTogether (call_result (option_map (λ (w : Worked). w.own) o))
        (call_value (option_map (λ (w : Worked). w.own) o) h.names h.next c.arguments)

  body_summed : (before : List ProcedureTree) (at : Scope) (p : ProcedureTree) → Summed before at p
      → (h : Here) (c : CallTree)
      → CallSummed h c (result_value p.result) (Some (worked declared (works_of declared before) p))
  body_summed before at p body h c =
      let known = numberings (works_of declared before) in
      let start = entered declared (callable known p) h c.arguments in
      let end = names_after_all known start.names start.next p.body in
      record {
        work = simp (walked_chain declared) (omega (
          arith,
          passed_walked h.names p.parameters c.arguments h.next h.bounds,
          body.work start,
          same_result end p.returned,
        ));
        gives = refl;
        returns = value_together end p.result p.returned body.returns;
      }

  module _ (earlier : List ProcedureTree) (at : Scope) (stand : Stand Summed earlier at) where
    abbrev works : Works
    works = works_of declared earlier

    abbrev known : Callables
    known = numberings works

    call_summed : {scope : Scope} {control : Label} {c : CallTree} {type : ValueType}
        → IsCall earlier scope control c type → IsWithin earlier at scope → (h : Here)
        → CallSummed h c type (works c.name)
    call_summed (of_procedure {c = c} {callee = own} {p = p} is get are quiet) within h =
        let k = stand.callable c.name own p (within c.name own p is get).1 get in
        subst (CallSummed h c (result_value p.result))
        (sym (known-named (worked declared) earlier k.before p c.name k.is))
        (body_summed k.before k.at p k.good h c)

    right_summed : {scope : Scope} {control : Label} {r : RightTree} {given : WordType}
        → RightHasType earlier scope control r (Word given) → IsWithin earlier at scope → (h : Here)
        → walked_all declared h.bounds (right_block known h.names h.next r)
        + term_nodes (right known h.names h.next r) ≡ right_work declared works h r
    right_summed (of_value {e = e} has) inside h = omega (arith, same_nodes h.names e)
    right_summed {given = given} (of_call {c = c} is) inside h =
        let f = call_summed is inside h in
        let value = call_value (known c.name) h.names h.next c.arguments in
        simp (walked_chain declared)
        (omega (arith, f.work, value_there (call_result (known c.name)) value given f.gives f.returns))

    element_summed : {scope : Scope} {control : Label} {r : RightTree} {given : WordType}
        → RightHasType earlier scope control r (Word given) → IsWithin earlier at scope
        → (place bracket target : Place) (text : List ℕ) (index : ExprTree) (h : Here)
        → walked_all declared h.bounds
        (statement known h.names h.next (element_assignment place bracket target text index r))
        ≡ statement_work declared works h (element_assignment place bracket target text index r)
    element_summed (of_value {e = e} has) inside place bracket target text index h =
        omega (arith, same_nodes h.names index, same_nodes h.names e)
    element_summed {given = given} (of_call {c = c} is) inside place bracket target text index h =
        let n = h.next in
        let held = here h.names (n + 1) (with_bound h.bounds n (interval declared h.bounds (term h.names index))) in
        let f = call_summed is inside held in
        let value = call_value (known c.name) h.names (n + 1) c.arguments in
        simp (walked_chain declared)
        (omega (
          arith,
          f.work,
          value_there (call_result (known c.name)) value given f.gives f.returns,
          same_nodes h.names index,
        ))

    mutual
      pub statement_summed : {scope : Scope} {control : Label} {s : StatementTree}
          → IsWellTyped earlier scope control s → IsWithin earlier at scope → (h : Here)
          → walked_all declared h.bounds (statement known h.names h.next s) ≡ statement_work declared works h s
      statement_summed (declares new has suit flow) inside h =
          simp (walked_chain declared) (omega (arith, right_summed has inside h))
      statement_summed (declares_array {values = values} new suit count flow) inside h =
          omega (arith, same_all h.names (written values))
      statement_summed (assigns is has suit flow) inside h =
          simp (walked_chain declared) (omega (arith, right_summed has inside h))
      statement_summed (assigns_element {place = place} {bracket} {target} {text} {index} is has value suit flow)
          inside h = element_summed value inside place bracket target text index h
      statement_summed (calls {c = c} is) inside h =
          let f = call_summed is inside h in
          let o = known c.name in
          let m = h.next + length (call_variables o c.arguments) in
          let value = call_value o h.names h.next c.arguments in
          let end = bounds_after_all declared h.bounds (call_block o h.names h.next c.arguments) in
          simp (walked_chain declared)
          (omega (arith, f.work, dropped_walked end m (call_result o) value f.returns))
      statement_summed (chooses {condition = condition} {accepted = accepted} {otherwise = otherwise} has one other)
          inside h =
          omega (
            arith,
            block_summed one inside (in_accepted declared h condition),
            block_summed other inside (in_otherwise declared works h condition accepted),
            same_nodes h.names condition,
          )
      statement_summed (repeats {scope = scope} {counter = counter} {text = text} {low = low} {high = high} has is new
          all) inside h =
          let b = block_summed all (callable_declared earlier (IsAt at) scope counter text _ inside)
          (in_iteration declared h text low high) in
          let many = ap (λ w. (iterations declared h low high + 1) * (1 + w)) b in
          omega (arith, many, same_nodes h.names low, same_nodes h.names high)

      pub block_summed : {scope : Scope} {control : Label} {b : BlockTree} → AreWellTyped earlier scope control b
          → IsWithin earlier at scope → (h : Here)
          → walked_all declared h.bounds (block known h.names h.next b) ≡ block_work declared works h b
      block_summed no_statement inside h = refl
      block_summed (one_more {statement = s} one other) inside h =
          simp (walked_chain declared)
          (omega (
            arith,
            statement_summed one inside h,
            block_summed other (callable_after earlier (IsAt at) one inside) (behind declared works h s),
          ))

  pub summed_one : (before : List ProcedureTree) (at : Scope) (p : ProcedureTree) → Stand Summed before at
      → IsProcedure before at p → Summed before at p
  summed_one before at p stand typed =
      let inside = callable_parameters before (IsAt at) p.parameters (with_procedure at (length before) p)
      (earlier_within Summed before at stand p typed.is_new) in
      record { work = λ h. block_summed before at stand typed.body inside h; returns = return_together typed.returns }
