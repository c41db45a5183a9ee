-- A well-typed statement evaluates no more nodes than are counted for what it becomes.
use Rattle.std.proofs.Common.{◌≡◌, ℕ, zero, suc, ◌+◌, ◌-◌, ◌≤◌, ◌==◌, Bool, true, false, not, if◌then◌else◌, List, []}
use Rattle.std.proofs.Common.{◌∷◌, length, Option, Some, None, refl, sym, ap, ◌∙◌, subst, arith}
use Rattle.inline.specs.declared.numbering.Numbered.{Numbered}
use Rattle.hepurita.specs.Below.{after_all, AreAllSmall, ArePlain, begun as begun_names, block, BlockTree, body_run}
use Rattle.hepurita.specs.Below.{call_block, call_result, call_run, call_value, call_variables, Callable, callable}
use Rattle.hepurita.specs.Below.{callables, Callee, CallTree, computed, counting, dropped_block}
use Rattle.inline.specs.Flat.{counter_type}
use Rattle.hepurita.specs.Below.{evaluated_all, evaluated_in_iterations, ExprTree, gives, IsPlain, IsSmallRight, Label}
use Rattle.hepurita.specs.Below.{names_after, names_after_all, naming, Numbers, numbers_taken, numbers_taken_all}
use Rattle.hepurita.specs.Below.{passed as passed_block, passed_variables, ProcedureTree, Profile, right}
use Rattle.hepurita.specs.Below.{right_block, right_run, RightTree, Run, run, run_all, Runnable, runnable, runnables}
use Rattle.hepurita.specs.Below.{Scope, single, StatementTree, term, term_nodes, Types}
use Rattle.language.specs.State.{State}
use Rattle.language.specs.Evaluation.{iterations}
use Rattle.hepurita.specs.Below.{types_after_all, value, value_in, value_nodes, value_of, Values, ValueType}
use Rattle.hepurita.specs.Below.{with_parameters, word_arguments, word_as, WordType, written}
use Rattle.language.specs.declared.typing.ValueType.TheVariants.{Word as a_word}
use Rattle.inline.specs.Flat as flat_tree
use Rattle.inline.specs.FlatMeaning as flat
use Rattle.inline.specs.Numbering as numbering
use Rattle.hepurita.proofs.run_bounds_lemmas.Below.{EntersBody, enters, distinct_none, StatementReady, ready_later}
use Rattle.hepurita.proofs.run_bounds_lemmas.Below.{ready_declared, ready_after, Behaves, call_means, no_names}
use Rattle.hepurita.proofs.run_bounds_lemmas.Below.{same_nodes, same_all, same_end, same_ends, Linked, entry}
use Rattle.hepurita.proofs.run_bounds_lemmas.Below.{found-kept, passed_comes, EachCallable, IsCallee}
use Rattle.hepurita.proofs.run_bounds_lemmas.Below.{callable_after, callable_declared, shows_declared, shows_before}
use Rattle.hepurita.proofs.run_bounds_lemmas.Below.{shows_kept, with_value-other, Shows, word_at, means}
use Rattle.hepurita.proofs.run_bounds_lemmas.Below.{value-worked, passed-worked, statement-worked, block-worked}
use Rattle.language.specs.declared.signature.Kind.TheVariants.{Uint32}
use Rattle.language.specs.Evaluation.{given, passed}
use Rattle.language.specs.Meaning.{begun}
use Rattle.language.specs.State.{Word}
use Rattle.language.specs.WellTyped as rules
use Rattle.language.specs.names.Scope.{found}
use Rattle.language.proofs.KnownLemmas.{known-named}
use Rattle.hepurita.proofs.run_bounds_lemmas.Counts.{RunIsWithin, fits, none, then_within, ticked, inside_within}
use Rattle.hepurita.proofs.run_bounds_lemmas.Counts.{reached, value_spends, values_spend, passed_spends}
use Rattle.hepurita.proofs.run_bounds_lemmas.Counts.{given_nodes, evaluated_chain, passed_evaluated}

-- Procedures that may be called.

-- a body evaluates no more nodes than are counted for what it becomes
abbrev pub BodySpends : List ProcedureTree → ProcedureTree → Numbers → ℕ → State → Values → Type 0
BodySpends before p names n s m =
    RunIsWithin (body_run (runnables before) p s)
    (evaluated_all m (block (callables before) names n p.body)
    + value_nodes (value_of (names_after_all (callables before) names n p.body) p.returned))

-- wherever its names go together with numbers
pub record Spends (profile : Profile) (before : List ProcedureTree) (p : ProcedureTree) : Type 0 where
  pub behaves : Behaves profile before p
  pub spends : (names : Numbers) (types : Types) (n : ℕ) (s : State) (m : Values)
      → Linked (with_parameters behaves.scope p.parameters) names types n → Shows names s m
      → BodySpends before p names n s m

-- the statement that each procedure meets, in the scope of those before it
abbrev pub HasBound : List ProcedureTree → Scope → ProcedureTree → Type 0
HasBound before scope p = Spends scope.profile before p

abbrev pub CallsSpend : List ProcedureTree → Scope → Type 0
CallsSpend earlier scope = EachCallable earlier (IsCallee HasBound earlier) scope

-- Iterations, where each evaluates no more nodes than are counted for it.
iterations_spend : (iteration : ℕ → State → Run State) (step : ℕ → Values → Values) (count : ℕ → Values → ℕ)
    (names : Numbers)
    → ((i : ℕ) (s : State) (m : Values) → Shows names s m → RunIsWithin (iteration i s) (count i m))
    → ((i : ℕ) (s : State) (m : Values) (t : State) → Shows names s m → (iteration i s).ends ≡ gives t
    → Shows names t (step i m))
    → (n i : ℕ) (s : State) (m : Values) → Shows names s m
    → RunIsWithin (iterations n i iteration s) (evaluated_in_iterations n i step count m)
iterations_spend iteration step count names each keeps zero i s m shows = none
iterations_spend iteration step count names each keeps (suc n) i s m shows =
    fits
    (ticked (then_within (each i s m shows) (λ t is.
    iterations_spend iteration step count names each keeps n (i + 1) t (step i m) (keeps i s m t shows is))))
    (omega arith)

-- one of two arms
arm_within : {accepted otherwise : Run State} {a o : ℕ} → RunIsWithin accepted a → RunIsWithin otherwise o → (b : Bool)
    → RunIsWithin (if not b then accepted else otherwise) (if b then o else a)
arm_within h k true = k
arm_within h k false = h

-- a result that nothing takes
dropped_evaluated : (k : ℕ) (result : Option WordType) (value : Option flat_tree.TermTree) (m : Values)
    → (result ≡ None → value ≡ None) → value_nodes value ≤ evaluated_all m (dropped_block k result value)
dropped_evaluated k None value m none = let e = ap value_nodes (none refl) in omega (arith, e)
dropped_evaluated k (Some word) value m none = omega (arith, given_nodes value)

module _ (ps : List ProcedureTree) where
  module _ (scope : Scope) (names : Numbers) (n : ℕ) (ready : StatementReady ps scope names n) where
    -- a call
    module _ (c : CallTree) (callee : Callee) (p : ProcedureTree)
        (counted : IsCallee HasBound ps scope.profile c.name callee p)
        (passed_are : rules.ArePassed scope p.parameters c.arguments) where
      abbrev own : Numbers
      own = begun_names names [] n p.parameters c.arguments

      abbrev start : ℕ
      start = n + length (passed_variables p.parameters c.arguments)

      abbrev own_types : Types
      own_types = types_after_all ready.types (passed_block names n p.parameters c.arguments)

      entered : EntersBody counted.good.behaves.scope names p.parameters c.arguments own own_types start
      entered =
          enters passed_are counted.good.behaves.parameters ready.linked
          (no_names counted.good.behaves.procedures
          (ready.linked.observed ∙ sym (counted.good.behaves.observed ∙ counted.observed)) ready.linked.fresh)
          (distinct_none names p.parameters c.arguments)

      abbrev CallSpends : Option Runnable → Option Callable → State → Values → Type 0
      CallSpends known there s m =
          RunIsWithin (call_run known s c)
          (1 + evaluated_all m (call_block there names n c.arguments)
          + value_nodes (call_value there names n c.arguments))

      own_spends : (s : State) (m : Values) → Shows names s m → AreAllSmall c.arguments
          → CallSpends (Some (runnable (runnables counted.before) p))
          (Some (callable (callables counted.before) p)) s m
      own_spends s m shows small =
          let words = word_arguments p.parameters c.arguments in
          let tree = passed_block names n p.parameters c.arguments in
          fits
          (ticked (then_within (passed_spends s words) (λ vs is.
          let held = reached (passed_comes passed_are small ready.linked m shows)
          (passed s words).ends (λ e d. passed-worked s words e d) vs is in
          then_within (inside_within (counted.good.spends own own_types start (begun s p.parameters c.arguments vs)
          (after_all m tree) entered.linked (λ text x there. held [] text x refl there)))
          (λ r is'. none))))
          (omega (
            arith,
            evaluated_chain tree (block (callables counted.before) own start p.body) m,
            passed_evaluated names p.parameters c.arguments n m,
          ))

      call_spends_here : (s : State) (m : Values) → Shows names s m → AreAllSmall c.arguments
          → CallSpends (runnables ps c.name) (callables ps c.name) s m
      call_spends_here s m shows small =
          subst (λ known. CallSpends known (callables ps c.name) s m)
          (sym (known-named runnable ps counted.before p c.name counted.is))
          (subst (λ there. CallSpends (Some (runnable (runnables counted.before) p)) there s m)
          (sym (known-named callable ps counted.before p c.name counted.is))
          (own_spends s m shows small))

    module _ (calls : CallsSpend ps scope) where
      call_spends : {control : Label} {c : CallTree} {type : ValueType} → rules.IsCall ps scope control c type
          → (s : State) (m : Values) → Shows names s m → AreAllSmall c.arguments
          → RunIsWithin (call_run (runnables ps c.name) s c)
          (1 + evaluated_all m (call_block (callables ps c.name) names n c.arguments)
          + value_nodes (call_value (callables ps c.name) names n c.arguments))
      call_spends (rules.of_procedure {c = c} {callee = callee} {p = p} is there are may) s m shows small =
          call_spends_here c callee p (calls c.name callee p is there) are s m shows small

      expression_spends : (s : State) (e : ExprTree)
          → RunIsWithin (right_run (runnables ps) s (computed e)) (term_nodes (term names e))
      expression_spends s e =
          fits (then_within (value_spends s e) (λ v is. none)) (omega (arith, same_nodes names e))

      right_spends : {control : Label} {from : RightTree} {word : WordType}
          → rules.RightHasType ps scope control from (a_word word) → (s : State) (m : Values) → Shows names s m
          → IsSmallRight from
          → RunIsWithin (right_run (runnables ps) s from)
          (evaluated_all m (right_block (callables ps) names n from)
          + term_nodes (right (callables ps) names n from))
      right_spends (rules.of_value {e = e} has) s m shows small = fits (expression_spends s e) (omega arith)
      right_spends (rules.of_call {c = c} is) s m shows small =
          fits (call_spends is s m shows small)
          (simp evaluated_chain (omega (arith, given_nodes (call_value (callables ps c.name) names n c.arguments))))

  mutual
    pub statement_spends : {scope : Scope} {control : Label} {statement : StatementTree}
        → rules.IsWellTyped ps scope control statement → (names : Numbers) (n : ℕ) → StatementReady ps scope names n
        → CallsSpend ps scope
        → IsPlain statement → (s : State) (m : Values) → Shows names s m
        → RunIsWithin (run (runnables ps) s statement)
        (evaluated_all m (numbering.statement (callables ps) names n statement))
    statement_spends (rules.declares new has suit flow) names n ready calls plain s m shows =
        fits (ticked (then_within (right_spends _ names n ready calls has s m shows plain) (λ r is. none)))
        (simp evaluated_chain (omega arith))
    statement_spends (rules.declares_array {values = initial} new all count flow) names n ready calls plain s m shows =
        fits (ticked (then_within (values_spend s (written initial)) (λ vs is. none)))
        (omega (arith, same_all names (written initial)))
    statement_spends (rules.assigns is has suit flow) names n ready calls plain s m shows =
        fits (ticked (then_within (right_spends _ names n ready calls has s m shows plain) (λ r is'. none)))
        (simp evaluated_chain (omega arith))
    statement_spends (rules.assigns_element {index = index} is has (rules.of_value {e = e} given) suit flow)
        names n ready calls plain s m shows =
        fits
        (ticked (ticked (then_within (value_spends s index) (λ u is'. then_within none (λ old there.
        then_within (expression_spends _ names n ready calls s e) (λ r are. none))))))
        (omega (arith, same_nodes names index))
    statement_spends (rules.assigns_element {index = index} is has (rules.of_call {c = c} given) suit flow)
        names n ready calls plain s m shows =
        let held = value_in m (term names index) ∷ [] in
        let began = flat.with_value m n held in
        let next = ready_later {m = n + 1} (omega arith) ready in
        let shown = shows_kept names s m began shows (λ name x there. let low = ready.linked.below name x there in
        with_value-other m n x.number held (λ z. omega arith)) in
        fits
        (ticked (ticked (then_within (value_spends s index) (λ u is'. then_within none (λ old there.
        then_within (call_spends _ names (n + 1) next calls given s began shown plain.1) (λ r are. none))))))
        (simp evaluated_chain (omega (
          arith,
          same_nodes names index,
          given_nodes (call_value (callables ps c.name) names (n + 1) c.arguments),
        )))
    statement_spends (rules.calls {scope = scope} {c = c} is) names n ready calls plain s m shows =
        let known = call_means ready is in
        let tree = call_block (callables ps c.name) names n c.arguments in
        let k = n + length (call_variables (callables ps c.name) c.arguments) in
        let result = call_result (callables ps c.name) in
        let taken = call_value (callables ps c.name) names n c.arguments in
        fits (then_within (call_spends scope names n ready calls is s m shows plain) (λ r are. none))
        (omega (
          arith,
          evaluated_chain tree (dropped_block k result taken) m,
          dropped_evaluated k result taken (after_all m tree) known.nothing,
        ))
    statement_spends (rules.chooses {scope = scope} {condition = condition} {accepted = accepted} {otherwise =
        otherwise} has one other) names n ready calls plain s m shows =
        let k = n + numbers_taken_all (callables ps) accepted in
        let next = ready_later {m = k} (omega arith) ready in
        let v = value_in m (term names condition) in
        let arms = arm_within (block_spends one names n ready calls plain.1 s m shows)
        (block_spends other names k next calls plain.2 s m shows) (v == 0) in
        fits
        (ticked (then_within (value_spends s condition) (λ c is.
        let same = reached ((means ready.linked has plain.0).value s m shows)
        (value s condition).ends (λ e d. value-worked s condition e d) c is in
        subst (λ (w : Word). RunIsWithin (if not (w.value == 0) then run_all (runnables ps) s accepted
        else run_all (runnables ps) s otherwise) (if v == 0
        then evaluated_all m (block (callables ps) names k otherwise)
        else evaluated_all m (block (callables ps) names n accepted))) (sym same) arms)))
        (omega (arith, same_nodes names condition))
    statement_spends (rules.repeats {scope = scope} {counter = counter} {text = text} {low = low} {high = high} {body = body} one other
        new inner) names n ready calls plain s m shows =
        let a = value_in m (term names low) in
        let b = value_in m (term names high) in
        let own = word_as counter_type false in
        let inside_names = naming names text n own in
        let flat_body = block (callables ps) inside_names (n + 1) body in
        let step = λ (i : ℕ) (t : Values). after_all (flat.with_value t n (i ∷ [])) flat_body in
        let count = λ (i : ℕ) (t : Values). evaluated_all (flat.with_value t n (i ∷ [])) flat_body in
        let iteration = λ (i : ℕ) (t : State). run_all (runnables ps) (counting t text i) body in
        let began = λ (i : ℕ) (s : State) (m : Values) (shows : Shows names s m).
        shows_declared ready.linked s m shows text {own = own} {v = single (word_at Uint32 i)} {numbers = i ∷ []}
        (record { is = refl; count = refl }) new in
        let within = ready_declared ready counter text own new in
        let calls_within = callable_declared ps (IsCallee HasBound ps) scope counter text _ calls in
        let each = λ (i : ℕ) (s : State) (m : Values) (shows : Shows names s m).
        block_spends inner inside_names (n + 1) within calls_within plain.2 (counting s text i)
        (flat.with_value m n (i ∷ [])) (began i s m shows) in
        let keeps = λ (i : ℕ) (s : State) (m : Values) (t : State) (shows : Shows names s m)
        (is : (iteration i s).ends ≡ gives t).
        let good =
        reached (same_ends inner within plain.2 (counting s text i)
        (flat.with_value m n (i ∷ [])) (began i s m shows)) (iteration i s).ends
        (λ e d. block-worked ps (counting s text i) body e d) t is in
        λ (other : List ℕ) (x : Numbered) (there : found names other ≡ Some x).
        shows_before (callables ps) body inside_names (n + 1) t (step i m) good other x
        (found-kept names text (entry n own) other x there) in
        let most = evaluated_in_iterations (b - a) a step count m in
        let all = iterations_spend iteration step count names each keeps (b - a) a s m shows in
        fits
        (ticked (then_within (value_spends s low) (λ u is. then_within (value_spends s high) (λ w is'.
        let first = reached ((means ready.linked one plain.0).value s m shows)
        (value s low).ends (λ e d. value-worked s low e d) u is in
        let second = reached ((means ready.linked other plain.1).value s m shows)
        (value s high).ends (λ e d. value-worked s high e d) w is' in
        subst (λ (y : Word). RunIsWithin (iterations (y.value - u.value) u.value iteration s) most) (sym second)
        (subst (λ (x : Word). RunIsWithin (iterations (b - x.value) x.value iteration s) most) (sym first) all)))))
        (omega (arith, same_nodes names low, same_nodes names high))

    pub block_spends : {scope : Scope} {control : Label} {b : BlockTree} → rules.AreWellTyped ps scope control b
        → (names : Numbers) (n : ℕ) → StatementReady ps scope names n → CallsSpend ps scope
        → ArePlain b → (s : State) (m : Values) → Shows names s m
        → RunIsWithin (run_all (runnables ps) s b) (evaluated_all m (block (callables ps) names n b))
    block_spends rules.no_statement names n ready calls plain s m shows = none
    block_spends (rules.one_more {statement = statement} {rest = rest} here there) names n ready calls plain
        s m shows =
        let tree = numbering.statement (callables ps) names n statement in
        let later_names = names_after (callables ps) names n statement in
        let more = block (callables ps) later_names (n + numbers_taken (callables ps) statement) rest in
        fits
        (then_within (statement_spends here names n ready calls plain.0 s m shows) (λ t is.
        let good = reached (same_end here ready plain.0 s m shows) (run (runnables ps) s statement).ends
        (λ e d. statement-worked ps s statement e d) t is in
        block_spends there later_names _ (ready_after here ready)
        (callable_after ps (IsCallee HasBound ps) here calls) plain.1 t (after_all m tree) good))
        (omega (arith, evaluated_chain tree more m))
