-- A well-typed statement comes to the same once its names are numbers.
use Rattle.std.proofs.Common.{◌≡◌, ℕ, zero, suc, ◌+◌, ◌-◌, ◌<◌, ◌==◌, Bool, true, false, not, List, [], ◌∷◌, length}
use Rattle.std.proofs.Common.{map, Option, Some, None, slice_index, slice_set, refl, sym, ap, ap₂, ◌∙◌, arith, inl}
use Rattle.std.proofs.Common.{inr}
use Rattle.std.proofs.lemmas.Bool.{cases_Bool}
use Rattle.std.proofs.lemmas.List.{length-set, length-replicate, length-map}
use Rattle.inline.specs.Below.{an_iteration, accepts, AreAllSmall, ArePlain, Array, ArrayType, assignment_faults}
use Rattle.inline.specs.Below.{BlockTree, bounds_fault, call_faults, condition_faults, counting, declaration_faults}
use Rattle.inline.specs.Below.{declines, ends, EvaluatesAll, expr_faults, ExprTree, first_value_faults, goes_on}
use Rattle.inline.specs.Below.{IsPlain, IsVariable, Kind, Label, labelled, later_faults, loops, made_array}
use Rattle.inline.specs.Below.{no_iteration, none_left, of_expr, operand_faults, Place, ProcedureTree, right_faults}
use Rattle.inline.specs.Below.{Runs, RunsAll, Scope, single, State, StatementTree, stops, target_faults, this_faults}
use Rattle.inline.specs.Below.{iteration_faults, Iterations, Uint32, with_element, with_some, with_value, word_given}
use Rattle.inline.specs.Below.{WordType, written}
use Rattle.inline.specs.Flat as flat_tree
use Rattle.inline.specs.Flat.{word_as, array_as, TermTree}
use Rattle.inline.specs.FlatMeaning.{Values, value_in, path_in, path_in_all, elements, after_all, path_at, path_along}
use Rattle.inline.specs.FlatMeaning.{path_of_iterations, path_of_result}
use Rattle.inline.specs.FlatMeaning as flat
use Rattle.inline.specs.FlatTyping.{Types, counter_type}
use Rattle.inline.specs.Numbering as numbering
use Rattle.inline.specs.Numbering.{Numbers, callables, number_of, size_of, term, block, naming, names_after}
use Rattle.inline.specs.Numbering.{names_after_all, numbers_taken_all, right, right_end, call_block, call_value}
use Rattle.inline.specs.Numbering.{call_result, call_variables, dropped_block, value_given}
use Rattle.inline.specs.Path.{Path, either, first_fault}
use Rattle.language.specs.Meaning.{one_more, declares, declares_array, assigns, assigns_element, calls}
use Rattle.language.specs.State as state
use Rattle.language.specs.WellTyped as rules
use Rattle.inline.proofs.Called.{Spares, StatementReady, ready_later, ready_declared, ready_after}
use Rattle.inline.proofs.CallEnds.{call_means}
use Rattle.inline.proofs.Chains.{after_chain, fault_chain}
use Rattle.inline.proofs.Comes.{Comes, well, then_comes, also, either-assoc, either-none, across}
use Rattle.inline.proofs.FlatTypes.{small_values}
use Rattle.inline.proofs.Kept.{dropped_keeps}
use Rattle.inline.proofs.Linked.{Linked, entry, not_named}
use Rattle.inline.proofs.Below.{found-kept}
use Rattle.inline.proofs.Rights.{right_means, call_gives, path_given}
use Rattle.inline.proofs.States.{shows_declared, shows_changed, shows_before, shows_kept, with_value-other}
use Rattle.inline.proofs.States.{with_value-same}
use Rattle.inline.proofs.Terms.{VariableHolds, Shows, word_at, element_comes, means}

-- Words.

holds_word : (own : WordType) (mutable : Bool) (w : state.Word) (v : ℕ) → w ≡ word_at own.kind v
    → VariableHolds (word_as own mutable) (Some (single w)) (v ∷ [])
holds_word own mutable w v same = record { is = ap (λ u. Some (single u)) same; count = refl }

-- Arrays.

unworded : (kind : Kind) (vs : List ℕ) → map (λ (w : state.Word). w.value) (map (word_at kind) vs) ≡ vs
unworded kind [] = refl
unworded kind (v ∷ vs) = ap (λ us. v ∷ us) (unworded kind vs)

-- a new array holds its first values, or zeros
made_elements : (kind : Kind) (size : ℕ) (m : Values) (es : List TermTree)
    → made_array kind size (map (word_at kind) (map (value_in m) es)) ≡ state.array kind (elements m size es)
made_elements kind size m [] = refl
made_elements kind size m (e ∷ es) =
    ap (λ us. state.array kind (value_in m e ∷ us)) (unworded kind (map (value_in m) es))

filled_count : (m : Values) (names : Numbers) {size : ℕ} {values : Option (List ExprTree)}
    → rules.HasCount size values
    → length (elements m size (map (term names) (written values))) ≡ size
filled_count m names {size = size} rules.all_zero = length-replicate size 0
filled_count m names {size = size} (rules.all_given {values = []} is) = length-replicate size 0
filled_count m names {size = size} (rules.all_given {values = e ∷ es} is) =
    length-map (map (term names) (e ∷ es)) (value_in m) ∙ (length-map (e ∷ es) (term names) ∙ is)

-- Loops.

-- so many iterations, where each comes to the same
module _ (ps : List ProcedureTree) (text : List ℕ) (body : BlockTree) (names : Numbers)
    (iteration : ℕ → Values → Values)
    (path : ℕ → Values → Path)
    (step : (i : ℕ) (s : State) (m : Values) → Shows names s m
    → Comes (RunsAll ps (counting s text i) body) (λ t. Shows names t (iteration i m)) (first_fault (path i m))) where
  same_iterations : (k i n : ℕ) (s : State) (m : Values) → n - i ≡ k → Shows names s m
      → Comes (Iterations ps s text body i n) (λ t. Shows names t (flat.iterations k i iteration m))
      (first_fault (path_of_iterations k i iteration path m))
  same_iterations zero i n s m count shows = well s (no_iteration (omega arith)) shows
  same_iterations (suc k) i n s m count shows =
      let more : i < n = omega arith in
      rw (across (path i m) (path_of_iterations k (i + 1) iteration path (iteration i m)))
      (then_comes (step i s m shows)
      (λ t is good. also (same_iterations k (i + 1) n t (iteration i m) (omega arith) good)
      (λ u are shows. (u, an_iteration more is are, shows)) (λ at are. an_iteration more is are))
      (λ at is. iteration_faults more is))

-- a mark that is met twice
met_twice : (a k c q : Option Place) → either (either a (either k None)) (either c (either k q))
    ≡ either a (either k (either c q))
met_twice (Some at) k c q = refl
met_twice None (Some at) c q = refl
met_twice None None c q = refl

-- a result that nothing takes
dropped_fault : (k : ℕ) (result : Option WordType) (value : Option TermTree) (m : Values)
    → (result ≡ None → value ≡ None) → first_fault (path_along m (dropped_block k result value)) ≡ first_fault
    (path_of_result m value)
dropped_fault k None value m none = ap (λ v. first_fault (path_of_result m v)) (sym (none refl))
dropped_fault k (Some word) value m none = rw (across, either-none, path_given m value) refl

-- an element is assigned to
element_shown : {scope : Scope} {names : Numbers} {types : Types} {n : ℕ} → Linked scope names types n
    → (text : List ℕ) (own : ArrayType) → IsVariable scope text (Array own) true → (s : State) (m : Values)
    → Shows names s m → {u w : state.Word} {i v : ℕ} → u ≡ word_at Uint32 i → w ≡ word_at own.element.kind v
    → Shows names (with_some s text (with_element (s text) u.value w))
    (flat.with_value m (number_of names text) (slice_set (m (number_of names text)) i v))
element_shown {names = names} linked text own is s m shows {i = i} {v = v} same alike =
    let d = array_as own.element true own.length in
    let x = linked.known text d is in
    let y = number_of names text in
    let holds = shows text (entry y d) x.found in
    let changed : VariableHolds d (Some (state.array own.element.kind (slice_set (m y) i v))) (slice_set (m y) i v) =
    record { is = refl; count = length-set (m y) i v ∙ holds.count } in
    rw (same, alike, holds.is)
    (shows_changed linked s m shows text changed y x.found refl)

-- what is to be shown of a statement and of a block
abbrev pub SameEnd : List ProcedureTree → Numbers → ℕ → StatementTree → State → Values → Type 0
SameEnd ps names n statement s m =
    let tree = numbering.statement (callables ps) names n statement in
    Comes (Runs ps s statement) (λ t. Shows (names_after (callables ps) names n statement) t (after_all m tree))
    (first_fault (path_along m tree))

abbrev pub SameEnds : List ProcedureTree → Numbers → ℕ → BlockTree → State → Values → Type 0
SameEnds ps names n b s m =
    let tree = block (callables ps) names n b in
    Comes (RunsAll ps s b) (λ t. Shows (names_after_all (callables ps) names n b) t (after_all m tree))
    (first_fault (path_along m tree))

-- the first values of an array
values_come : {scope : Scope} {names : Numbers} {types : Types} {n : ℕ} → Linked scope names types n
    → (s : State) (m : Values) → Shows names s m → {wanted : WordType} {es : List ExprTree}
    → rules.AllSuit scope wanted es → AreAllSmall es
    → Comes (EvaluatesAll s es) (λ vs. vs ≡ map (word_at wanted.kind) (map (value_in m) (map (term names) es)))
    (first_fault (path_in_all m (map (term names) es)))
values_come linked s m shows rules.none_wanted small = well [] none_left refl
values_come linked s m shows (rules.one_suits has (rules.suits flow) all) small =
    rw across (then_comes ((means linked has small.0).value s m shows)
    (λ v is same. also (values_come linked s m shows all small.1)
    (λ vs are alike. (v ∷ vs, one_more is are, ap₂ (λ v vs. v ∷ vs) same alike)) (λ at are. later_faults is are))
    (λ at is. this_faults is))

module _ {ps : List ProcedureTree} where
  mutual
    pub same_end : {scope : Scope} {control : Label} {statement : StatementTree}
        → rules.IsWellTyped ps scope control statement → {names : Numbers} {n : ℕ} → StatementReady ps scope names n
        → IsPlain statement → (s : State) (m : Values) → Shows names s m → SameEnd ps names n statement s m
    same_end (rules.declares {label = label} {mutable = mutable} {kind = kind} {text = text} {right = value} new has
        (rules.suits suits) flow) {n = n} ready plain s m shows =
        let next = ready_later {m = right_end (callables ps) n value} (omega arith) ready in
        rw (after_chain, fault_chain, across, either-none)
        (also ((right_means ready has).comes s m shows plain)
        (λ r is good. (
          with_value r.state text (single (word_given r.word)),
          declares is,
          shows_declared next.linked r.state _ good.shows text
              (holds_word (labelled kind label) mutable (word_given r.word) _ good.word) new,
        ))
        (λ at is. declaration_faults is))
    same_end (rules.declares_array {label = label} {mutable = mutable} {kind = kind} {size = size} {text = text}
        {values = values} new all count flow) {names = names} ready plain s m shows =
        let terms = map (term names) (written values) in
        let d = array_as (labelled kind label) mutable size in
        rw (across, either-none)
        (also (values_come ready.linked s m shows all (small_values values plain.1))
        (λ vs is same.
        let holds : VariableHolds d (Some (made_array kind size vs)) (elements m size terms) = record {
          is = rw same (ap Some (made_elements kind size m terms));
          count = filled_count m names count;
        } in (
          with_value s text (made_array kind size vs),
          declares_array is,
          shows_declared ready.linked s m shows text holds new,
        ))
        (λ at is. first_value_faults is))
    same_end (rules.assigns {text = text} is has (rules.suits {kind = kind} {wanted = label} suits) flow)
        {names = names} ready plain s m shows =
        let own = labelled kind label in
        let x = ready.linked.known text (word_as own true) is in
        rw (after_chain, fault_chain, across, either-none)
        (also ((right_means ready has).comes s m shows plain)
        (λ r is good. (
          with_value r.state text (single (word_given r.word)),
          assigns is,
          shows_changed ready.linked r.state _ good.shows text
              (holds_word own true (word_given r.word) _ good.word) (number_of names text) x.found refl,
        ))
        (λ at is. assignment_faults is))
    same_end (rules.assigns_element {bracket = bracket} {target = target} {text = text} {array = own} is has
        (rules.of_value given) (rules.suits suits) flow) ready plain s m shows =
        let x = ready.linked.known text (array_as own.element true own.length) is in
        rw (across, either-none, across)
        (then_comes ((means ready.linked has plain.0).value s m shows)
        (λ u one same.
        then_comes (element_comes x s m shows bracket target one same)
        (λ old there _.
        also ((means ready.linked given plain.1).value s m shows)
        (λ w are alike. (
          with_some s text (with_element (s text) u.value w),
          assigns_element there one (of_expr are),
          element_shown ready.linked text own is s m shows same alike,
        ))
        (λ at are. right_faults there (expr_faults are)))
        (λ at there. target_faults there))
        (λ at one. target_faults (operand_faults (this_faults one))))
    same_end (rules.assigns_element {bracket = bracket} {target = target} {text = text} {index = index} {array = own}
        is has (rules.of_call {c = c} given) (rules.suits suits) flow) {names = names} {n = n} ready plain s m shows =
        let i = value_in m (term names index) in
        let x = ready.linked.known text (array_as own.element true own.length) is in
        let held = flat_tree.hold n bracket (size_of names text) (term names index) in
        let began = flat.with_value m n (i ∷ []) in
        let next = ready_later {m = n + 1} (omega arith) ready in
        let tree = call_block (callables ps c.name) names (n + 1) c.arguments in
        let taken = value_given (call_value (callables ps c.name) names (n + 1) c.arguments) in
        let end = after_all began tree in
        let shown = shows_kept names s m began shows
        (λ name x there. with_value-other m n x.number (i ∷ []) (not_named ready.linked name x there)) in
        let spares : Spares names (n + 1) n = record {
          below = omega arith;
          spared = λ name x there free. not_named ready.linked name x there;
        } in
        let here : slice_index (end n) 0 ≡ i = ap (λ ns. slice_index ns 0)
        ((call_means next given).keeps n spares began ∙ with_value-same m n (i ∷ [])) in
        rw (
          after_chain,
          across (path_at m held),
          across (path_in m (term names index)),
          fault_chain,
          across (path_in end taken),
          either-none (first_fault (path_in end taken)),
          here,
          met_twice,
        )
        (then_comes ((means ready.linked has plain.0).value s m shows)
        (λ u one same.
        then_comes (element_comes x s m shows bracket target one same)
        (λ old there _.
        also (call_gives next given s began shown plain.1)
        (λ r are good. (
          with_some r.state text (with_element (r.state text) u.value (word_given r.word)),
          assigns_element there one are,
          element_shown ready.linked text own is r.state end good.shows same good.word,
        ))
        (λ at are. right_faults there are))
        (λ at there. target_faults there))
        (λ at one. target_faults (operand_faults (this_faults one))))
    same_end (rules.calls {c = c} is) {names = names} {n = n} ready plain s m shows =
        let known = call_means ready is in
        let o = callables ps c.name in
        let k = n + length (call_variables o c.arguments) in
        let value = call_value o names n c.arguments in
        let end = after_all m (call_block o names n c.arguments) in
        rw (after_chain, fault_chain, dropped_fault k (call_result o) value end known.nothing)
        (also (known.comes s m shows plain)
        (λ r are agrees. (
          r.state,
          calls are,
          shows_kept names r.state end (after_all end (dropped_block k (call_result o) value)) agrees.shows
              (λ name x there. dropped_keeps k x.number (omega (arith, ready.linked.below name x there))
              (call_result o) value end),
        ))
        (λ at are. call_faults are))
    same_end (rules.chooses {condition = condition} {accepted = accepted} {otherwise = otherwise} has one other)
        {names = names} {n = n} ready plain s m shows =
        let k = n + numbers_taken_all (callables ps) accepted in
        rw (across, either-none, across)
        (then_comes ((means ready.linked has plain.0).value s m shows)
        (λ c is same.
        let truth = ap (λ (w : state.Word). not (w.value == 0)) same in
        elim (cases_Bool (value_in m (term names condition) == 0)) [
          | inl off ↦ rw off (also (same_ends other (ready_later {m = k} (omega arith) ready) plain.2 s m shows)
              (λ t are good. (
                t,
                declines is (truth ∙ ap not off) are,
                shows_before (callables ps) otherwise names k t _ good,
              ))
              (λ at are. declines is (truth ∙ ap not off) are))
          | inr on ↦ rw on (also (same_ends one ready plain.1 s m shows)
              (λ t are good. (
                t,
                accepts is (truth ∙ ap not on) are,
                shows_before (callables ps) accepted names n t _ good,
              ))
              (λ at are. accepts is (truth ∙ ap not on) are))
        ])
        (λ at is. condition_faults is))
    same_end (rules.repeats {counter = counter} {text = text} {low = low} {high = high} {body = body} one other new
        inner) {names = names} {n = n} ready plain s m shows =
        let a = value_in m (term names low) in
        let b = value_in m (term names high) in
        let own = word_as counter_type false in
        let inside = naming names text n own in
        let flat_body = block (callables ps) inside (n + 1) body in
        let iteration = λ (i : ℕ) (t : Values). after_all (flat.with_value t n (i ∷ [])) flat_body in
        let path = λ (i : ℕ) (t : Values). path_along (flat.with_value t n (i ∷ [])) flat_body in
        let step = λ (i : ℕ) (s : State) (m : Values) (shows : Shows names s m).
        also (same_ends inner (ready_declared ready counter text own new) plain.2 (counting s text i)
        (flat.with_value m n (i ∷ []))
        (shows_declared ready.linked s m shows text (holds_word counter_type false (word_at Uint32 i) i refl) new))
        (λ t is good. (
          t,
          is,
          (λ other x is. shows_before (callables ps) body inside (n + 1) t (iteration i m) good other x
              (found-kept names text (entry n own) other x is)),
        )) (λ at is. is) in
        rw (across, either-none, across, across, either-assoc)
        (then_comes ((means ready.linked one plain.0).value s m shows)
        (λ u first same.
        then_comes ((means ready.linked other plain.1).value s m shows)
        (λ v second alike.
        let are = one_more (rw same at first) (one_more (rw alike at second) none_left) in
        also (same_iterations ps text body names iteration path step (b - a) a b s m refl shows)
        (λ t all good. (t, loops are all, good)) (λ at all. loops are all))
        (λ at is. bounds_fault (later_faults first (this_faults is))))
        (λ at is. bounds_fault (this_faults is)))

    pub same_ends : {scope : Scope} {control : Label} {b : BlockTree} → rules.AreWellTyped ps scope control b
        → {names : Numbers} {n : ℕ} → StatementReady ps scope names n
        → ArePlain b → (s : State) (m : Values) → Shows names s m → SameEnds ps names n b s m
    same_ends rules.no_statement ready plain s m shows = well s ends shows
    same_ends (rules.one_more here there) ready plain s m shows =
        rw (after_chain, fault_chain)
        (then_comes (same_end here ready plain.0 s m shows)
        (λ t is good.
        also (same_ends there (ready_after here ready) plain.1 t _ good)
        (λ u are shows. (u, goes_on is are, shows)) (λ at are. goes_on is are))
        (λ at is. stops is))
