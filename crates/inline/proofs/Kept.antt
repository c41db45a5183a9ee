-- A well-typed statement changes its own numbers and those of mutable names, and no others.
use Rattle.std.proofs.Common.{◌≡◌, ℕ, ◌+◌, ◌<◌, ◌≤◌, ◌==◌, true, false, List, [], ◌∷◌, length, Option, Some, None}
use Rattle.std.proofs.Common.{inl, inr, refl, sym, ap, ◌∙◌, arith}
use Rattle.std.proofs.lemmas.Bool.{cases_Bool}
use Rattle.inline.specs.declared.flat.FlatVariable.{FlatVariable}
use Rattle.inline.specs.declared.numbering.Numbered.{Numbered}
use Rattle.inline.specs.Flat.{word_as, array_as}
use Rattle.inline.specs.FlatMeaning.{Values, value_in, after_all}
use Rattle.inline.specs.FlatMeaning as flat_meaning
use Rattle.inline.specs.FlatTyping.{counter_type}
use Rattle.inline.specs.Numbering.{Numbers, callables, naming, number_of, term, statement, block, names_after}
use Rattle.inline.specs.Numbering.{numbers_taken, right, right_block, right_end, call_block, call_value, call_result}
use Rattle.inline.specs.Numbering.{call_variables, dropped_block}
use Rattle.inline.specs.Below.{AreWellTyped, assigns, assigns_element, BlockTree, calls, chooses, declares}
use Rattle.inline.specs.Below.{declares_array, found, IsWellTyped, Label, labelled, no_statement, of_call, of_value}
use Rattle.inline.specs.Below.{one_more, ProcedureTree, repeats, Scope, StatementTree, Variable, WordType}
use Rattle.inline.specs.Flat.{TermTree}
use Rattle.inline.proofs.Called.{Spares, StatementReady, ready_later, ready_declared, ready_after}
use Rattle.inline.proofs.CallEnds.{call_means}
use Rattle.inline.proofs.Chains.{after_chain, iterations_keep}
use Rattle.inline.proofs.Linked.{entry, variable_as}
use Rattle.inline.proofs.Below.{found-split}
use Rattle.inline.proofs.Rights.{right_means}
use Rattle.inline.proofs.States.{with_value-other}

-- with one more name, of a number of its own
spares_named : {names : Numbers} {n m x : ℕ} → Spares names n x → (text : List ℕ) (k : ℕ) (d : FlatVariable) → n ≤ k
    → n ≤ m → Spares (naming names text k d) m x
spares_named {names = names} spares text k d one other = record {
  below = omega arith;
  spared = λ name y is free same. elim (found-split names text (entry k d) name y is) [
    | inl old ↦ spares.spared name y old free same
    | inr new ↦ (let number = ap (λ (z : Numbered). z.number) new.1 in omega (arith, spares.below))
  ];
}

spares_later : {names : Numbers} {n m x : ℕ} → n ≤ m → Spares names n x → Spares names m x
spares_later more spares = record { below = omega arith; spared = spares.spared }

spares_after : {earlier : List ProcedureTree} {scope : Scope} {control : Label} {s : StatementTree}
    → IsWellTyped earlier scope control s → {names : Numbers} {n x : ℕ} → Spares names n x
    → Spares (names_after (callables earlier) names n s) (n + numbers_taken (callables earlier) s) x
spares_after {earlier = earlier} (declares {label = label} {mutable = mutable} {kind = kind} {text = text}
    {right = right} new has suit flow) {n = n} spares =
    spares_named spares text (right_end (callables earlier) n right) (word_as (labelled kind label) mutable)
    (omega arith) (omega arith)
spares_after (declares_array {label = label} {mutable = mutable} {kind = kind} {size = size} {text = text} new all
    count flow) {n = n} spares =
    spares_named spares text n (array_as (labelled kind label) mutable size) (omega arith) (omega arith)
spares_after other spares = spares_later (omega arith) spares

-- a result that nothing takes goes into a new variable
pub dropped_keeps : (k x : ℕ) → x < k → (result : Option WordType) (value : Option TermTree) (m : Values)
    → after_all m (dropped_block k result value) x ≡ m x
dropped_keeps k x low None value m = refl
dropped_keeps k x low (Some word) value m = with_value-other m k x _ (λ q. omega arith)

module _ {earlier : List ProcedureTree} where
  -- what may be assigned to is none of them
  not_spared : {scope : Scope} {names : Numbers} {n x : ℕ} → StatementReady earlier scope names n → Spares names n x
      → (text : List ℕ) (d : FlatVariable) → found scope.names text ≡ Some (Variable (variable_as d))
      → d.mutable ≡ true → x ≡ number_of names text → ⊥
  not_spared ready spares text d is free same =
      spares.spared text _ (ready.linked.known text d is).found free (sym same)

  mutual
    pub statement_keeps : {scope : Scope} {control : Label} {s : StatementTree} → IsWellTyped earlier scope control s
        → {names : Numbers} {n : ℕ} → StatementReady earlier scope names n → {x : ℕ} → Spares names n x → (m : Values)
        → after_all m (statement (callables earlier) names n s) x ≡ m x
    statement_keeps (declares {right = value} new has suit flow) {names = names} {n = n} ready {x = x} spares m =
        let known = callables earlier in
        rw after_chain (with_value-other (after_all m (right_block known names n value)) (right_end known n value) x _
        (λ q. omega (arith, spares.below)) ∙ (right_means ready has).keeps x spares m)
    statement_keeps (declares_array new all count flow) {n = n} ready {x = x} spares m =
        with_value-other m n x _ (λ q. omega (arith, spares.below))
    statement_keeps (assigns {text = text} {right = value} {wanted = wanted} is has suit flow) {names = names} {n = n}
        ready {x = x} spares m =
        rw after_chain (with_value-other (after_all m (right_block (callables earlier) names n value))
        (number_of names text) x _ (not_spared ready spares text (word_as wanted true) is refl)
        ∙ (right_means ready has).keeps x spares m)
    statement_keeps (assigns_element {text = text} {array = array} is has (of_value value) suit flow) {names = names}
        ready {x = x} spares m = with_value-other m (number_of names text) x _
        (not_spared ready spares text (array_as array.element true array.length) is refl)
    statement_keeps (assigns_element {text = text} {index = index} {array = array} is has (of_call {c = c} value) suit
        flow) {names = names} {n = n} ready {x = x} spares m =
        let next = flat_meaning.with_value m n (value_in m (term names index) ∷ []) in
        rw after_chain
        (with_value-other (after_all next (call_block (callables earlier c.name) names (n + 1) c.arguments))
        (number_of names text) x _
        (not_spared ready spares text (array_as array.element true array.length) is refl)
        ∙ (call_means (ready_later (omega arith) ready) value).keeps x (spares_later (omega arith) spares) next
        ∙ with_value-other m n x _ (λ q. omega (arith, spares.below)))
    statement_keeps (calls {c = c} is) {names = names} {n = n} ready {x = x} spares m =
        let o = callables earlier c.name in
        rw after_chain (dropped_keeps (n + length (call_variables o c.arguments)) x (omega (arith, spares.below))
        (call_result o) (call_value o names n c.arguments) (after_all m (call_block o names n c.arguments))
        ∙ (call_means ready is).keeps x spares m)
    statement_keeps (chooses {condition = condition} has one other) {names = names} ready spares m =
        elim (cases_Bool (value_in m (term names condition) == 0)) [
          | inl off ↦ rw off
              (block_keeps other (ready_later (omega arith) ready) (spares_later (omega arith) spares) m)
          | inr on ↦ rw on (block_keeps one ready spares m)
        ]
    statement_keeps (repeats {counter = counter} {text = text} {low = low} {high = high} {body = body} one other new
        inner)
        {names = names} {n = n} ready {x = x} spares m =
        let own = word_as counter_type false in
        iterations_keep (λ (t : Values). t x ≡ m x)
        (λ i t. after_all (flat_meaning.with_value t n (i ∷ []))
        (block (callables earlier) (naming names text n own) (n + 1) body)) (value_in m (term names high))
        (λ i t below same.
        block_keeps inner (ready_declared ready counter text own new)
        (spares_named spares text n own (omega arith) (omega arith)) (flat_meaning.with_value t n (i ∷ []))
        ∙ (with_value-other t n x (i ∷ []) (λ q. omega (arith, spares.below)) ∙ same))
        _ (value_in m (term names low)) m refl refl

    pub block_keeps : {scope : Scope} {control : Label} {b : BlockTree} → AreWellTyped earlier scope control b
        → {names : Numbers} {n : ℕ} → StatementReady earlier scope names n → {x : ℕ} → Spares names n x → (m : Values)
        → after_all m (block (callables earlier) names n b) x ≡ m x
    block_keeps no_statement ready spares m = refl
    block_keeps (one_more here there) ready spares m =
        rw after_chain (block_keeps there (ready_after here ready) (spares_after here spares) _
        ∙ statement_keeps here ready spares m)
