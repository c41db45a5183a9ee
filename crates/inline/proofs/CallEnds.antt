-- A call comes to the same where the called body stands in its place.
use Rattle.std.proofs.Common.{◌≡◌, ℕ, ◌+◌, ◌<◌, true, false, List, [], length, Option, Some, None, ⊎_elim, refl, sym}
use Rattle.std.proofs.Common.{◌∙◌, arith}
use Rattle.std.proofs.lemmas.Bool.{false_from_ne_true}
use Rattle.inline.specs.Flat.{FlatBlock}
use Rattle.inline.specs.FlatMeaning.{Values, after_all, path_along, path_of_result}
use Rattle.inline.specs.FlatTyping.{Types, types_after_all}
use Rattle.inline.specs.Numbering.{Numbers, Callable, callable, callables, begun, passed, passed_variables, block}
use Rattle.inline.specs.Numbering.{call_block, call_value, call_result}
use Rattle.inline.specs.Path.{either, first_fault}
use Rattle.inline.specs.Below.{AreAllSmall, ArePassed, argument_faults, body_ends, body_faults, Callee, Calls, CallTree}
use Rattle.inline.specs.Below.{copied_out, ExprTree, is_mutable, is_word, IsCall, Label, none_passed, of_procedure}
use Rattle.inline.specs.Below.{one_passed, ParameterTree, ProcedureTree, result_value, Scope, State, ValueType}
use Rattle.language.specs.Meaning as meaning
use Rattle.inline.proofs.Below.{known-named}
use Rattle.inline.proofs.Begun.{EntersBody, array_passed, enters, distinct_none}
use Rattle.inline.proofs.Called.{Agrees, Spares, IsKept, StatementReady}
use Rattle.inline.proofs.Chains.{after_chain, fault_chain}
use Rattle.inline.proofs.Comes.{Comes, then_comes, also, either-assoc}
use Rattle.inline.proofs.Copied.{Changes, spares_begun, copied, word_immutable}
use Rattle.inline.proofs.Linked.{Linked}
use Rattle.inline.proofs.Parameters.{no_names}
use Rattle.inline.proofs.Procedures.{IsCallee}
use Rattle.inline.proofs.Passing.{passed_keeps, passed_comes}
use Rattle.inline.proofs.Terms.{Shows}

mutable_is_array : (p : ParameterTree) → is_mutable p.form ≡ true → is_word p.form ≡ false
mutable_is_array p free = false_from_ne_true (is_word p.form) (λ word. word_immutable p.form word free)

-- a call changes only what may be changed
no_change : {scope : Scope} {ps : List ParameterTree} {es : List ExprTree} → ArePassed scope ps es
    → {names : Numbers} {types : Types} {n x : ℕ} → Linked scope names types n → Spares names n x
    → Changes names x ps es → ⊥
no_change none_passed linked spares = λ none. none
no_change (one_passed {p = p} is shares are) linked spares =
    ⊎_elim (λ here.
    let a = array_passed linked is (mutable_is_array p here.0) in
    spares.spared a.text _ a.found (a.enough here.0) here.1)
    (no_change are linked spares)

module _ {earlier : List ProcedureTree} {scope : Scope} {names : Numbers} {n : ℕ}
    (ready : StatementReady earlier scope names n) where
  -- what is known of a call, by what is known of its name
  pub record CallMeans (c : CallTree) (type : ValueType) (o : Option Callable) : Type 0 where
    pub result : result_value (call_result o) ≡ type
    pub comes : (s : State) (m : Values) → Shows names s m → AreAllSmall c.arguments →
        (let tree = call_block o names n c.arguments in
        let value = call_value o names n c.arguments in
        let end = after_all m tree in
        Comes (Calls earlier s c) (Agrees names end (call_result o) value)
        (either (first_fault (path_along m tree)) (first_fault (path_of_result end value))))
    pub nothing : call_result o ≡ None → call_value o names n c.arguments ≡ None
    pub keeps : (x : ℕ) → Spares names n x → (m : Values) → after_all m (call_block o names n c.arguments) x ≡ m x

  -- a call of a procedure that means the same
  module _ (c : CallTree) (callee : Callee) (p : ProcedureTree)
      (meant : IsCallee IsKept earlier scope.profile c.name callee p)
      (passed_are : ArePassed scope p.parameters c.arguments) where
    abbrev own : Numbers
    own = begun names [] n p.parameters c.arguments

    abbrev start : ℕ
    start = n + length (passed_variables p.parameters c.arguments)

    abbrev passed_block : FlatBlock
    passed_block = passed names n p.parameters c.arguments

    abbrev body_block : FlatBlock
    body_block = block (callables meant.before) own start p.body

    entered : EntersBody meant.good.scope names p.parameters c.arguments own
        (types_after_all ready.types passed_block) start
    entered = enters passed_are meant.good.parameters ready.linked
        (no_names meant.good.procedures (ready.linked.observed ∙ sym (meant.good.observed ∙ meant.observed))
        ready.linked.fresh)
        (distinct_none names p.parameters c.arguments)

    body_kept : (x : ℕ) → x < n → (Changes names x p.parameters c.arguments → ⊥) → (m : Values)
        → after_all (after_all m passed_block) body_block x ≡ m x
    body_kept x low none m =
        meant.good.keeps _ _ _ entered.linked x
        (spares_begun names n start x p.parameters c.arguments (omega arith) none) (after_all m passed_block)
        ∙ passed_keeps names p.parameters c.arguments n x low m

    own_means : CallMeans c (result_value p.result) (Some (callable (callables meant.before) p))
    own_means = record {
      result = refl;
      comes = λ s m shows small.
          let middle = after_all m passed_block in
          let end = after_all middle body_block in
          rw (after_chain passed_block body_block m, fault_chain passed_block body_block m, either-assoc)
          (then_comes (passed_comes passed_are small ready.linked m shows)
          (λ vs are held.
          also (meant.good.comes _ _ _ (meaning.begun s p.parameters c.arguments vs) middle entered.linked
          (λ text x is. held [] text x refl is))
          (λ r body agrees. (
            record { word = r.word; state = copied_out s r.state p.parameters c.arguments },
            body_ends meant.is are body,
            record {
              word = agrees.word;
              shows = copied ready.linked r.state end own agrees.shows passed_are entered.named s
                  (λ text x there none. rw (body_kept x.number (ready.linked.below text x there) none m)
                  (shows text x there));
            },
          ))
          (λ at body. body_faults meant.is are body))
          (λ at are. argument_faults meant.is are));
      nothing = λ none. rw (meant.good.returns none);
      keeps = λ x spares m. rw after_chain
          (body_kept x spares.below (no_change passed_are ready.linked spares) m);
    }

  -- what is known of each call
  pub call_means : {control : Label} {c : CallTree} {type : ValueType} → IsCall earlier scope control c type
      → CallMeans c type (callables earlier c.name)
  call_means (of_procedure {c = c} {callee = callee} {p = p} is there are may) =
      let meant = ready.calls c.name callee p is there in
      rw (known-named callable earlier meant.before p c.name meant.is) (own_means c callee p meant are)
