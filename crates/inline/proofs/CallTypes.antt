-- A call is well typed once its names are numbers: words are declared, and then comes the called body.
use Rattle.std.proofs.Common.{◌≡◌, ℕ, false, List, length, Option, Some, None, inl, inr, refl, sym, ap, ◌∙◌}
use Rattle.std.proofs.lemmas.Bool.{cases_Bool}
use Rattle.inline.specs.declared.flat.FlatVariable.{FlatVariable}
use Rattle.inline.specs.Flat.{TermTree, word_as}
use Rattle.inline.specs.FlatTyping.{Types, AreTyped, IsResult, TermSuits, types_after_all}
use Rattle.inline.specs.Numbering.{Numbers, Callable, callable, callables, passed, passed_variables, call_block}
use Rattle.inline.specs.Numbering.{call_variables, call_result, call_value, value_given, value_of, declared_in_all}
use Rattle.inline.specs.Numbering.{names_after_all, block, dropped_block, dropped_variables}
use Rattle.inline.specs.Below.{AreAllSmall, AreNew, ArePassed, assigns_public, body_scope, callee, calls_one, CallTree}
use Rattle.inline.specs.Below.{ExprTree, is_word, IsCall, joined, Label, labelled, may_assign, none_passed}
use Rattle.inline.specs.Below.{of_procedure, one_passed, ParameterTree, ProcedureTree, Public, result_value, Scope}
use Rattle.inline.specs.Below.{Secret, ValueType, with_procedure, Word, WordType}
use Rattle.language.specs.declared.typing.Declared.TheVariants.{Procedure}
use Rattle.language.specs.Types.{found}
use Rattle.language.specs.WellTyped as rules
use Rattle.inline.proofs.Begun.{word_given, own_word, enters, distinct_none}
use Rattle.inline.proofs.ChainTypes.{chain-types, chain-typed}
use Rattle.inline.proofs.Below.{known-named}
use Rattle.inline.proofs.Linked.{Linked, linked_beside}
use Rattle.inline.proofs.Listed.{Lists, first_new, lists_first, lists_left, lists_rest, lists_right}
use Rattle.inline.proofs.Parameters.{NoVariables, no_names}
use Rattle.inline.proofs.Procedures.{Stand, IsWithin}
use Rattle.inline.proofs.Terms.{means, still_public, suits_there}

-- A called body is well typed wherever its parameters' names have numbers: also under secret control, where it may
-- assign to nothing public.
pub record TypedBody (before : List ProcedureTree) (at : Scope) (p : ProcedureTree) : Type 0 where
  pub variables : NoVariables (with_procedure at (length before) p)
  pub parameters : AreNew (with_procedure at (length before) p) p.parameters
  pub typed : (all : List FlatVariable) (control : Label) (names : Numbers) (types : Types) (n : ℕ)
      → Linked (body_scope at (length before) p) names types n → (control ≡ Secret → assigns_public at p ≡ false)
      → Lists all n (declared_in_all (callables before) p.body)
      → AreTyped all types control (block (callables before) names n p.body)
  pub result : (names : Numbers) (types : Types) (n : ℕ) → Linked (body_scope at (length before) p) names types n
      → IsResult (types_after_all types (block (callables before) names n p.body)) p.result
      (value_of (names_after_all (callables before) names n p.body) p.returned)

-- Words that are passed.

passed_typed : (all : List FlatVariable) (control : Label) {scope : Scope} {names : Numbers} {ps : List ParameterTree}
    {es : List ExprTree} → ArePassed scope ps es → AreAllSmall es → {types : Types} {n : ℕ}
    → Linked scope names types n → Lists all n (passed_variables ps es)
    → AreTyped all types control (passed names n ps es)
passed_typed all control none_passed small linked lists = tt
passed_typed all control (one_passed {p = p} is shares are) small {n = n} linked lists =
    elim (cases_Bool (is_word p.form)) [
      | inl word ↦ (
          let w = word_given is word in
          let those = rw word at lists in
          let new = first_new linked those in
          rw word (
            (
              record { new = new.new; listed = new.listed ∙ ap Some (sym (own_word p p.form word)) },
              suits_there (means linked w.has small.0) w.suits,
            ),
            passed_typed all control are small.1 (linked_beside linked (word_as (labelled p.kind p.label) false))
                (lists_rest those),
          ))
      | inr array ↦ rw array (passed_typed all control are small.1 linked (rw array at lists))
    ]

-- Calls.

-- a call that is well typed, and gives a value of this type
pub record CallFits (all : List FlatVariable) (types : Types) (control : Label) (names : Numbers) (n : ℕ)
    (es : List ExprTree) (type : ValueType) (o : Option Callable) : Type 0 where
  pub typed : AreTyped all types control (call_block o names n es)
  pub result : IsResult (types_after_all types (call_block o names n es)) (call_result o) (call_value o names n es)
  pub gives : type ≡ result_value (call_result o)

body_fits : (before : List ProcedureTree) (at : Scope) (p : ProcedureTree) → TypedBody before at p
    → (all : List FlatVariable) (control : Label) → (control ≡ Secret → assigns_public at p ≡ false)
    → {scope : Scope} → at.profile ≡ scope.profile → {names : Numbers} {types : Types} {n : ℕ}
    → Linked scope names types n → {es : List ExprTree} → ArePassed scope p.parameters es → AreAllSmall es
    → Lists all n (call_variables (Some (callable (callables before) p)) es)
    → CallFits all types control names n es (result_value p.result) (Some (callable (callables before) p))
body_fits before at p body all control quiet same {names = names} linked {es = es} are small lists =
    let words = passed_variables p.parameters es in
    let those = declared_in_all (callables before) p.body in
    let start = enters are body.parameters linked
    (no_names body.variables (linked.observed ∙ sym same) linked.fresh) (distinct_none names p.parameters es) in
    record {
      typed = chain-typed all _ control _ _ (passed_typed all control are small linked (lists_left words those lists))
          (body.typed all control _ _ _ start.linked quiet (lists_right words those lists));
      result = rw chain-types (body.result _ _ _ start.linked);
      gives = refl;
    }

module _ (earlier : List ProcedureTree) (at : Scope) (stand : Stand TypedBody earlier at) where
  -- under secret control, of its own or around it, nothing public is assigned to
  pub call_fits : {scope : Scope} {control : Label} {c : CallTree} {type : ValueType}
      → IsCall earlier scope control c type → IsWithin earlier at scope → (outer : Label)
      → (outer ≡ Secret → calls_one at c ≡ false)
      → (all : List FlatVariable) {names : Numbers} {types : Types} {n : ℕ} → Linked scope names types n
      → AreAllSmall c.arguments → Lists all n (call_variables (callables earlier c.name) c.arguments)
      → CallFits all types (joined outer control) names n c.arguments type (callables earlier c.name)
  call_fits {control = control} (of_procedure {c = c} {callee = own} {p = p} is get are quiet) within outer hush all
      linked small lists =
      let inside = within c.name own p is get in
      let k = stand.callable c.name own p inside.1 get in
      let same = known-named callable earlier k.before p c.name k.is in
      rw same (body_fits k.before k.at p k.good all (joined outer control)
      (λ e. sym k.quiet ∙ by_outer outer hush inside.1 e) (k.observed ∙ inside.0) linked are small (rw same at lists))
    where
      by_outer : (outer : Label) → (outer ≡ Secret → calls_one at c ≡ false) → found at c.name ≡ Some (Procedure own)
          → joined outer control ≡ Secret → own.assigns_public ≡ false
      by_outer Public hush inside e = quiet e
      by_outer Secret hush inside e = sym (ap (λ o. may_assign (callee o)) inside) ∙ hush refl

-- What a call gives.

-- a value of the one type, put where the other is wanted
pub suits_as : {types : Types} {given wanted : WordType} {e : TermTree} → TermSuits types given e
    → rules.Suits given wanted
    → TermSuits types wanted e
suits_as is (rules.suits flow) = record
    { word = is.word; has_type = is.has_type; kind = is.kind; label = λ e. is.label (still_public flow e) }

pub result_suits : (types : Types) (result : Option WordType) (value : Option TermTree) (given wanted : WordType)
    → IsResult types result value → Word given ≡ result_value result → rules.Suits given wanted
    → TermSuits types wanted (value_given value)
result_suits types None value given wanted is same suit = absurd cc
result_suits types (Some word) None given wanted is same suit = absurd is
result_suits types (Some word) (Some value) given wanted is same suit =
    let equal : given ≡ word = cc in
    suits_as is (rw equal at suit)

-- a result that nothing takes
pub dropped_typed : (all : List FlatVariable) (types : Types) (control : Label) (n : ℕ) (result : Option WordType)
    (value : Option TermTree) → types.at n ≡ None → Lists all n (dropped_variables result)
    → IsResult types result value
    → AreTyped all types control (dropped_block n result value)
dropped_typed all types control n None value new lists is = tt
dropped_typed all types control n (Some word) None new lists is = absurd is
dropped_typed all types control n (Some word) (Some value) new lists is =
    ((record { new = new; listed = lists_first lists }, is), tt)
