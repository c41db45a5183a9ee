-- A well-typed statement is well typed once its names are numbers, under the control label of the source, and under
-- secret control too where it assigns to nothing public.
use Rattle.std.proofs.Common.{◌≡◌, ℕ, ◌+◌, Bool, false, true, List, [], ◌∷◌, length, map, Option, Some, None, refl}
use Rattle.std.proofs.Common.{sym, ap, ◌∙◌, subst, arith}
use Rattle.std.proofs.lemmas.Bool.{or_parts}
use Rattle.std.proofs.lemmas.List.{length-map}
use Rattle.inline.specs.declared.flat.FlatVariable.{FlatVariable}
use Rattle.inline.specs.Flat.{word_as, array_as}
use Rattle.inline.specs.FlatTyping.{Types, AreTyped, TermSuits, types_after_all, with_type, counter_type}
use Rattle.inline.specs.FlatTyping as flat
use Rattle.inline.specs.Numbering.{Numbers, Callables, callables, call_block, call_variables, call_result, call_value}
use Rattle.inline.specs.Numbering.{right_block, right_variables, right, element_block, element_variables}
use Rattle.inline.specs.Numbering.{dropped_variables, statement, block, number_of, size_of, declared_in}
use Rattle.inline.specs.Numbering.{declared_in_all, numbers_taken_all, term}
use Rattle.inline.specs.Below.{AreAllSmall, ArePlain, AreSmall, AreSmallValues, AreWellTyped, Array, ArrayType, assigns}
use Rattle.inline.specs.Below.{assigns_element, block_assigns, BlockTree, Boolean, calls, chooses, declares}
use Rattle.inline.specs.Below.{declares_array, ExprTree, FlowsTo, IsPlain, IsSmallRight, IsVariable, IsWellTyped}
use Rattle.inline.specs.Below.{joined, Label, labelled, no_statement, of_call, of_value, one_more, Place, ProcedureTree}
use Rattle.inline.specs.Below.{Public, public_flows, repeats, right_assigns, RightTree, Scope, Secret, secret_flows}
use Rattle.inline.specs.Below.{statement_assigns, StatementTree, Word, WordType, written}
use Rattle.language.specs.WellTyped as rules
use Rattle.language.specs.WellTyped.{RightHasType}
use Rattle.inline.proofs.CallTypes.{TypedBody, call_fits, result_suits, dropped_typed}
use Rattle.inline.proofs.ChainTypes.{chain-types, chain-typed, types_before}
use Rattle.inline.proofs.Hiding.{Hides, hides_after, hides_counter}
use Rattle.inline.proofs.Linked.{Linked, Serves, IsKnownName, linked_beside, linked_declared, later, with_type-same}
use Rattle.inline.proofs.Listed.{Lists, IsCounted, call_takes, passed_over, all_counted, first_new, lists_left}
use Rattle.inline.proofs.Listed.{lists_rest, lists_right, AllKnown, linked_after, linked_right}
use Rattle.inline.proofs.Procedures.{Stand, IsAt, IsWithin, callable_after, callable_declared}
use Rattle.inline.proofs.Terms.{means, suits_there}

-- Labels.

-- under secret control nothing public changes
kept_secret : {control label : Label} → FlowsTo control label → control ≡ Secret → label ≡ Secret
kept_secret (public_flows {label = label}) e = cc
kept_secret secret_flows e = refl

-- nor under secret control around it
still_secret : {control label : Label} (outer : Label) → FlowsTo control label → (outer ≡ Secret → label ≡ Secret)
    → joined outer control ≡ Secret → label ≡ Secret
still_secret Public flow hidden e = kept_secret flow e
still_secret Secret flow hidden e = hidden refl

joined-swap : (outer l control : Label) → joined outer (joined l control) ≡ joined l (joined outer control)
joined-swap Public l control = refl
joined-swap Secret Public control = refl
joined-swap Secret Secret control = refl

-- Names.

-- what may be assigned to is declared so
served : {there : Option FlatVariable} {d : FlatVariable} → Serves there d → d.mutable ≡ true
    → there ≡ Some (record { word = d.word; mutable = true; elements = d.elements })
served {d = d} serves free = serves.is
    ∙ ap (λ b. Some (record { word = d.word; mutable = b; elements = d.elements })) (serves.enough free)

-- an array's number and size
array_there : {names : Numbers} {types : Types} {text : List ℕ} {array : ArrayType}
    → IsKnownName names types text (array_as array.element true array.length)
    → types.at (number_of names text) ≡ Some (array_as array.element true (size_of names text))
array_there x = rw (x.declared, size_of) (served x.typed refl)

-- the first values of an array
all_suit : {scope : Scope} {names : Numbers} {types : Types} {n : ℕ} → Linked scope names types n
    → {wanted : WordType} {es : List ExprTree} → rules.AllSuit scope wanted es → AreAllSmall es
    → flat.AllSuit types wanted (map (term names) es)
all_suit linked rules.none_wanted small = tt
all_suit linked (rules.one_suits has suit all) small =
    (suits_there (means linked has small.0) suit, all_suit linked all small.1)

pub small_values : (values : Option (List ExprTree)) → AreSmallValues values → AreAllSmall (written values)
small_values None small = tt
small_values (Some es) small = small

as_many : (names : Numbers) (size : ℕ) (es : List ExprTree) → length es ≡ size
    → flat.HasCount size (map (term names) es)
as_many names size [] is = tt
as_many names size (e ∷ es) is = length-map (e ∷ es) (term names) ∙ is

has_count : (names : Numbers) {size : ℕ} {values : Option (List ExprTree)} → rules.HasCount size values
    → flat.HasCount size (map (term names) (written values))
has_count names rules.all_zero = tt
has_count names {size = size} (rules.all_given {values = values} is) = as_many names size values is

-- under secret control around it, nothing public may be assigned to, nor is
abbrev pub IsHushed : Label → Scope → Bool → Type 0
IsHushed outer scope may = outer ≡ Secret → Hides scope × (may ≡ false)

-- Statements.

module _ (earlier : List ProcedureTree) where
  abbrev known : Callables
  known = callables earlier

  abbrev counted : AllKnown IsCounted known
  counted = all_counted earlier

  module _ (at : Scope) (stand : Stand TypedBody earlier at) (all : List FlatVariable) (outer : Label) where
    -- a right side that is well typed
    record RightFits (types : Types) (control : Label) (names : Numbers) (n : ℕ) (r : RightTree) (wanted : WordType) :
        Type 0 where
      pub typed : AreTyped all types control (right_block known names n r)
      pub suits : TermSuits (types_after_all types (right_block known names n r)) wanted (right known names n r)

    right_fits : {scope : Scope} {control : Label} {r : RightTree} {given wanted : WordType}
        → RightHasType earlier scope control r (Word given) → rules.Suits given wanted → IsWithin earlier at scope
        → (outer ≡ Secret → right_assigns at r ≡ false)
        → {names : Numbers} {types : Types} {n : ℕ} → Linked scope names types n → IsSmallRight r
        → Lists all n (right_variables known r) → RightFits types (joined outer control) names n r wanted
    right_fits (of_value has) suit within hush linked small lists =
        record { typed = tt; suits = suits_there (means linked has small) suit }
    right_fits {given = given} {wanted = wanted} (of_call {c = c} is) suit within hush {names = names} {n = n} linked
        small lists =
        let f = call_fits earlier at stand is within outer hush all linked small lists in
        let value = call_value (known c.name) names n c.arguments in
        record {
          typed = (tt, chain-typed all _ _ _ _ f.typed (tt, tt));
          suits = rw chain-types
              (result_suits _ (call_result (known c.name)) value given wanted f.result f.gives suit);
        }

    -- an assignment to an element
    element_typed : (text : List ℕ) {scope : Scope} {control : Label} {index : ExprTree} {r : RightTree}
        {given : WordType} {array : ArrayType} → IsVariable scope text (Array array) true
        → rules.HasType scope index (Word counter_type)
        → RightHasType earlier scope control r (Word given) → rules.Suits given array.element
        → FlowsTo control array.element.label → IsWithin earlier at scope
        → IsHushed outer scope (right_assigns at r) → (bracket : Place)
        → {names : Numbers} {types : Types} {n : ℕ} → Linked scope names types n → AreSmall index → IsSmallRight r
        → Lists all n (element_variables known r) → AreTyped all types (joined outer control)
        (element_block known names n bracket text index r)
    element_typed text {array = own} is has (of_value value) suit flow within hush bracket linked plain small lists = (
      record {
        word = own.element;
        known = array_there (linked.known text (array_as own.element true own.length) is);
        index_type = (means linked has plain).typed;
        suits = suits_there (means linked value small) suit;
        hidden = still_secret outer flow (λ e. (hush e).0 text _ is refl);
      },
      tt,
    )
    element_typed text {given = given} {array = own} is has (of_call {c = c} made) suit flow within hush bracket
        {names = names} {types = types} {n = n} linked plain small lists =
        let counter = word_as counter_type false in
        let o = known c.name in
        let inside = with_type types n counter in
        let next = linked_beside linked counter in
        let f = call_fits earlier at stand made within outer (λ e. (hush e).1) all next small (lists_rest lists) in
        let body = call_block o names (n + 1) c.arguments in
        let value = call_value o names (n + 1) c.arguments in
        let takes = call_takes names c.arguments (n + 1) o (counted c.name) in
        let there = passed_over takes next in (
          (first_new linked lists, (means linked has plain).typed),
          chain-typed all _ _ _ _ f.typed (
            record {
              word = own.element;
              known = array_there (there.known text (array_as own.element true own.length) is);
              index_type = flat.of_variable (types_before inside (n + 1) body takes.numbered n (omega arith)
                  ∙ with_type-same types n counter);
              suits = result_suits _ (call_result o) value given own.element f.result f.gives suit;
              hidden = still_secret outer flow (λ e. (hush e).0 text _ is refl);
            },
            tt,
          ),
        )

    mutual
      pub typed_statement : {scope : Scope} {control : Label} {s : StatementTree}
          → IsWellTyped earlier scope control s
          → IsWithin earlier at scope → IsHushed outer scope (statement_assigns at s)
          → {names : Numbers} {types : Types} {n : ℕ} → Linked scope names types n → IsPlain s
          → Lists all n (declared_in known s) → AreTyped all types (joined outer control)
          (statement known names n s)
      typed_statement (declares {label = label} {mutable = mutable} {kind = kind} {right = r} new has suit flow) within
          hush linked plain lists =
          let own = word_as (labelled kind label) mutable in
          let vars = right_variables known r in
          let f = right_fits has suit within (λ e. (or_parts _ (right_assigns at r) (hush e).1).1) linked plain
          (lists_left vars (own ∷ []) lists) in
          chain-typed all _ _ _ _ f.typed
          ((first_new (linked_right earlier linked r) (lists_right vars (own ∷ []) lists), f.suits), tt)
      typed_statement (declares_array {values = values} new suit count flow) within hush {names = names} linked plain
          lists = (
            (
              first_new linked lists,
              all_suit linked suit (small_values values plain.1),
              has_count names count,
            ),
            tt,
          )
      typed_statement (assigns {text = text} {right = r} {wanted = wanted} is has suit flow) within hush linked plain
          lists =
          let x = (linked_right earlier linked r).known text (word_as wanted true) is in
          let f = right_fits has suit within (λ e. (hush e).1) linked plain lists in
          chain-typed all _ _ _ _ f.typed (
            record {
              word = wanted;
              known = served x.typed refl;
              suits = f.suits;
              hidden = still_secret outer flow (λ e. (hush e).0 text _ is refl);
            },
            tt,
          )
      typed_statement (assigns_element {bracket = bracket} {text = text} is has value suit flow) within hush linked
          plain lists = element_typed text is has value suit flow within hush bracket linked plain.0 plain.1 lists
      typed_statement (calls {c = c} is) within hush {names = names} {n = n} linked plain lists =
          let o = known c.name in
          let vars = call_variables o c.arguments in
          let dropped = dropped_variables (call_result o) in
          let value = call_value o names n c.arguments in
          let m = n + length vars in
          let f = call_fits earlier at stand is within outer (λ e. (hush e).1) all linked plain
          (lists_left vars dropped lists) in
          let there = passed_over (call_takes names c.arguments n o (counted c.name)) linked in (
            tt,
            chain-typed all _ _ _ _ f.typed
                (dropped_typed all _ _ m (call_result o) value
                (there.fresh m (omega arith)) (lists_right vars dropped lists) f.result),
          )
      typed_statement (chooses {control = control} {condition = condition} {accepted = accepted}
          {otherwise = otherwise} {label = label} has one other) within hush {names = names} {types = types} {n = n}
          linked plain lists =
          let m = n + numbers_taken_all known accepted in
          let c = means linked has plain.0 in
          let ones = declared_in_all known accepted in
          let others = declared_in_all known otherwise in
          let quiet = λ (e : outer ≡ Secret). or_parts (block_assigns at accepted) (block_assigns at otherwise)
          (hush e).1 in
          let a = typed_block one within (λ e. ((hush e).0, (quiet e).0)) linked plain.1
          (lists_left ones others lists) in
          let b = typed_block other within (λ e. ((hush e).0, (quiet e).1)) (later {m = m} (omega arith) linked) plain.2
          (lists_right ones others lists) in
          let both = λ (l k : Label). flat.TermHasType types (term names condition) (labelled Boolean l)
          × AreTyped all types k (block known names n accepted)
          × AreTyped all types k (block known names m otherwise) in (
            subst (λ l. both l (joined l (joined outer control))) (sym c.label)
                (subst (both label) (joined-swap outer label control) (c.typed, a, b)),
            tt,
          )
      typed_statement (repeats {scope = scope} {counter = counter} {text = text} low high new inner) within hush linked plain lists =
          let own = word_as counter_type false in (
            (
              (means linked low plain.0).typed,
              (means linked high plain.1).typed,
              first_new linked lists,
              typed_block inner (callable_declared earlier (IsAt at) scope counter text _ within)
                  (λ e. (hides_counter scope counter text (hush e).0, (hush e).1))
                  (linked_declared linked counter text own new) plain.2
                  (lists_rest lists),
            ),
            tt,
          )

      pub typed_block : {scope : Scope} {control : Label} {b : BlockTree} → AreWellTyped earlier scope control b
          → IsWithin earlier at scope → IsHushed outer scope (block_assigns at b)
          → {names : Numbers} {types : Types} {n : ℕ} → Linked scope names types n → ArePlain b
          → Lists all n (declared_in_all known b) → AreTyped all types (joined outer control)
          (block known names n b)
      typed_block no_statement within hush linked plain lists = tt
      typed_block (one_more {statement = s} {rest = rest} here there) within hush linked plain lists =
          let quiet = λ (e : outer ≡ Secret). or_parts (statement_assigns at s) (block_assigns at rest)
          (hush e).1 in
          chain-typed all _ _ _ _
          (typed_statement here within (λ e. ((hush e).0, (quiet e).0)) linked plain.0
          (lists_left (declared_in known s) (declared_in_all known rest) lists))
          (typed_block there (callable_after earlier (IsAt at) here within)
          (λ e. (hides_after at here (hush e).0 (quiet e).0, (quiet e).1)) (linked_after earlier here linked) plain.1
          (lists_right (declared_in known s) (declared_in_all known rest) lists))
