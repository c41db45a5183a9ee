-- A well-typed expression keeps its type, and comes to the same, once its names are numbers.
use Rattle.std.proofs.Common.{◌≡◌, ℕ, ◌==◌, ◌&&◌, Bool, true, false, not, if◌then◌else◌, nat_lt, List, [], ◌∷◌}
use Rattle.std.proofs.Common.{length, Option, Some, None, slice_index, refl, sym, ap, ap₂, ◌∙◌, subst}
use Rattle.inline.specs.Below.{applied, AreSmall, ArrayType, binary, by_operands, divides, element, element_held}
use Rattle.inline.specs.Below.{Ending, Evaluates, ExprTree, faults, found, gives, joined, Kind, Label, labelled}
use Rattle.inline.specs.Below.{later_faults, multiplies, none_left, operand_faults, operated, operation_kind}
use Rattle.inline.specs.Below.{operation_of, Place, Profile, Public, Scope, single, State, this_faults, Uint32, Value}
use Rattle.inline.specs.Below.{width_of, Word, word_held, WordType}
use Rattle.inline.specs.declared.flat.FlatVariable.{FlatVariable}
use Rattle.inline.specs.declared.numbering.Numbered.{Numbered}
use Rattle.inline.specs.Flat.{word_as, array_as, numbers_in}
use Rattle.inline.specs.FlatMeaning.{Values, value_in, path_in, marks_of, ending_by}
use Rattle.inline.specs.FlatTyping as flat
use Rattle.inline.specs.FlatTyping.{Types, TermHasType, TermSuits}
use Rattle.inline.specs.Numbering.{Numbers, number_of, size_of, kind_in, label_in, term}
use Rattle.inline.specs.Path.{indexed, divided, multiplied, fault_at, either, first_fault}
use Rattle.language.specs.declared.operation.Operation.{Operation}
use Rattle.language.specs.Meaning.{one_more}
use Rattle.language.specs.OperatorWords.{binary_word, prefix_word, rotated_word, converted_word, selected_word}
use Rattle.language.specs.State.{array}
use Rattle.language.specs.State as state
use Rattle.language.specs.WellTyped as rules
use Rattle.inline.proofs.Comes.{Comes, well, fails, then_comes, also, either-assoc, either-none, across}
use Rattle.inline.proofs.Linked.{IsKnownName, Linked}

-- States.

abbrev pub word_at : Kind → ℕ → state.Word
word_at kind value = record { kind = kind; value = value }

-- the value that a name holds, where its variable holds these numbers
abbrev pub held : Kind → Option ℕ → List ℕ → Value
held kind None numbers = single (word_at kind (slice_index numbers 0))
held kind (Some size) numbers = array kind numbers

pub record VariableHolds (d : FlatVariable) (value : Option Value) (numbers : List ℕ) : Type 0 where
  pub is : value ≡ Some (held d.word.kind d.elements numbers)
  pub count : length numbers ≡ numbers_in d.elements

-- each name in scope holds what its variable does
abbrev pub Shows : Numbers → State → Values → Type 0
Shows names s m = (text : List ℕ) (x : Numbered) → found names text ≡ Some x
    → VariableHolds x.declaration (s text) (m x.number)

-- it comes to this word, or meets this fault
pub ended : {A : Type 0} {Is : Ending A → Type 0} (fault : Option Place) {w : A} → Is (ending_by fault w)
    → Comes Is (λ v. v ≡ w) fault
ended None is = well _ is refl
ended (Some at) is = fails at is

-- What an index and a divisor are asked.

asked : {A : Type 0} (b : Bool) (place : Place) (w : A)
    → (if b then gives w else faults place) ≡ ending_by (if b then None else Some place) w
asked true place w = refl
asked false place w = refl

refused : {A : Type 0} (b : Bool) (place : Place) (w : A)
    → (if b then faults place else gives w) ≡ ending_by (either (if b then Some place else None) None) w
refused true place w = refl
refused false place w = refl

-- an element that is asked for is there, or it is the fault
pub element_comes : {names : Numbers} {types : Types} {text : List ℕ} {own : ArrayType} {mutable : Bool}
    → IsKnownName names types text (array_as own.element mutable own.length) → (s : State) (m : Values)
    → Shows names s m
    → (place target : Place) {index : ExprTree} {u : state.Word} {i : ℕ} → Evaluates s index (gives u)
    → u ≡ word_at Uint32 i → Comes (Evaluates s (element place target text index))
    (λ w. w ≡ word_at own.element.kind (slice_index (m (number_of names text)) i))
    (fault_at (indexed place (size_of names text) i))
element_comes {names = names} {text = text} {own = own} k s m shows place target {index = index} {i = i} one same =
    let holds = shows text _ k.found in
    let words = m (number_of names text) in
    let count = holds.count ∙ sym (ap (λ (d : FlatVariable). numbers_in d.elements) k.declared) in
    ended (fault_at (indexed place (size_of names text) i)) (subst (Evaluates s (element place target text index))
    (ap₂ (λ o (w : state.Word). element_held place o w.value) holds.is same
    ∙ asked (nat_lt i (length words)) place (word_at own.element.kind (slice_index words i))
    ∙ ap (λ n. ending_by (fault_at (indexed place n i)) (word_at own.element.kind (slice_index words i))) count)
    (by_operands (one_more one none_left)))

-- a division may meet a fault, and a multiplication none
marks_found : {A : Type 0} (d k : Bool) (place : Place) (a b : ℕ) (w : A)
    → (if d && (b == 0) then faults place else gives w) ≡ ending_by
    (first_fault (if d then divided place a b ∷ [] else (if k then multiplied a b ∷ [] else []))) w
marks_found true k place a b w = refused (b == 0) place w
marks_found false true place a b w = refl
marks_found false false place a b w = refl

-- Types.

-- the kind and the label of what is made of two words
made : {profile : Profile} {operation : Operation} {one other whole : WordType}
    → rules.Makes profile operation one other whole
    → (operation_kind operation one.kind ≡ whole.kind) × (joined one.label other.label ≡ whole.label)
made (rules.arithmetic numeric) = (refl, refl)
made other = (refl, refl)

-- the word that is chosen
picked : (is_zero : Bool) (k : Kind) (a b : ℕ)
    → (if not is_zero then word_at k a else word_at k b) ≡ word_at k (if is_zero then b else a)
picked true k a b = refl
picked false k a b = refl

-- what is known of an expression of this type
pub record TermMeans (names : Numbers) (types : Types) (e : ExprTree) (type : WordType) : Type 0 where
  pub kind : kind_in names e ≡ type.kind
  pub label : label_in names e ≡ type.label
  pub typed : TermHasType types (term names e) type
  pub value : (s : State) (m : Values) → Shows names s m → Comes (Evaluates s e)
      (λ v. v ≡ word_at type.kind (value_in m (term names e))) (first_fault (path_in m (term names e)))

module _ {scope : Scope} {names : Numbers} {types : Types} {n : ℕ} (linked : Linked scope names types n) where
  pub means : {e : ExprTree} {type : WordType} → rules.HasType scope e (Word type) → AreSmall e
      → TermMeans names types e type
  means (rules.of_number below) small = record {
    kind = refl;
    label = refl;
    typed = flat.of_number below;
    value = λ s m shows. well _ (by_operands none_left) refl;
  }
  means rules.of_truth small = record {
    kind = refl;
    label = refl;
    typed = flat.of_truth;
    value = λ s m shows. well _ (by_operands none_left) refl;
  }
  means {type = word} (rules.of_name {text = text} {mutable = mutable} is) small =
      let k = linked.known text (word_as word mutable) is in
      record {
        kind = ap (λ (d : FlatVariable). d.word.kind) k.declared;
        label = ap (λ (d : FlatVariable). d.word.label) k.declared;
        typed = flat.of_variable k.typed.is;
        value = λ s m shows. well _ (by_operands none_left) (ap word_held (shows text _ k.found).is);
      }
  means (rules.of_prefix {operator = operator} {operand = operand} {kind = kind} has takes) small =
      let a = means has small in
      record {
        kind = a.kind;
        label = a.label;
        typed = flat.of_prefix a.typed takes (ap width_of a.kind);
        value = λ s m shows. also (a.value s m shows)
            (λ w one same. (prefix_word operator w, by_operands (one_more one none_left), rw (same, a.kind)))
            (λ at is. operand_faults (this_faults is));
      }
  means (rules.of_binary {place = place} {operator = operator} {left = left} {right = right} {one = one} {other = other}
      {whole = whole} has more makes) small =
      let a = means has small.0 in
      let b = means more small.1 in
      let kind = (made makes).0 in
      record {
        kind = ap (operation_kind (operation_of operator)) a.kind ∙ kind;
        label = ap₂ joined a.label b.label ∙ (made makes).1;
        typed = flat.of_binary a.typed b.typed (rw linked.observed makes) (ap width_of a.kind);
        value = λ s m shows.
            let x = value_in m (term names left) in
            let y = value_in m (term names right) in
            let e = binary place operator left right in
            let own = marks_of place operator x y in
            let word : binary_word operator (word_at one.kind x) (word_at other.kind y)
            ≡ word_at whole.kind (operated operator (width_of (kind_in names left)) x y) =
            ap₂ (λ k u. word_at k (operated operator u x y)) kind (ap width_of (sym a.kind)) in
            rw (across, across, either-assoc)
            (then_comes (a.value s m shows)
            (λ v first same.
            then_comes (b.value s m shows)
            (λ u second alike. ended (first_fault own) (subst (Evaluates s e)
            (ap₂ (λ v u. applied s e (v ∷ u ∷ [])) same alike
            ∙ ap (λ u. if divides operator && (y == 0) then faults place else gives u) word
            ∙ marks_found (divides operator) (multiplies operator) place x y _)
            (by_operands (one_more first (one_more second none_left)))))
            (λ at is. operand_faults (later_faults first (this_faults is))))
            (λ at is. operand_faults (this_faults is)));
      }
  means (rules.of_rotation {operand = operand} {amount = amount} has numeric low high) small =
      let a = means has small.0 in
      record {
        kind = a.kind;
        label = a.label;
        typed = flat.of_rotation a.typed numeric low high (ap width_of a.kind);
        value = λ s m shows. also (a.value s m shows)
            (λ w one same. (rotated_word amount w, by_operands (one_more one none_left), rw (same, a.kind)))
            (λ at is. operand_faults (this_faults is));
      }
  means (rules.of_conversion {kind = kind} has) small =
      let a = means has small.1 in
      record {
        kind = refl;
        label = a.label;
        typed = flat.of_conversion a.typed small.0;
        value = λ s m shows. also (a.value s m shows)
            (λ w one same. (converted_word kind w, by_operands (one_more one none_left), rw same))
            (λ at is. operand_faults (this_faults is));
      }
  means (rules.of_selection {condition = condition} {accepted = accepted} {otherwise = otherwise} {kind = kind} chooser
      has more) small =
      let c = means chooser small.0 in
      let a = means has small.1 in
      let b = means more small.2 in
      record {
        kind = a.kind;
        label = ap₂ joined c.label (ap₂ joined a.label b.label);
        typed = flat.of_selection c.typed a.typed b.typed;
        value = λ s m shows.
            rw (across, across, either-assoc)
            (then_comes (c.value s m shows)
            (λ u zeroth chosen.
            then_comes (a.value s m shows)
            (λ v first same.
            also (b.value s m shows)
            (λ w second alike. (
              selected_word u v w,
              by_operands (one_more zeroth (one_more first (one_more second none_left))),
              rw (chosen, same, alike) (picked (value_in m (term names condition) == 0) kind _ _),
            ))
            (λ at is. operand_faults (later_faults zeroth (later_faults first (this_faults is)))))
            (λ at is. operand_faults (later_faults zeroth (this_faults is))))
            (λ at is. operand_faults (this_faults is)));
      }
  means (rules.of_element {place = place} {target = target} {text = text} {index = index} {array = own} {mutable =
      mutable} is has) small =
      let k = linked.known text (array_as own.element mutable own.length) is in
      let size = ap (λ (d : FlatVariable). numbers_in d.elements) k.declared in
      let i = means has small in
      record {
        kind = ap (λ (d : FlatVariable). d.word.kind) k.declared;
        label = ap (λ (d : FlatVariable). d.word.label) k.declared;
        typed = flat.of_element
            (k.typed.is ∙ ap (λ n. Some (array_as own.element k.typed.free n)) (sym size)) i.typed;
        value = λ s m shows.
            rw (across, either-none)
            (then_comes (i.value s m shows)
            (λ w one same. element_comes k s m shows place target one same)
            (λ at is. operand_faults (this_faults is)));
      }

-- where it is put
pub still_public : {label wanted : Label} → rules.FlowsTo label wanted → wanted ≡ Public → label ≡ Public
still_public rules.public_flows e = refl
still_public rules.secret_flows e = e

pub suits_there : {names : Numbers} {types : Types} {e : ExprTree} {given wanted : WordType}
    → TermMeans names types e given
    → rules.Suits given wanted → TermSuits types wanted (term names e)
suits_there means (rules.suits {kind = kind} {label = label} flow) =
    record { word = labelled kind label; has_type = means.typed; kind = refl; label = still_public flow }
