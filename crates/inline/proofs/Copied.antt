-- What the caller's names hold once a called body has ended.
use Rattle.std.proofs.Common.{◌≡◌, ℕ, ◌+◌, ◌<◌, true, false, List, [], ◌∷◌, Some, ◌⊎◌, inl, inr, ⊎_elim, refl, sym}
use Rattle.std.proofs.Common.{ap, ◌∙◌, true≢false}
use Rattle.std.proofs.lemmas.Bool.{cases_Bool}
use Rattle.std.proofs.lemmas.Option.{none-some, same_Some}
use Rattle.std.specs.Str.{bytes_eq}
use lib.Pointwise.{bytes_decides}
use Rattle.inline.specs.Below.{ArePassed, Array, array_of, as_array, as_mutable_array, as_word, copied_out, ExprTree}
use Rattle.inline.specs.Below.{FixedArray, Form, found, gone_back, is_mutable, is_word, IsVariable, labelled}
use Rattle.inline.specs.Below.{MutableArray, name, none_passed, one_passed, ParameterTree, Place, Scope, SingleWord}
use Rattle.inline.specs.Below.{State}
use Rattle.inline.specs.declared.numbering.Numbered.{Numbered}
use Rattle.inline.specs.Flat.{array_as, elements_by, numbers_in}
use Rattle.inline.specs.FlatMeaning.{Values}
use Rattle.inline.specs.FlatTyping.{Types}
use Rattle.inline.specs.Numbering.{Numbers, naming, begun, number_given, number_of, own_variable}
use Rattle.inline.proofs.Begun.{NamesGiven}
use Rattle.inline.proofs.Called.{Spares}
use Rattle.inline.proofs.Linked.{Linked, entry}
use Rattle.inline.proofs.Below.{found-split}
use Rattle.inline.proofs.Passing.{held_by_other}
use Rattle.inline.proofs.Terms.{VariableHolds, Shows}

-- a call may change the array of this number
abbrev pub Changes : Numbers → ℕ → List ParameterTree → List ExprTree → Type 0
Changes names y [] es = ⊥
Changes names y (p ∷ ps) [] = ⊥
Changes names y (p ∷ ps) (e ∷ es) = ((is_mutable p.form ≡ true) × (number_given names e ≡ y)) ⊎ Changes names y ps es

-- the mutable names of a called body are those of such arrays
pub word_immutable : {A : Type 0} (form : Form) → is_word form ≡ true → is_mutable form ≡ true → A
word_immutable MutableArray is free = absurd (true≢false (sym is))
word_immutable form is free = absurd (true≢false (sym free))

mutable_begun : (names : Numbers) (ps : List ParameterTree) (es : List ExprTree) (own : Numbers) (n : ℕ)
    (text : List ℕ) (z : Numbered) → found (begun names own n ps es) text ≡ Some z → z.declaration.mutable ≡ true
    → (Changes names z.number ps es → ⊥) → found own text ≡ Some z
mutable_begun names [] es own n text z is free none = is
mutable_begun names (p ∷ ps) [] own n text z is free none = is
mutable_begun names (p ∷ ps) (e ∷ es) own n text z is free none = elim (cases_Bool (is_word p.form)) [
  | inl word ↦ before n (λ may same. word_immutable p.form word may)
      (mutable_begun names ps es _ (n + 1) text z (rw word at is) free (λ later. none (inr later)))
  | inr array ↦ before (number_given names e) (λ may same. none (inl (may, same)))
      (mutable_begun names ps es _ n text z (rw array at is) free (λ later. none (inr later)))
]
  where
    before : (number : ℕ) → (is_mutable p.form ≡ true → number ≡ z.number → ⊥)
        → found (naming own p.name number (own_variable p)) text ≡ Some z → found own text ≡ Some z
    before number other here = elim (found-split own p.name (entry number (own_variable p)) text z here) [
      | inl old ↦ old
      | inr new ↦ absurd (other (ap (λ (y : Numbered). y.declaration.mutable) new.1 ∙ free)
          (ap (λ (y : Numbered). y.number) new.1))
    ]

-- a number that the call changes nowhere
pub spares_begun : (names : Numbers) (n start x : ℕ) (ps : List ParameterTree) (es : List ExprTree) → x < start
    → (Changes names x ps es → ⊥) → Spares (begun names [] n ps es) start x
spares_begun names n start x ps es low none = record {
  below = low;
  spared = λ text y is free same. none-some y (mutable_begun names ps es [] n text y is free
      (λ changes. none (rw same at changes)));
}

-- an array goes back to where it came from
module _ {scope : Scope} {names : Numbers} {types : Types} {n : ℕ} (linked : Linked scope names types n) (t : State)
    (m : Values) (own : Numbers) (shows : Shows own t m) where
  -- a name holds what its variable does, unless one of these goes back to it
  abbrev Back : List ParameterTree → List ExprTree → State → Type 0
  Back ps es s = (text : List ℕ) (x : Numbered) → found names text ≡ Some x → (Changes names x.number ps es → ⊥)
      → VariableHolds x.declaration (s text) (m x.number)

  immutable_back : (p : ParameterTree) (form : Form) (e : ExprTree) (ps : List ParameterTree) (es : List ExprTree)
      (s : State) → p.form ≡ form → is_mutable form ≡ false → gone_back form s t e p.name ≡ s
      → Back (p ∷ ps) (e ∷ es) s
      → Back ps es (gone_back p.form s t e p.name)
  immutable_back p form e ps es s is off nothing back text x there none = rw (is, nothing)
      (back text x there (⊎_elim (λ here. true≢false (sym here.0 ∙ (ap is_mutable is ∙ off))) none))

  mutable_back : (p : ParameterTree) (place : Place) (array : List ℕ) (ps : List ParameterTree) (es : List ExprTree)
      (s : State) → p.form ≡ MutableArray → IsVariable scope array (Array (array_of p)) true
      → found own p.name ≡ Some (entry (number_given names (name place array)) (own_variable p))
      → Back (p ∷ ps) (name place array ∷ es) s → Back ps es (gone_back p.form s t (name place array) p.name)
  mutable_back p place array ps es s form known named back text x there none =
      let d = array_as (labelled p.kind p.label) true p.length in
      let k = linked.known array d known in
      let size : elements_by p.form p.length ≡ Some p.length = ap (λ f. elements_by f p.length) form in
      let holds = shows p.name _ named in
      elim (cases_Bool (bytes_eq text array)) [
        | inl same ↦ (
            let alike = same_Some (entry (number_of names array) d) x (sym k.found
            ∙ (ap (found names) (sym ((bytes_decides text array).0 same)) ∙ there)) in
            rw (← alike, form, holds.is, same) (record { is = rw size; count = holds.count ∙ ap numbers_in size }))
        | inr other ↦ (
            let apart = λ (same : number_of names array ≡ x.number).
            (bytes_decides text array).1 (sym (linked.apart array text _ x k.found there same refl)) in
            rw (form, held_by_other s array text (t p.name) other)
            (back text x there (⊎_elim (λ here. true≢false (sym (apart here.1) ∙ other)) none)))
      ]

  pub copied : {ps : List ParameterTree} {es : List ExprTree} → ArePassed scope ps es → NamesGiven names own ps es
      → (s : State) → Back ps es s → Shows names (copied_out s t ps es) m
  copied none_passed named s back = λ text x there. back text x there (λ none. none)
  copied (one_passed {p = p} {ps = ps} {argument = e} {arguments = es} (as_word form has suit) shares are) named s
      back = copied are named.1 _ (immutable_back p SingleWord e ps es s form refl refl back)
  copied (one_passed {p = p} {ps = ps} {argument = e} {arguments = es} (as_array form known) shares are)
      named s back = copied are named.1 _ (immutable_back p FixedArray e ps es s form refl refl back)
  copied (one_passed {p = p} {ps = ps} {argument = e} {arguments = es}
      (as_mutable_array {place = place} {text = array} form known) shares are) named s back =
      copied are named.1 _ (mutable_back p place array ps es s form known (named.0 (ap is_word form)) back)
