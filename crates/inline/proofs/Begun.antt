-- Where a called body begins: its words have new numbers, and its arrays those of the caller.
use Rattle.std.proofs.Common.{◌≡◌, ℕ, ◌+◌, ◌<◌, Bool, true, false, List, [], ◌∷◌, length, Some, inl, inr, refl, sym}
use Rattle.std.proofs.Common.{ap, ◌∙◌, arith, true≢false}
use Rattle.std.proofs.lemmas.Bool.{cases_Bool, or_parts}
use Rattle.std.proofs.lemmas.Option.{none-some}
use lib.Pointwise.{bytes_decides}
use Rattle.inline.specs.declared.flat.FlatVariable.{FlatVariable}
use Rattle.inline.specs.declared.numbering.Numbered.{Numbered}
use Rattle.inline.specs.Below.{AreNew, ArePassed, Array, array_given, array_of, as_array, as_mutable_array, as_word}
use Rattle.inline.specs.Below.{ExprTree, FixedArray, Form, found, HasType, is_mutable, is_word, IsPassed, IsVariable}
use Rattle.inline.specs.Below.{labelled, MutableArray, name, none_passed, one_is_new, one_passed, ParameterTree, Place}
use Rattle.inline.specs.Below.{same_name, Scope, SharesNone, SingleWord, Suits, with_parameters, Word, WordType}
use Rattle.inline.specs.Flat.{word_as, array_as, elements_by}
use Rattle.inline.specs.FlatTyping.{Types, types_after_all}
use Rattle.inline.specs.Numbering.{Numbers, naming, begun, passed, passed_variables, number_given, own_variable}
use Rattle.inline.proofs.Below.{found-new, found-kept, found-split}
use Rattle.inline.proofs.Linked.{Linked, Serves, entry, later, linked_beside}
use Rattle.inline.proofs.Parameters.{linked_parameter, linked_own, itself}

-- An argument.

-- a word
pub record WordGiven (scope : Scope) (p : ParameterTree) (e : ExprTree) : Type 0 where
  pub given : WordType
  pub has : HasType scope e (Word given)
  pub suits : Suits given (labelled p.kind p.label)
  pub form : p.form ≡ SingleWord

-- an array of the caller
pub record ArrayGiven (names : Numbers) (types : Types) (n : ℕ) (p : ParameterTree) (e : ExprTree) : Type 0 where
  pub text : List ℕ
  pub place : Place
  pub named : e ≡ name place text
  pub free : Bool
  pub found : found names text
      ≡ Some (entry (number_given names e) (array_as (labelled p.kind p.label) free p.length))
  pub low : number_given names e < n
  pub given : array_given p.form e ≡ Some text
  pub enough : is_mutable p.form ≡ true → free ≡ true
  pub elements : elements_by p.form p.length ≡ Some p.length
  pub serves : Serves (types.at (number_given names e)) (own_variable p)

pub word_given : {scope : Scope} {p : ParameterTree} {e : ExprTree} → IsPassed scope p e → is_word p.form ≡ true
    → WordGiven scope p e
word_given (as_word {given = given} form has suit) is = record { given = given; has = has; suits = suit; form = form }
word_given (as_array form known) is = absurd (true≢false (sym is ∙ ap is_word form))
word_given (as_mutable_array form known) is = absurd (true≢false (sym is ∙ ap is_word form))

-- a word parameter is a word that is not `mut`
pub own_word : (p : ParameterTree) (form : Form) → is_word form ≡ true
    → word_as (labelled p.kind p.label) false
    ≡ record { word = labelled p.kind p.label; mutable = is_mutable form; elements = elements_by form p.length }
own_word p SingleWord is = refl
own_word p form is = absurd cc

module _ {scope : Scope} {names : Numbers} {types : Types} {n : ℕ} (linked : Linked scope names types n) where
  -- an array that is given for one of this form
  by_name : (p : ParameterTree) (form : Form) (place : Place) (text : List ℕ) (mutable : Bool) → p.form ≡ form
      → IsVariable scope text (Array (array_of p)) mutable → array_given form (name place text) ≡ Some text
      → (is_mutable form ≡ true → mutable ≡ true)
      → elements_by form p.length ≡ Some p.length → ArrayGiven names types n p (name place text)
  by_name p form place text mutable is known given enough elements =
      let k = linked.known text (array_as (labelled p.kind p.label) mutable p.length) known in
      let may = λ (e : is_mutable p.form ≡ true). enough (sym (ap is_mutable is) ∙ e) in
      let count : elements_by p.form p.length ≡ Some p.length = rw is elements in
      record {
        text = text;
        place = place;
        named = refl;
        free = mutable;
        found = k.found;
        low = linked.below text _ k.found;
        given = rw is given;
        enough = may;
        elements = count;
        serves = record { free = k.typed.free; is = rw count k.typed.is; enough = λ e. k.typed.enough (may e) };
      }

  pub array_passed : {p : ParameterTree} {e : ExprTree} → IsPassed scope p e → is_word p.form ≡ false
      → ArrayGiven names types n p e
  array_passed {p = p} (as_word form has suit) off = absurd (true≢false (sym (ap is_word form) ∙ off))
  array_passed {p = p} (as_array {place = place} {text = text} {mutable = mutable} form known) off =
      by_name p FixedArray place text mutable form known refl (λ e. absurd (true≢false (sym e))) refl
  array_passed {p = p} (as_mutable_array {place = place} {text = text} form known) off =
      by_name p MutableArray place text true form known refl (λ e. refl) refl

-- Arguments apart.

-- no argument here has this number, unless neither of the two may be changed
abbrev pub Unshared : Numbers → ℕ → Bool → List ParameterTree → List ExprTree → Type 0
Unshared names number free [] es = Unit {0}
Unshared names number free (q ∷ qs) [] = Unit {0}
Unshared names number free (q ∷ qs) (b ∷ bs) =
    (is_word q.form ≡ false → number ≡ number_given names b → (free ≡ true → ⊥) × (is_mutable q.form ≡ true → ⊥))
    × Unshared names number free qs bs

-- nor has any of these names
abbrev pub Distinct : Numbers → Numbers → List ParameterTree → List ExprTree → Type 0
Distinct names own ps es = (text : List ℕ) (x : Numbered) → found own text ≡ Some x
    → Unshared names x.number x.declaration.mutable ps es

pub distinct_none : (names : Numbers) (ps : List ParameterTree) (es : List ExprTree) → Distinct names [] ps es
distinct_none names ps es text x is = absurd (none-some x is)

distinct_more : (names own : Numbers) (text : List ℕ) (number : ℕ) (d : FlatVariable) (ps : List ParameterTree)
    (es : List ExprTree) → Unshared names number d.mutable ps es → Distinct names own ps es
    → Distinct names (naming own text number d) ps es
distinct_more names own text number d ps es shares others other x is =
    elim (found-split own text (entry number d) other x is) [
      | inl old ↦ others other x old
      | inr new ↦ rw (← new.1) shares
    ]

module _ {scope : Scope} {names : Numbers} {types : Types} {n : ℕ} (linked : Linked scope names types n) where
  -- a new number is none of the caller's
  unshared_word : (free : Bool) {ps : List ParameterTree} {es : List ExprTree} → ArePassed scope ps es
      → Unshared names n free ps es
  unshared_word free none_passed = tt
  unshared_word free (one_passed is shares are) =
      ((λ off at. absurd (omega (arith, (array_passed linked is off).low))), unshared_word free are)

  -- an array that may be changed is given once
  unshared_array : {p : ParameterTree} {e : ExprTree} → ArrayGiven names types n p e
      → {ps : List ParameterTree} {es : List ExprTree} → SharesNone p e ps es → ArePassed scope ps es
      → Unshared names (number_given names e) (is_mutable p.form) ps es
  unshared_array a none none_passed = tt
  unshared_array {p = p} a none (one_passed {p = q} is shares are) = (
    (λ off at.
        let b = array_passed linked is off in
        let neither = λ (same : b.text ≡ a.text). or_parts (is_mutable q.form) (is_mutable p.form)
        (rw (b.given, a.given, (bytes_decides b.text a.text).1 same, same_name) at none.0) in (
          (λ free. true≢false (sym free
              ∙ (neither (sym (linked.apart a.text b.text _ _ a.found b.found at (a.enough free)))).1)),
          (λ free. true≢false (sym free
              ∙ (neither (linked.apart b.text a.text _ _ b.found a.found (sym at) (b.enough free))).0)),
        )),
    unshared_array a none.1 are,
  )

-- All parameters.

-- the names of arrays have the caller's numbers
abbrev pub NamesGiven : Numbers → Numbers → List ParameterTree → List ExprTree → Type 0
NamesGiven names own [] es = Unit {0}
NamesGiven names own (p ∷ ps) [] = Unit {0}
NamesGiven names own (p ∷ ps) (e ∷ es) =
    (is_word p.form ≡ false → found own p.name ≡ Some (entry (number_given names e) (own_variable p)))
    × NamesGiven names own ps es

-- the body of these parameters begins in these names, with these types and this next number
pub record EntersBody (scope : Scope) (names : Numbers) (ps : List ParameterTree) (es : List ExprTree) (own : Numbers)
    (types : Types) (n : ℕ) : Type 0 where
  pub linked : Linked (with_parameters scope ps) own types n
  pub named : NamesGiven names own ps es

-- names of the one list keep what they stand for
pub kept_begun : (names : Numbers) (ps : List ParameterTree) (es : List ExprTree) (own : Numbers) (n : ℕ)
    (text : List ℕ) (x : Numbered) → found own text ≡ Some x → found (begun names own n ps es) text ≡ Some x
kept_begun names [] es own n text x is = is
kept_begun names (p ∷ ps) [] own n text x is = is
kept_begun names (p ∷ ps) (e ∷ es) own n text x is = elim (cases_Bool (is_word p.form)) [
  | inl word ↦ rw word (kept_begun names ps es _ (n + 1) text x (found-kept own p.name _ text x is))
  | inr array ↦ rw array (kept_begun names ps es _ n text x (found-kept own p.name _ text x is))
]

pub enters : {scope : Scope} {names : Numbers} {ps : List ParameterTree} {es : List ExprTree} → ArePassed scope ps es
    → {inner : Scope} {own : Numbers} {types : Types} {n : ℕ} → AreNew inner ps → Linked scope names types n
    → Linked inner own types n → Distinct names own ps es
    → EntersBody inner names ps es (begun names own n ps es) (types_after_all types (passed names n ps es))
    (n + length (passed_variables ps es))
enters none_passed new linked within apart = record { linked = later (omega arith) within; named = tt }
enters {names = names} (one_passed {p = p} {ps = ps} {argument = e} {arguments = es} is shares are) {own = own} {n = n}
    (one_is_new here there) linked within apart = elim (cases_Bool (is_word p.form)) [
      | inl word ↦ (
          let d = word_as (labelled p.kind p.label) false in
          let rest = enters are there (linked_beside linked d)
          (linked_own within p here d (own_word p p.form word))
          (distinct_more names own p.name n (own_variable p) ps es
          (unshared_word linked (is_mutable p.form) are) (λ text x known. (apart text x known).1)) in
          rw word (record {
            linked = later (omega arith) rest.linked;
            named = ((λ array. absurd (true≢false (sym word ∙ array))), rest.named);
          }))
      | inr array ↦ (
          let a = array_passed linked is array in
          let number = number_given names e in
          let rest = enters are there linked
          (linked_parameter within p here number a.low a.serves (λ other x known. (apart other x known).0 array))
          (distinct_more names own p.name number (own_variable p) ps es
          (unshared_array linked a shares are) (λ text x known. (apart text x known).1)) in
          rw array (record {
            linked = rest.linked;
            named = (
              (λ _. kept_begun names ps es _ n p.name (entry number (own_variable p))
                  (found-new own p.name _ p.name (itself p.name) (within.none p.name here))),
              rest.named,
            );
          }))
    ]
