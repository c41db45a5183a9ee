-- States of the source beside the values of numbered variables, as declarations and assignments change both.
use Rattle.std.proofs.Common.{◌≡◌, ℕ, ◌+◌, true, if◌then◌else◌, List, Some, None, refl, sym, ap, ◌∙◌, true≢false}
use Rattle.std.proofs.Common.{ne_eqb, eq-eqb, inl, inr}
use Rattle.std.proofs.lemmas.Bool.{cases_Bool}
use Rattle.std.proofs.lemmas.Option.{same_Some}
use Rattle.std.specs.Str.{bytes_eq}
use lib.Pointwise.{bytes_decides}
use Rattle.inline.specs.declared.flat.FlatVariable.{FlatVariable}
use Rattle.inline.specs.declared.numbering.Numbered.{Numbered}
use Rattle.inline.specs.FlatMeaning.{Values}
use Rattle.inline.specs.FlatMeaning as flat
use Rattle.inline.specs.FlatTyping.{Types}
use Rattle.inline.specs.Numbering.{Numbers, Callables, naming, names_after, names_after_all, numbers_taken}
use Rattle.inline.specs.Below.{array, BlockTree, declaration, first, found, nothing, Scope, State, StatementTree, Value}
use Rattle.inline.specs.Below.{with_value}
use Rattle.inline.proofs.Linked.{Linked, entry, not_named}
use Rattle.inline.proofs.Below.{found-new, found-other, found-kept}
use Rattle.inline.proofs.Terms.{VariableHolds, Shows}

pub with_value-other : (m : Values) (x y : ℕ) (v : List ℕ) → (y ≡ x → ⊥) → flat.with_value m x v y ≡ m y
with_value-other m x y v other = ap (λ b. if b then v else m y) (ne_eqb y x other)

pub with_value-same : (m : Values) (x : ℕ) (v : List ℕ) → flat.with_value m x v x ≡ v
with_value-same m x v = ap (λ b. if b then v else m x) (eq-eqb x x refl)

module _ {scope : Scope} {names : Numbers} {types : Types} {n : ℕ} (linked : Linked scope names types n) (s : State)
    (m : Values) (shows : Shows names s m) (text : List ℕ) {own : FlatVariable} {v : Value} {numbers : List ℕ}
    (holds : VariableHolds own (Some v) numbers) where
  -- after a declaration
  pub shows_declared : found scope.names text ≡ None
      → Shows (naming names text n own) (with_value s text v) (flat.with_value m n numbers)
  shows_declared new other x is = elim (cases_Bool (bytes_eq other text)) [
    | inl e ↦ (
        let same = same_Some (entry n own) x (sym (found-new names text (entry n own) other e (linked.none text new))
        ∙ is) in
        rw (← same, e, with_value-same m n numbers) holds)
    | inr e ↦ (
        let old = sym (found-other names text (entry n own) other e) ∙ is in
        rw (e, with_value-other m n x.number numbers (not_named linked other x old)) (shows other x old))
  ]

  -- after an assignment
  pub shows_changed : (y : ℕ) → found names text ≡ Some (entry y own) → own.mutable ≡ true
      → Shows names (with_value s text v) (flat.with_value m y numbers)
  shows_changed y known free other x is = elim (cases_Bool (bytes_eq other text)) [
    | inl e ↦ (
        let same = same_Some (entry y own) x (sym known
        ∙ (ap (found names) (sym ((bytes_decides other text).0 e)) ∙ is)) in
        rw (← same, e, with_value-same m y numbers) holds)
    | inr e ↦ (
        let apart = λ (q : x.number ≡ y). true≢false
        (sym ((bytes_decides other text).1 (sym (linked.apart text other (entry y own) x known is (sym q) free)))
        ∙ e) in
        rw (e, with_value-other m y x.number numbers apart) (shows other x is))
  ]

-- What holds of a state where no number of a name has changed.
pub shows_kept : (names : Numbers) (s : State) (m o : Values) → Shows names s m
    → ((text : List ℕ) (x : Numbered) → found names text ≡ Some x → o x.number ≡ m x.number) → Shows names s o
shows_kept names s m o shows same text x is =
    rw (same text x is) (shows text x is)

-- Names outlast statements.

module _ (known : Callables) where
  kept_number : (s : StatementTree) (names : Numbers) (n : ℕ) (text : List ℕ) (x : Numbered)
      → found names text ≡ Some x
      → found (names_after known names n s) text ≡ Some x
  kept_number (declaration place label mutable kind own value) names n text x h = found-kept names own _ text x h
  kept_number (array place label mutable kind size own values) names n text x h = found-kept names own _ text x h
  kept_number other names n text x h = h

  pub kept_numbers : (b : BlockTree) (names : Numbers) (n : ℕ) (text : List ℕ) (x : Numbered)
      → found names text ≡ Some x → found (names_after_all known names n b) text ≡ Some x
  kept_numbers nothing names n text x h = h
  kept_numbers (first s rest) names n text x h = kept_numbers rest (names_after known names n s)
      (n + numbers_taken known s) text x (kept_number s names n text x h)

  -- after an arm the names are those before it
  pub shows_before : (b : BlockTree) (names : Numbers) (n : ℕ) (s : State) (m : Values)
      → Shows (names_after_all known names n b) s m → Shows names s m
  shows_before b names n s m shows text x is = shows text x (kept_numbers b names n text x is)
