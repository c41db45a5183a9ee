-- An expression has one type, whoever the observer is.
use Rattle.std.proofs.Common.{◌≡◌, ℕ, ◌==◌, List, Some, inl, inr, slice_get, refl, sym, ap, ap₂, ◌∙◌}
use Rattle.std.proofs.lemmas.Bool.{cases_Bool, eqb-true}
use Rattle.std.proofs.lemmas.Option.{same_Some}
use Rattle.intervals.specs.Below.{arithmetic, array_as, Boolean, division, equality, FlatVariable, TermHasType, joined}
use Rattle.intervals.specs.Below.{Label, labelled, logic, Makes, multiplication, of_binary, of_conversion, of_element}
use Rattle.intervals.specs.Below.{of_number, of_prefix, of_rotation, of_selection, of_truth, of_variable, order}
use Rattle.intervals.specs.Below.{Profile, Public, Secret, shift, TermTree, Types, types_of, with_type, word_as}
use Rattle.intervals.specs.Below.{WordType}
use Rattle.language.specs.declared.operation.Operation.{Operation}

-- what is made of two words of the same types is of one type
one_made : {one other : Profile} {operation : Operation} {a b c d e f : WordType} → Makes one operation a b c
    → Makes other operation d e f → a ≡ d → b ≡ e → c ≡ f
one_made (arithmetic p) (arithmetic q) s t = ap₂ (λ (x y : WordType). labelled x.kind (joined x.label y.label)) s t
one_made (multiplication p may) (multiplication q might) s t =
    ap₂ (λ (x y : WordType). labelled x.kind (joined x.label y.label)) s t
one_made (division p) (division q) s t = s
one_made (shift p) (shift q) s t = ap₂ (λ (x y : WordType). labelled x.kind (joined x.label y.label)) s t
one_made equality equality s t = ap₂ (λ (x y : WordType). labelled Boolean (joined x.label y.label)) s t
one_made (order p) (order q) s t = ap₂ (λ (x y : WordType). labelled Boolean (joined x.label y.label)) s t
one_made logic logic s t = ap₂ (λ (x y : WordType). labelled Boolean (joined x.label y.label)) s t

-- all that is in scope is listed
abbrev pub IsListed : List FlatVariable → Types → Type 0
IsListed declared types = (x : ℕ) (d : FlatVariable) → types.at x ≡ Some d → slice_get declared x ≡ Some d

-- also a variable that is listed as it is declared
pub listed_beside : (declared : List FlatVariable) (types : Types) (x : ℕ) (d : FlatVariable)
    → slice_get declared x ≡ Some d → IsListed declared types → IsListed declared (with_type types x d)
listed_beside declared types x d there listed y e is = elim (cases_Bool (y == x)) [
  | inl same ↦ ap (slice_get declared) (eqb-true y x same) ∙ (there ∙ rw same at is)
  | inr other ↦ listed y e (rw other at is)
]

module _ (declared : List FlatVariable) (types : Types) (listed : IsListed declared types) where
  pub one_type : {profile : Profile} {e : TermTree} {a b : WordType} → TermHasType types e a
      → TermHasType (types_of profile declared) e b → a ≡ b
  one_type (of_number p) (of_number q) = refl
  one_type of_truth of_truth = refl
  one_type (of_variable {x = x} {word = word} {mutable = mutable} p)
      (of_variable {word = word'} {mutable = mutable'} q) =
      ap (λ (d : FlatVariable). d.word)
      (same_Some (word_as word mutable) (word_as word' mutable') (sym (listed x (word_as word mutable) p) ∙ q))
  one_type (of_prefix p t w) (of_prefix q u v) = one_type p q
  one_type (of_binary p q m w) (of_binary r s n v) = one_made m n (one_type p r) (one_type q s)
  one_type (of_rotation p k l h w) (of_rotation q k' l' h' v) = one_type p q
  one_type (of_conversion {kind = kind} p k) (of_conversion q k') =
      ap (λ (t : WordType). labelled kind t.label) (one_type p q)
  one_type (of_selection p q r) (of_selection s t u) =
      let c = one_type p s in
      let a = one_type q t in
      let b = one_type r u in
      λ i. labelled (a i).kind (joined (c i).label (joined (a i).label (b i).label))
  one_type (of_element {x = x} {size = size} {word = word} {mutable = mutable} p i)
      (of_element {word = word'} {mutable = mutable'} q j) =
      ap (λ (d : FlatVariable). d.word)
      (same_Some (array_as word mutable size) (array_as word' mutable' size)
      (sym (listed x (array_as word mutable size) p) ∙ q))

-- both operands of what is public are
pub joined_public : (l m : Label) → joined l m ≡ Public → (l ≡ Public) × (m ≡ Public)
joined_public Public m is = (refl, is)
joined_public Secret m is = absurd cc
