-- What is in scope stays in scope, as it is declared, and is declared so in the list of all variables.
use Rattle.std.proofs.Common.{◌≡◌, ℕ, ◌==◌, false, List, [], ◌∷◌, Option, None, Some, slice_get, inl, inr, refl, ◌∙◌}
use Rattle.std.proofs.lemmas.Bool.{cases_Bool, ne_eqb, cond-false}
use Rattle.std.proofs.lemmas.Option.{none-some}
use Rattle.branch_removal.specs.Below.{AllSuit, AreTyped, array, declare, first, FlatBlock, FlatTree, FlatVariable}
use Rattle.branch_removal.specs.Below.{TermHasType, hold, IsResult, IsTyped, Label, nothing, of_binary, of_conversion}
use Rattle.branch_removal.specs.Below.{of_element, of_number, of_prefix, of_rotation, of_selection, of_truth}
use Rattle.branch_removal.specs.Below.{of_variable, Profile, TermSuits, TermTree, Types, types_after, types_after_all}
use Rattle.branch_removal.specs.Below.{types_of, with_type, WordType}
use Rattle.inline.proofs.Face.{new_number, with_type-other}
use Rattle.intervals.proofs.LooseTypes.{listed_beside}
use Rattle.branch_removal.specs.StraightTyping.{types_but}

-- a new variable is none of those in scope
pub apart : (types : Types) (x y : ℕ) (d : FlatVariable) → types.at x ≡ None → types.at y ≡ Some d → (y == x) ≡ false
apart types x y d new known = ne_eqb y x (new_number types x y d new known)

-- what is in scope is as it was where a new variable is declared
pub stays_beside : (types : Types) (x : ℕ) (new : FlatVariable) → types.at x ≡ None
    → (y : ℕ) (d : FlatVariable) → types.at y ≡ Some d → (with_type types x new).at y ≡ Some d
stays_beside types x new absent y d known =
    with_type-other types x y new (new_number types x y d absent known) ∙ known

-- both are for one observer, and one is declared as the other says, wherever it says something
pub record AreAmong (types all : Types) : Type 0 where
  pub profile : types.profile ≡ all.profile
  pub at : (x : ℕ) (d : FlatVariable) → types.at x ≡ Some d → all.at x ≡ Some d

module _ (types all : Types) (among : AreAmong types all) where
  -- so an expression has its type among more variables too
  pub has_type_among : {e : TermTree} {word : WordType} → TermHasType types e word → TermHasType all e word
  has_type_among (of_number below) = of_number below
  has_type_among of_truth = of_truth
  has_type_among (of_variable {x = x} {mutable = mutable} is) = of_variable {mutable = mutable} (among.at x _ is)
  has_type_among (of_prefix has takes even) = of_prefix (has_type_among has) takes even
  has_type_among (of_binary {operator = operator} {one = one} {other = other} {whole = whole} has more makes even) =
      of_binary (has_type_among has) (has_type_among more)
      (rw among.profile at makes) even
  has_type_among (of_rotation has numeric low high even) = of_rotation (has_type_among has) numeric low high even
  has_type_among (of_conversion has numeric) = of_conversion (has_type_among has) numeric
  has_type_among (of_selection chooser has more) =
      of_selection (has_type_among chooser) (has_type_among has) (has_type_among more)
  has_type_among (of_element {x = x} {mutable = mutable} is index) =
      of_element {mutable = mutable} (among.at x _ is) (has_type_among index)

  pub suits_among : (wanted : WordType) (e : TermTree) → TermSuits types wanted e → TermSuits all wanted e
  suits_among wanted e suits = record {
    word = suits.word;
    has_type = has_type_among suits.has_type;
    kind = suits.kind;
    label = suits.label;
  }

  pub suit_among : (wanted : WordType) (es : List TermTree) → AllSuit types wanted es → AllSuit all wanted es
  suit_among wanted [] suits = tt
  suit_among wanted (e ∷ es) suits = (suits_among wanted e suits.0, suit_among wanted es suits.1)

  pub result_among : (returned : Option WordType) (value : Option TermTree) → IsResult types returned value
      → IsResult all returned value
  result_among None None result = tt
  result_among (Some word) (Some value) result = suits_among word value result
  result_among returned value result = absurd result

-- a variable that is listed as it is declared
pub among_beside : (profile : Profile) (declared : List FlatVariable) (types : Types) (x : ℕ) (new : FlatVariable)
    → slice_get declared x ≡ Some new
    → AreAmong types (types_of profile declared) → AreAmong (with_type types x new) (types_of profile declared)
among_beside profile declared types x new listed among =
    record { profile = among.profile; at = listed_beside declared types x new listed among.at }

module _ (profile : Profile) (declared : List FlatVariable) where
  mutual
    pub among_after : (types : Types) (label : Label) (statement : FlatTree) → IsTyped declared types label statement
        → AreAmong types (types_of profile declared)
        → AreAmong (types_after types statement) (types_of profile declared)
    among_after types label (declare x word mutable value) typed among =
        among_beside profile declared types x _ typed.0.listed among
    among_after types label (array x word mutable size values) typed among =
        among_beside profile declared types x _ typed.0.listed among
    among_after types label (hold x place size index) typed among =
        among_beside profile declared types x _ typed.0.listed among
    among_after types label other typed among = among

    pub among_after_all : (types : Types) (label : Label) (body : FlatBlock) → AreTyped declared types label body
        → AreAmong types (types_of profile declared)
        → AreAmong (types_after_all types body) (types_of profile declared)
    among_after_all types label nothing typed among = among
    among_after_all types label (first statement rest) typed among =
        among_after_all (types_after types statement) label rest typed.1
        (among_after types label statement typed.0 among)

-- what is in scope is among all variables but a new one
pub among_but : (profile : Profile) (declared : List FlatVariable) (types : Types) (x : ℕ) → types.at x ≡ None
    → AreAmong types (types_of profile declared) → AreAmong types (types_but profile declared x)
among_but profile declared types x new among = record {
  profile = among.profile;
  at = λ y d known. cond-false (y == x) None (slice_get declared y) (apart types x y d new known)
      ∙ among.at y d known;
}

-- and these are among all
pub but_among : (profile : Profile) (declared : List FlatVariable) (x : ℕ)
    → AreAmong (types_but profile declared x) (types_of profile declared)
but_among profile declared x = record {
  profile = refl;
  at = λ y d known. elim (cases_Bool (y == x)) [
    | inl same ↦ absurd (none-some d (rw same at known))
    | inr other ↦ rw other at known
  ];
}
