-- What is in scope keeps its type.
use Rattle.std.proofs.Common.{◌≡◌, ℕ, false, List, Some, None, sym, ap, ◌∙◌}
use Rattle.std.proofs.lemmas.Option.{none-some}
use Rattle.inline.specs.declared.flat.FlatVariable.{FlatVariable}
use Rattle.inline.specs.Flat.{FlatTree, declare, array, hold, FlatBlock, nothing}
use Rattle.inline.specs.Flat.{first, word_as, array_as}
use Rattle.inline.specs.FlatTyping.{Types, counter_type, IsTyped, AreTyped, types_after, types_after_all}
use Rattle.inline.specs.Below.{Label}
use Rattle.inline.proofs.Linked.{with_type-other}

-- what is new is none of what is in scope
pub new_number : (types : Types) (x y : ℕ) (d : FlatVariable) → types.at x ≡ None → types.at y ≡ Some d → y ≡ x → ⊥
new_number types x y d new known same = none-some d (sym new ∙ (ap types.at (sym same) ∙ known))

module _ (all : List FlatVariable) where
  pub type_kept : (types : Types) (control : Label) (s : FlatTree) → IsTyped all types control s
      → (y : ℕ) (d : FlatVariable) → types.at y ≡ Some d → (types_after types s).at y ≡ Some d
  type_kept types control (declare x word mutable value) typed y d known =
      with_type-other types x y (word_as word mutable) (new_number types x y d typed.0.new known) ∙ known
  type_kept types control (array x word mutable size values) typed y d known =
      with_type-other types x y (array_as word mutable size) (new_number types x y d typed.0.new known) ∙ known
  type_kept types control (hold x place size index) typed y d known =
      with_type-other types x y (word_as counter_type false) (new_number types x y d typed.0.new known) ∙ known
  type_kept types control other typed y d known = known

  pub types_kept : (types : Types) (control : Label) (b : FlatBlock) → AreTyped all types control b
      → (y : ℕ) (d : FlatVariable) → types.at y ≡ Some d → (types_after_all types b).at y ≡ Some d
  types_kept types control nothing typed y d known = known
  types_kept types control (first s rest) typed y d known = types_kept (types_after types s) control rest typed.1 y d
      (type_kept types control s typed.0 y d known)
