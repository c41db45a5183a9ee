-- The first argument that an address is in, slot by slot.
use Rattle.std.proofs.Common.{◌≡◌, ℕ, ◌+◌, ◌<◌, List, ◌∷◌, ◌++◌, length, drop, Option, None, Some, ap, sym, ◌∙◌}
use Rattle.std.specs.Prelude.{slice_index_or}
use Rattle.std.proofs.lemmas.List.{drop_more}
use Rattle.image_reports.specs.Below.{Slot}
use Rattle.image_reports.specs.certificate_explanations.Places.{argument_text, distance_in, place_in_text, place_text}

module _ (frame a : ℕ) (slots : List Slot) (i : ℕ) (slot : Slot) (rest : List Slot)
    (left : drop i slots ≡ slot ∷ rest) where
  -- it is in this one
  pub place_here : (distance : ℕ) → distance_in frame slot a ≡ Some distance
      → place_text frame i (drop i slots) a ≡ argument_text i slot.param distance
  place_here distance is =
      ap (λ (some : List Slot). place_text frame i some a) left
      ∙ ap (λ (d : Option ℕ). place_in_text i slot.param d (place_text frame (i + 1) rest a)) is

  -- it is in a later one, if in any
  pub place_later : distance_in frame slot a ≡ None
      → place_text frame i (drop i slots) a ≡ place_text frame (i + 1) rest a
  place_later is =
      ap (λ (some : List Slot). place_text frame i some a) left
      ∙ ap (λ (d : Option ℕ). place_in_text i slot.param d (place_text frame (i + 1) rest a)) is
