-- Statements whose variables and control values are there, and whose temporaries lie in the frame.
use Rattle.std.specs.Prelude.{ℕ, ◌+◌, ◌*◌, ◌<◌, ◌≤◌, List, [], ◌∷◌, length}
use Rattle.codegen.specs.Below.{array, branch, first, height_of, IsAmong as IsControl, nothing, put}
use Rattle.codegen.specs.Below.{repeats, set, StraightBlock, StraightTree, take, TermTree}
use Rattle.expression_code.specs.Allocation.{slots_to}
use Rattle.expression_code.specs.Layout.{Frame, variable_offset, temporaries_offset}
use Rattle.expression_code.specs.TermCode.{IsAmong}

-- in a layout, an expression over its variables into a place
abbrev pub IsPlaced : Frame → ℕ → TermTree → Type 0
IsPlaced layout place e = IsAmong (length layout.declared) e
    × (temporaries_offset layout + 4 * slots_to layout.allocation.count (height_of e + place) ≤ 65536)

abbrev pub ArePlacedTerms : Frame → List TermTree → Type 0
ArePlacedTerms layout [] = Unit {0}
ArePlacedTerms layout (e ∷ es) = IsPlaced layout 0 e × ArePlacedTerms layout es

module _ (layout : Frame) where
  abbrev mutual
    -- a statement that so many loops are around
    pub HasPlace : ℕ → StraightTree → Type 0
    HasPlace depth (set within x value) =
        IsControl layout.controls within × (x < length layout.declared) × IsPlaced layout 0 value
    HasPlace depth (array x size values) =
        (x < length layout.declared) × (size ≤ 65536) × ArePlacedTerms layout values
        × (variable_offset layout.declared x + 4 * length values ≤ 262144)
    HasPlace depth (put within place x size index value) =
        IsControl layout.controls within × (x < length layout.declared) × IsPlaced layout 0 index
        × IsPlaced layout 1 value
    HasPlace depth (take control within condition) =
        (control + 1 < layout.controls) × IsControl layout.controls within × IsPlaced layout 0 condition
    HasPlace depth (branch condition accepted otherwise) =
        IsPlaced layout 0 condition × HavePlaces depth accepted × HavePlaces depth otherwise
    HasPlace depth (repeats x low high body) =
        (x < length layout.declared) × (depth < layout.depths) × IsPlaced layout 0 low × IsPlaced layout 0 high
        × HavePlaces (depth + 1) body

    pub HavePlaces : ℕ → StraightBlock → Type 0
    HavePlaces depth nothing = Unit {0}
    HavePlaces depth (first statement rest) = HasPlace depth statement × HavePlaces depth rest
