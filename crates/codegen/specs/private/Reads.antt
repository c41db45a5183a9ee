-- Which control values are read: code keeps no others.
use Rattle.std.specs.Prelude.{◌≡◌, ℕ, ◌==◌, false, Bool, List, map, Option, None, Some, slice_get, unwrap_or}
use Rattle.codegen.specs.Below.{array, branch, first, nothing, put, repeats, set, StraightBlock, StraightProgram}
use Rattle.codegen.specs.Below.{StraightTree, take}
use Rattle.codegen.specs.private.Uses.{control_weights_of}

-- whether nothing reads each control value of a program, by its number: no place that reads it counts
abbrev pub unread_of : StraightProgram → List Bool
unread_of p = map (λ weight. weight == 0) (control_weights_of p)

-- an enclosing control value, where there is one, is not among those that nothing reads
abbrev pub IsKeptWithin : List Bool → Option ℕ → Type 0
IsKeptWithin unread None = Unit {0}
IsKeptWithin unread (Some control) = unwrap_or (slice_get unread control) false ≡ false

abbrev mutual
  -- nor is any that a statement reads
  pub ReadsKept : List Bool → StraightTree → Type 0
  ReadsKept unread (set within x value) = IsKeptWithin unread within
  ReadsKept unread (array x size values) = Unit {0}
  ReadsKept unread (put within place x size index value) = IsKeptWithin unread within
  ReadsKept unread (take control within condition) = IsKeptWithin unread within
  ReadsKept unread (branch condition accepted otherwise) = AllReadKept unread accepted × AllReadKept unread otherwise
  ReadsKept unread (repeats x low high body) = AllReadKept unread body

  pub AllReadKept : List Bool → StraightBlock → Type 0
  AllReadKept unread nothing = Unit {0}
  AllReadKept unread (first statement rest) = ReadsKept unread statement × AllReadKept unread rest
