-- Elements of arrays at indices that are known, whose accesses hold their offsets in the frame.
use Rattle.std.specs.Prelude.{ℕ, zero, suc, ◌+◌, ◌*◌, Bool, List, [], ◌∷◌, nat_lt, Option, None, Some, if◌then◌else◌}
use Rattle.expression_code.specs.Allocation.{Allocation}
use Rattle.expression_code.specs.Layout.{variable_offset}
use Rattle.expression_code.specs.NumberRows.{number_of}
use Rattle.expression_code.specs.Below.{element_bytes, FlatVariable, Kind, TermTree, Uint32}

-- what 12 bits hold as a number that is not negative
abbrev pub is_near : ℕ → Bool
is_near n = nat_lt n 2048

-- the kind of a variable, or of its elements
abbrev pub kind_at : List FlatVariable → ℕ → Kind
kind_at [] x = Uint32
kind_at (d ∷ ds) zero = d.word.kind
kind_at (d ∷ ds) (suc x) = kind_at ds x

-- the offset of an array's element at an index that is known, where its access holds that
abbrev pub near_offset : ℕ → Kind → Option ℕ → Option ℕ
near_offset base kind None = None
near_offset base kind (Some i) =
    let offset = base + element_bytes kind * i in
    if is_near offset then Some offset else None

-- the same of an index that is this expression, where numbers go into instructions
abbrev pub near_element : List FlatVariable → Allocation → ℕ → TermTree → Option ℕ
near_element declared allocation x index =
    if allocation.immediates then near_offset (variable_offset declared x) (kind_at declared x) (number_of index)
    else None
