-- What is known of the parts of a run: a mask for each register, and the marks of a second memory for the bytes.
use Rattle.std.specs.Prelude.{ℕ, List, slice_index_or}
use Rattle.certified_runs.specs.Below.{ByteMap, State}
use Rattle.certified_runs.specs.Known.{KnownState}
use Rattle.certified_runs.specs.declared.shifts.Shifts.{Shifts}

-- the unknown bits of a register, of masks one after another
abbrev pub register_masks : List ℕ → ℕ → ℕ
register_masks masks r = slice_index_or masks r 0

-- none of any register
abbrev pub no_masks : ℕ → ℕ
no_masks r = 0

-- a state of which the bits of these masks and marks are unknown, where amounts of shifts are seen or not
abbrev pub known_of : State → List ℕ → ByteMap → Shifts → KnownState
known_of s masks marks shifts = record {
  state = s;
  registers = register_masks masks;
  bytes = marks;
  shifts = shifts;
}
