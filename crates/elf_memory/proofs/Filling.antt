-- Lists that are filled or changed one item after another.
use Rattle.std.proofs.Common.{◌≡◌, ◌<◌, ◌+◌, ◌-◌, ◌++◌, ◌∙◌, [], ◌∷◌, ℕ, List, ap, arith, drop, length, map}
use Rattle.std.proofs.Common.{get_or, suc, zero, slice_index, slice_set, sym, take}
use Rattle.std.proofs.lemmas.Grind.{common_steps}
use Rattle.std.proofs.lemmas.List.{map-set}
use Rattle.std.proofs.Math.ListN.{get_or-map}
use Rattle.std.proofs.lemmas.List.Edits.{map_over_more}
use Rattle.elf_memory.specs.Below.{AreApart, IsWithin, LoadedSegment}
use Rattle.elf_memory.specs.Memory.{RangeState, range_of}
use Rattle.elf_memory.specs.declared.memory_range.MemoryRange.{MemoryRange}

pub below_more : (values : List ℕ) (f : ℕ → ℕ) (r v : ℕ) → r < length values
    → ((j : ℕ) → j < r → slice_index values j ≡ f j) → v ≡ f r
    → (j : ℕ) → j < r + 1 → slice_index (slice_set values r v) j ≡ f j
below_more values f r v lt below is j less = grind (arith, common_steps, below, is)

-- one range changed, and those before it
pub one_changed : (f : RangeState → RangeState) (old : List RangeState) (items : List MemoryRange) (k : ℕ)
    (x y : MemoryRange)
    → k < length old → map range_of items ≡ map f (take k old) ++ drop k old → x ≡ get_or items k x
    → range_of y ≡ f (range_of x)
    → map range_of (slice_set items k y) ≡ map f (take (k + 1) old) ++ drop (k + 1) old
one_changed f old items k x y lt before is changed =
    map-set range_of items k y
    ∙ ap (slice_set (map range_of items) k) changed
    ∙ map_over_more f old (map range_of items) k (range_of x) lt before
    (ap range_of is ∙ sym (get_or-map range_of items k x))

-- a segment of a program ends at 2 ^ 32 or before
pub within_at : (before segments : List LoadedSegment) (i : ℕ) (d : LoadedSegment) → AreApart before segments
    → i < length segments → IsWithin (get_or segments i d)
within_at before [] i d apart lt = absurd (omega (arith, lt))
within_at before (segment ∷ segments) zero d apart lt = apart.1
within_at before (segment ∷ segments) (suc i) d apart lt =
    within_at (before ++ segment ∷ []) segments i d apart.2 (omega (arith, lt))
