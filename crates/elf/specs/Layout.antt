-- Segments that lie apart.
use Rattle.std.specs.Prelude.{◌≡◌, ◌+◌, ◌≤◌, ◌^◌, true, List, [], ◌∷◌, ◌++◌, length}
use Rattle.std.specs.List.{list_all}
use Rattle.elf.specs.Segments.{LoadedSegment, lies_apart}

-- a segment ends at 2 ^ 32 or before, and has no more bytes in the file than in memory
abbrev pub IsWithin : LoadedSegment → Type 0
IsWithin segment = (segment.address + segment.size ≤ 2 ^ 32) × (length segment.bytes ≤ segment.size)

-- each is, and has no address in common with one before it
abbrev pub AreApart : List LoadedSegment → List LoadedSegment → Type 0
AreApart before [] = Unit {0}
AreApart before (segment ∷ segments) =
    (list_all (lies_apart segment) before ≡ true)
    × IsWithin segment
    × AreApart (before ++ segment ∷ []) segments
