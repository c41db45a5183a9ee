-- What is counted of procedures.
use Rattle.std.specs.Prelude.{◌≡◌, ℕ, List}
use Rattle.std.specs.Option.{option_map}
use Rattle.inline.specs.Below.{counted, Extent, Extents}

abbrev pub counted_extent : Extent → Extent
counted_extent e = record {
  parameters = e.parameters;
  nodes = counted e.nodes;
  words = counted e.words;
  bodies = counted e.bodies;
}

-- the counts of the same procedures
abbrev pub AreCountsOf : Extents → Extents → Type 0
AreCountsOf counts extents = (text : List ℕ) → counts text ≡ option_map counted_extent (extents text)
