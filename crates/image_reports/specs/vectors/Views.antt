-- Vectors as values.
use Rattle.std.specs.Prelude.{map}
use Rattle.image_reports.specs.vectors.Lines.{NamedVector}
use Rattle.image_reports.specs.declared.vectors.lines.Vector.{Vector}

-- what a vector says
abbrev pub named : Vector → NamedVector
named vector = record {
  name = vector.name.now;
  given = map (λ text. text.now) vector.given.items;
  wanted = map (λ text. text.now) vector.wanted.items;
}
