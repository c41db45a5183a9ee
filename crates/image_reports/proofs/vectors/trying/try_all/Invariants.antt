use Rattle.std.proofs.Common.{◌≡◌, ◌+◌, map, take}
use Rattle.std.specs.String.{string_bytes}
use Rattle.image_reports.specs.Below.{ProgramTree}
use Rattle.image_reports.specs.vectors.Verdicts.{IsImageOf, Tried}
use Rattle.image_reports.specs.vectors.Views.{named}
use Rattle.image_reports.proofs.vectors.trying.try_all.Given as goal

-- the vectors so far are tried
abbrev pub invariant-loop-vector : goal.invariant-loop-vector
invariant-loop-vector l = record {
  tried : (program : ProgramTree) → IsImageOf program l.image
      → Tried program l.image (map named (take l.vector-index l.vectors)) l.passes l.failures (string_bytes l.text);
  counted : l.passes + l.failures ≡ l.vector-index;
}
