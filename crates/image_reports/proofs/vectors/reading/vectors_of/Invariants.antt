use Rattle.std.proofs.Common.{◌≡◌, map}
use Rattle.image_reports.specs.vectors.Lines.{vectors_from}
use Rattle.image_reports.specs.vectors.Views.{named}
use Rattle.image_reports.proofs.vectors_lemmas.ReadLemmas.{behind, left}
use Rattle.image_reports.proofs.vectors.reading.vectors_of.Given as goal

-- the vectors so far, and those of the lines that are left, are all
abbrev pub invariant-loop-index : goal.invariant-loop-index
invariant-loop-index l = vectors_from 1 (map (λ line. line.now) l.lines)
    ≡ behind (map named l.vectors.items) (left (λ line. line.now) l.lines l.index)
