use Rattle.std.proofs.Common.{◌≡◌, Bool, drop, map}
use Rattle.elf_reports.specs.Below.{alignment_by, code_among, P1, placed}
use Rattle.elf_reports.proofs.encodings.encoding_among.Given as goal

-- what is left has the same code there as all
abbrev pub invariant-each : goal.invariant-each
invariant-each l =
    (compressed : Bool)
    → code_among (alignment_by compressed) P1 (map placed (drop l.code-index l.codes)) l.address
    ≡ code_among (alignment_by compressed) P1 (map placed l.codes) l.address
