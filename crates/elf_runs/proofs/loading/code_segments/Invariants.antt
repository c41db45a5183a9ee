use Rattle.std.proofs.Common.{◌≡◌, ℕ, drop, map}
use Rattle.elf_runs.specs.Below.{code_in, Size}
use Rattle.elf_runs.specs.Code.{placed}
use Rattle.elf_runs.specs.Loading.{code_among}
use Rattle.elf_runs.proofs.loading.code_segments.Given as goal

-- with what is left, the code is that of all
abbrev pub invariant-each : goal.invariant-each
invariant-each l =
    (alignment : Size) (a : ℕ)
    → code_in (code_among alignment l.profile (map placed (drop l.code-index l.codes)) a) l.segments.items a
    ≡ code_among alignment l.profile (map placed l.codes) a
