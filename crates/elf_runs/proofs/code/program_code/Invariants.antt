use Rattle.std.proofs.Common.{◌≡◌, ◌++◌, drop, map}
use Rattle.elf_runs.specs.Code.{code_in, placed}
use Rattle.elf_runs.proofs.code.program_code.Given as goal

abbrev pub invariant-each : goal.invariant-each
invariant-each l =
    let compressed = l.fn.program.compressed in
    code_in compressed l.fn.program.segments
    ≡ map placed l.code.items ++ code_in compressed (drop l.segment-index l.fn.program.segments)
