use Rattle.std.proofs.Common.{◌≡◌, ◌*◌, ◌++◌, drop}
use Rattle.elf_runs.specs.Code.{halfwords_of}
use Rattle.elf_runs.proofs.code.halfwords_of.Given as goal

abbrev pub invariant-halfwords : goal.invariant-halfwords
invariant-halfwords l = halfwords_of l.bytes ≡ l.halfwords.items ++ halfwords_of (drop (2 * l.k) l.bytes)
