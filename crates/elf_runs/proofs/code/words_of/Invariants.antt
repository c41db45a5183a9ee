use Rattle.std.proofs.Common.{◌≡◌, ◌*◌, ◌++◌, drop}
use Rattle.elf_runs.specs.Code.{words_of}
use Rattle.elf_runs.proofs.code.words_of.Given as goal

abbrev pub invariant-words : goal.invariant-words
invariant-words l = words_of l.bytes ≡ l.words.items ++ words_of (drop (4 * l.k) l.bytes)
