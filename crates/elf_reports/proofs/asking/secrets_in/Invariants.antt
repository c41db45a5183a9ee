use Rattle.std.proofs.Common.{◌≡◌, map, take}
use Rattle.elf_reports.specs.Asking.{texts}
use Rattle.elf_reports.proofs.asking.secrets_in.Given as goal

abbrev pub invariant-each : goal.invariant-each
invariant-each l = map (λ one. one.object.items) l.secrets.items ≡ texts (take l.word-index l.words)
