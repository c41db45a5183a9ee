-- The settings so far are of the same objects and sizes, and the others are drawn from the numbers that are left.
use Rattle.std.proofs.Common.{◌≡◌, ◌++◌, drop, map, take}
use Rattle.elf_witnesses.specs.Drawn.{numbers_of, other_secrets}
use Rattle.elf_witnesses.specs.Witnessed.{set_bytes, set_size}
use Rattle.elf_witnesses.proofs.secrets.other_secrets.Given as goal

abbrev pub invariant-firsts : goal.invariant-firsts
invariant-firsts l =
    let rest = other_secrets l.attempt (map set_bytes (drop l.first-index l.firsts)) (numbers_of l.random) in
    record {
      each : map set_size l.settings.items ≡ map set_size (take l.first-index l.firsts);
      drawn : other_secrets l.attempt (map set_bytes l.firsts) (numbers_of l.fn.random)
          ≡ (map set_bytes l.settings.items ++ rest.0, rest.1);
    }
