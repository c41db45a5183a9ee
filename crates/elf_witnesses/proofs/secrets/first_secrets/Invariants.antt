-- The secrets so far are set, and the others are drawn from the numbers that are left.
use Rattle.std.proofs.Common.{◌≡◌, ◌++◌, drop, map, take}
use Rattle.elf_witnesses.specs.Drawn.{first_secrets, numbers_of, size_in}
use Rattle.elf_witnesses.specs.Witnessed.{set_bytes, SetEachSecret}
use Rattle.elf_witnesses.proofs.secrets.first_secrets.Given as goal

abbrev pub invariant-secrets : goal.invariant-secrets
invariant-secrets l =
    let rest = first_secrets l.attempt (map (size_in l.program) (drop l.secret-index l.secrets)) (numbers_of l.random) in
    record {
      each : SetEachSecret l.program (take l.secret-index l.secrets) l.settings.items;
      drawn : first_secrets l.attempt (map (size_in l.program) l.secrets) (numbers_of l.fn.random)
          ≡ (map set_bytes l.settings.items ++ rest.0, rest.1);
    }
