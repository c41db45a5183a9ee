use Rattle.std.proofs.Common.{◌≡◌, drop, map}
use Rattle.std.specs.List.{fold}
use Rattle.elf_memory.specs.Memory.{hide_in, range_of}
use Rattle.elf_runs.specs.Needs.{each_from, first_unmet, secret_needs}
use Rattle.elf_runs.proofs.settings.hide_secrets.Given as goal

abbrev pub invariant-secrets : goal.invariant-secrets
invariant-secrets l =
    record {
      met :
          first_unmet (each_from (secret_needs l.program) 0 l.secrets)
          ≡ first_unmet (each_from (secret_needs l.program) l.k (drop l.k l.secrets));
      hidden :
          fold (hide_in l.program) (map range_of l.fn.ranges.items) l.secrets
          ≡ fold (hide_in l.program) (map range_of l.ranges.items) (drop l.k l.secrets);
    }
