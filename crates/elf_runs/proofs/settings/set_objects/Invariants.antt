use Rattle.std.proofs.Common.{◌≡◌, drop, map}
use Rattle.std.specs.List.{fold}
use Rattle.elf_memory.specs.Memory.{range_of, set_in}
use Rattle.elf_runs.specs.Needs.{each_from, first_unmet, setting_needs}
use Rattle.elf_runs.proofs.settings.set_objects.Given as goal

abbrev pub invariant-settings : goal.invariant-settings
invariant-settings l =
    record {
      met :
          first_unmet (each_from (setting_needs l.program) 0 l.settings)
          ≡ first_unmet (each_from (setting_needs l.program) l.k (drop l.k l.settings));
      set :
          fold (set_in l.program) (map range_of l.fn.ranges.items) l.settings
          ≡ fold (set_in l.program) (map range_of l.ranges.items) (drop l.k l.settings);
    }
