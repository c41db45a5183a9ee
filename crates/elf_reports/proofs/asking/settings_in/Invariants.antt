use Rattle.std.proofs.Common.{◌≡◌, drop, map, Some, take}
use Rattle.elf_reports.specs.Asking.{asked_setting, setting_in, setting_spelled, settings_spelled, texts}
use Rattle.elf_reports.specs.Below.{each_from, first_unmet}
use Rattle.elf_reports.proofs.asking.settings_in.Given as goal

abbrev pub invariant-each : goal.invariant-each
invariant-each l =
    record {
      met :
          first_unmet (settings_spelled (texts l.words))
          ≡ first_unmet (each_from setting_spelled l.k (texts (drop l.k l.words)));
      asked :
          map (λ one. Some (asked_setting one)) l.settings.items ≡ map setting_in (texts (take l.k l.words));
    }
