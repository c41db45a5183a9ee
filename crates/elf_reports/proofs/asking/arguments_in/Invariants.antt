use Rattle.std.proofs.Common.{◌≡◌, drop, map, Some, take}
use Rattle.elf_reports.specs.Asking.{asked_argument, argument_in, argument_spelled, arguments_spelled, texts}
use Rattle.elf_reports.specs.Below.{each_from, first_unmet}
use Rattle.elf_reports.proofs.asking.arguments_in.Given as goal

abbrev pub invariant-each : goal.invariant-each
invariant-each l =
    record {
      met :
          first_unmet (arguments_spelled (texts l.words))
          ≡ first_unmet (each_from argument_spelled l.k (texts (drop l.k l.words)));
      asked :
          map (λ one. Some (asked_argument one)) l.arguments.items ≡ map argument_in (texts (take l.k l.words));
    }
