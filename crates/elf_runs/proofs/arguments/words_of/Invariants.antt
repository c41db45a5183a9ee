use Rattle.std.proofs.Common.{◌≡◌, drop, map, take}
use Rattle.elf_memory.specs.Arguments.{word_of}
use Rattle.elf_runs.specs.Needs.{argument_needs, each_from, first_unmet}
use Rattle.elf_runs.proofs.arguments.words_of.Given as goal

abbrev pub invariant-arguments : goal.invariant-arguments
invariant-arguments l =
    record {
      met :
          first_unmet (each_from (argument_needs l.program) 0 l.arguments)
          ≡ first_unmet (each_from (argument_needs l.program) l.k (drop l.k l.arguments));
      words : l.words.items ≡ map (word_of l.program) (take l.k l.arguments);
    }
