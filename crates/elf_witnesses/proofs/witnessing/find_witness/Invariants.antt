-- The request stays as it is, and what the tries that are left find first is what all find first.
use Rattle.std.proofs.Common.{◌-◌, [], map, Option}
use Rattle.elf_witnesses.specs.Drawn.{numbers_of, size_in, tries_from, tries_of}
use Rattle.elf_witnesses.specs.Witnessed.{FoundFirst, SetsBesides}
use Rattle.elf_witnesses.specs.declared.witnessing.Witness.{Witness}
use Rattle.elf_witnesses.proofs.witnessing.find_witness.Given as goal

abbrev pub invariant-tries : goal.invariant-tries
invariant-tries l =
    let asked = l.fn.asked in
    let sizes = map (size_in l.program) asked.secrets.items in
    let left = tries_from l.attempt (l.tries - l.attempt) sizes (numbers_of l.random) in
    record {
      same : SetsBesides asked [] l.asked;
      first : (found : Option Witness) → FoundFirst l.program asked l.options left found
          → FoundFirst l.program asked l.options (tries_of l.program asked l.tries) found;
    }
