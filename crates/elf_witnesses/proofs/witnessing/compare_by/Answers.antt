-- The runs are those of the request with the one secrets, and with the others.
use Rattle.elf_witnesses.proofs.Found.{runs_so}
use Rattle.elf_witnesses.proofs.MoreSet.{met_same, sets_after}
use Rattle.elf_witnesses.proofs.witnessing.compare_by.Goals as goal

pub load_besides-requires-2-clause-met : goal.load_besides-requires-2-clause-met
load_besides-requires-2-clause-met c =
    met_same c.args.program.now c.args.asked.now c.load_besides.new.asked c.in_ok-first.ensures.asked c.requires.met

pub returns-clause-compared : goal.returns-clause-compared
returns-clause-compared c =
    let first = c.in_ok-first.ensures.loaded in
    let second = c.in_ok-second.ensures.loaded in
    let compared = c.compare.ensures in
    record {
      one = first.0;
      other = second.0;
      seen = compared.0;
      seen' = compared.1;
      runs = runs_so first.2 c.requires.each first.1 compared.2;
      runs' = runs_so second.2 c.requires.each_other (sets_after c.in_ok-first.ensures.asked second.1) compared.3;
      compares = compared.4;
    }
