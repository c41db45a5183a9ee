use Rattle.commands.specs.FunctionWitnesses.{found, none_found}
use Rattle.commands.proofs.elf_witnessing.text_of.Goals as goal

pub returns-in_ok-witness_text-in-Some-clause-says : goal.returns-in_ok-witness_text-in-Some-clause-says
returns-in_ok-witness_text-in-Some-clause-says c =
    found c.in-Some.witness (rw c.in-Some.is at c.in_ok-witness.ensures.witness)
    c.in_ok-witness_text-in-Some.ensures

pub returns-in_ok-none_text-in-None-clause-says : goal.returns-in_ok-none_text-in-None-clause-says
returns-in_ok-none_text-in-None-clause-says c =
    rw c.in_ok-none_text-in-None.ensures (none_found c.in_ok-witness.ensures.met)
