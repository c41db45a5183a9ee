use Rattle.elf_witnesses.proofs.Found.{calls_so}
use Rattle.elf_witnesses.proofs.witnessing.calls_by.Goals as goal

pub returns-clause-calls : goal.returns-clause-calls
returns-clause-calls c =
    let loaded = c.in_ok-loaded.ensures.loaded in
    (loaded.0, loaded.1, calls_so loaded.2 c.calls_behind_entries.ensures)
