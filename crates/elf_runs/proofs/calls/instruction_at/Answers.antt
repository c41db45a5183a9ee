use Rattle.elf_runs.proofs.Calling.{nothing_stands}
use Rattle.elf_runs.proofs.calls.instruction_at.Goals as goal

pub returns-in-Misaligned : goal.returns-in-Misaligned
returns-in-Misaligned g c =
    let program = g.P.Program.program c.args.program.now in
    record { there = tt; none = λ none. nothing_stands program c.args.pc _ c.fetch.ensures c.in-Misaligned.is }
