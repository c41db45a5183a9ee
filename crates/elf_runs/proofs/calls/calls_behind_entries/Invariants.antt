use Rattle.std.proofs.Common.{ℕ, List}
use Rattle.elf_runs.specs.Below.{state_of}
use Rattle.elf_runs.specs.Calls.{LeadThere}
use Rattle.elf_runs.proofs.Calling.{LeadOn}
use Rattle.elf_runs.proofs.calls.calls_behind_entries.Given as goal

-- what leads on from here leads there from the beginning
abbrev pub invariant-steps : goal.invariant-steps
invariant-steps g l =
    let program = g.P.Program.program l.program in
    (last : List ℕ) → LeadOn program (state_of l.hart (g.M.Memory.bytes l.memory)) l.calls.items l.left last
    → LeadThere program (state_of l.fn.hart (g.M.Memory.bytes l.fn.memory)) l.entries last

abbrev pub decreases-steps : goal.decreases-steps
decreases-steps g l = l.left
