use Rattle.std.proofs.Common.{ap, subst}
use Rattle.elf_runs.specs.Below.{KnownState, MachineProgram, program_of, State}
use Rattle.elf_runs.specs.Calls.{LeadThere}
use Rattle.elf_runs.specs.Loading.{state_at_start}
use Rattle.elf_runs.proofs.calls.calls_to.Goals as goal

pub returns-clause-calls : goal.returns-clause-calls
returns-clause-calls c =
    let loaded = c.in_ok-loaded.loaded in
    let calls = c.calls_behind_entries.result.items in
    subst (λ (p : MachineProgram). LeadThere p (state_at_start c.args.program.now c.args.asked.now) c.args.entries calls)
    c.in_ok-loaded.ensures.program
    (subst (λ (s : State). LeadThere (program_of loaded.program) s c.args.entries calls)
    (ap (λ (k : KnownState). k.state) c.in_ok-loaded.ensures.known) c.calls_behind_entries.ensures)
