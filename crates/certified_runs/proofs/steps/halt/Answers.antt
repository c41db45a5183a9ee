-- Where no instruction stands the machine's step stops.
use Rattle.std.proofs.Common.{sym}
use Rattle.certified_runs.specs.Below.{state_of}
use Rattle.certified_runs.proofs.KnownSteps.{extent_kept, never_led, state_kept, stopped_so}
use Rattle.certified_runs.proofs.steps.halt.Goals as goal

pub unreachable-requires : goal.unreachable-requires
unreachable-requires g c =
    let step = rw c.in-None.is at c.step_unrecorded-seen.ensures.step in
    never_led (g.P.Program.program c.args.program.now)
    (state_of c.args.hart.now (g.M.Memory.bytes c.args.memory.now)) c.requires step.1 step.2.1

pub returns-clause-stops : goal.returns-clause-stops
returns-clause-stops g c =
    let step = rw c.in-Some.is at c.step_unrecorded-seen.ensures.step in
    let calm = rw c.in-Some.is at c.step_unrecorded-seen.ensures.calm in
    (step.2.0, stopped_so step.1 step.2.1 calm, rw step.2.2 at (sym c.entries_in.ensures))

pub returns-clause-stays : goal.returns-clause-stays
returns-clause-stays g c =
    let step = rw c.in-Some.is at c.step_unrecorded-seen.ensures.step in
    state_kept step.2.1

pub returns-clause-extent : goal.returns-clause-extent
returns-clause-extent g c = λ a. let step = c.step_unrecorded-seen.ensures.step in extent_kept step.1 step.2.1 a
