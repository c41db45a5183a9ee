-- The instruction that stands there decides, and the machine's step is the step of what is known.
use Rattle.std.proofs.Common.{List, length, refl, sym, ap, ◌∙◌}
use Rattle.certified_runs.specs.Below.{entries_of, Observation, pc_of, state_of}
use Rattle.certified_runs.specs.Certified.{undecided, stopped}
use Rattle.certified_runs.specs.Parts.{known_of}
use Rattle.certified_runs.proofs.KnownSteps.{extent_kept, has_led, has_stopped, led_stores, none_fetched}
use Rattle.certified_runs.proofs.steps.known_step.Goals as goal

pub halt-entries-requires : goal.halt-entries-requires
halt-entries-requires g c =
    none_fetched (g.P.Program.program c.args.program.now) (pc_of c.args.hart.now) c.fetch.result
    (rw c.pc.ensures at c.fetch.ensures) c.in_default.not-Instruction

pub returns-in_default-clause-stepped : goal.returns-in_default-clause-stepped
returns-in_default-clause-stepped g c =
    let none = none_fetched (g.P.Program.program c.args.program.now) (pc_of c.args.hart.now) c.fetch.result
    (rw c.pc.ensures at c.fetch.ensures) c.in_default.not-Instruction in
    let stops = c.halt-entries.ensures.stops in
    (stops.0, stopped (λ i at. absurd (none i at)) stops.1, stops.2, c.halt-entries.ensures.stays)

pub returns-then-not-decides-clause-stepped : goal.returns-then-not-decides-clause-stepped
returns-then-not-decides-clause-stepped g c =
    let there = rw c.pc.ensures at c.in-Instruction.ensures in
    let bytes = g.M.Memory.bytes c.args.memory.now in
    let unknown = rw there.profile at (sym (c.decides.ensures bytes) ∙ c.if-not-decides.true) in
    (undecided c.in-Instruction.instr.now (c.in-Instruction.form.length, there.stands) unknown, refl)

pub returns-in-Some-clause-stepped : goal.returns-in-Some-clause-stepped
returns-in-Some-clause-stepped g c =
    let bytes = g.M.Memory.bytes c.args.memory.now in
    let s = state_of c.args.hart.now bytes in
    let k = known_of s c.args.known.now.registers (g.M.Memory.bytes c.args.known.now.marks) c.args.known.now.shifts in
    let there = rw c.pc.ensures at c.in-Instruction.ensures in
    let sure = rw there.profile at (sym (c.decides.ensures bytes) ∙ c.if-not-decides.false) in
    let step = rw c.in-Some.is at c.execute_unrecorded-stop.ensures.step in
    let calm = rw c.in-Some.is at c.execute_unrecorded-stop.ensures.calm in
    let many = ap (λ (shown : List Observation). length (entries_of shown)) (sym step.2.2)
    ∙ sym c.entry_count-entries.ensures in
    let after = state_of c.execute_unrecorded-stop.new.hart (g.M.Memory.bytes c.execute_unrecorded-stop.new.memory) in
    let next = known_of after c.change.new.known.registers (g.M.Memory.bytes c.change.new.known.marks)
    c.change.new.known.shifts in
    has_stopped (g.P.Program.program c.args.program.now) k c.in-Instruction.instr.now
    (c.in-Instruction.form.length, there.stands) sure next step.1 step.2.1 calm many refl

pub returns-in-None-clause-stepped : goal.returns-in-None-clause-stepped
returns-in-None-clause-stepped g c =
    let bytes = g.M.Memory.bytes c.args.memory.now in
    let marks = g.M.Memory.bytes c.args.known.now.marks in
    let s = state_of c.args.hart.now bytes in
    let k = known_of s c.args.known.now.registers marks c.args.known.now.shifts in
    let program = g.P.Program.program c.args.program.now in
    let there = rw c.pc.ensures at c.in-Instruction.ensures in
    let sure = rw there.profile at (sym (c.decides.ensures bytes) ∙ c.if-not-decides.false) in
    let step = rw c.in-None.is at c.execute_unrecorded-stop.ensures.step in
    let many = ap (λ (shown : List Observation). length (entries_of shown)) (sym step.2.2)
    ∙ sym c.entry_count-entries.ensures in
    let stores = led_stores program k c.in-Instruction.instr.now (c.in-Instruction.form.length, there.stands) sure marks
    c.requires step.1 step.2.1 in
    has_led program k c.in-Instruction.instr.now (c.in-Instruction.form.length, there.stands) sure step.1 step.2.1
    (c.change.ensures.registers bytes) (c.change.ensures.bytes bytes stores) c.change.ensures.shifts many

pub returns-in-None-clause-extent : goal.returns-in-None-clause-extent
returns-in-None-clause-extent g c = λ a.
    let step = c.execute_unrecorded-stop.ensures.step in
    c.change.ensures.extent a ∙ c.requires a ∙ sym (extent_kept step.1 step.2.1 a)

pub returns-in-Some-clause-extent : goal.returns-in-Some-clause-extent
returns-in-Some-clause-extent g c = λ a.
    let step = c.execute_unrecorded-stop.ensures.step in
    c.change.ensures.extent a ∙ c.requires a ∙ sym (extent_kept step.1 step.2.1 a)
