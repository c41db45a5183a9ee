-- The run is made again, and comes to the step that may differ.
use Rattle.elf_reports.specs.Below.{known_of, origins_in, paged_bytes, program_of, register_masks, state_of}
use Rattle.elf_reports.proofs.Explanations.{explained, loads_stand, no_other_end}
use Rattle.elf_reports.proofs.explaining.explain_function.Goals as goal

pub unreachable-requires : goal.unreachable-requires
unreachable-requires c =
    let loaded = c.in_ok-loaded.loaded in
    let none = c.trace.ensures.none c.in_default.is in
    no_other_end c.args.program.now c.args.asked.now c.args.options (program_of loaded.program) loaded.run.steps_left
    (known_of (state_of loaded.run.hart (paged_bytes loaded.run.memory)) loaded.known.registers
    (paged_bytes loaded.known.marks) loaded.known.shifts)
    c.in_ok-loaded.ensures.program c.in_ok-loaded.ensures.steps c.in_ok-loaded.ensures.known
    c.requires.differs.0 c.requires.differs.1 none.0 none.1 c.requires.differs.2 none.2

pub origin_lines-requires : goal.origin_lines-requires
origin_lines-requires c =
    let loaded = c.in_ok-loaded.loaded in
    let undecided = c.in-Some.undecided in
    loads_stand c.args.program.now c.args.asked.now c.args.options (program_of loaded.program) loaded.run.steps_left
    (known_of (state_of loaded.run.hart (paged_bytes loaded.run.memory)) loaded.known.registers
    (paged_bytes loaded.known.marks) loaded.known.shifts)
    c.in_ok-loaded.ensures.program c.in_ok-loaded.ensures.steps c.in_ok-loaded.ensures.known
    undecided.instr (register_masks undecided.masks) (origins_in undecided.origins.kept) c.in-Some.ensures.found

pub returns-clause-text : goal.returns-clause-text
returns-clause-text c =
    let loaded = c.in_ok-loaded.loaded in
    let undecided = c.in-Some.undecided in
    explained c.args.program.now c.args.asked.now c.args.options (program_of loaded.program) loaded.run.steps_left
    (known_of (state_of loaded.run.hart (paged_bytes loaded.run.memory)) loaded.known.registers
    (paged_bytes loaded.known.marks) loaded.known.shifts)
    c.in_ok-loaded.ensures.program c.in_ok-loaded.ensures.steps c.in_ok-loaded.ensures.known
    undecided.instr (register_masks undecided.masks) (origins_in undecided.origins.kept)
    c.in_ok-origin_lines.field-0.items c.in-Some.ensures.found c.in_ok-origin_lines.ensures
