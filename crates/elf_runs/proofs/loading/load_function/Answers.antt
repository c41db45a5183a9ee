use Rattle.std.specs.Prelude.{is_some}
use Rattle.std.proofs.Common.{◌≡◌, ◌∙◌, List, ap, length, map, rules, sym}
use Rattle.elf_runs.specs.Below.{ByteMap, paged_bytes, pc_of, regs_of, state_of}
use Rattle.elf_memory.specs.declared.memory_range.MemoryRange.{MemoryRange}
use Rattle.elf_memory.specs.Memory.{range_of, RangeState}
use Rattle.elf_memory.specs.Ranges.{item_at}
use Rattle.elf_runs.specs.private.Loaded.{program_over}
use Rattle.elf_runs.proofs.Beginning.{known_is, masks_read, registers_read, state_is}
use Rattle.elf_memory.proofs.Ranges.{marks_there}
use Rattle.elf_runs.proofs.loading.load_function.Goals as goal

pub returns-clause-program : goal.returns-clause-program
returns-clause-program c =
    c.in_ok-program.ensures
    ∙ ap (λ (ranges : List MemoryRange). program_over c.args.program.now (map range_of ranges) c.args.options.profile)
    c.as_slice-ranges.ensures.value
    ∙ ap (λ (ranges : List RangeState). program_over c.args.program.now ranges c.args.options.profile)
    c.in_ok-start.ensures.memory

pub returns-clause-known : goal.returns-clause-known
returns-clause-known c =
    let program = c.args.program.now in
    let asked = c.args.asked.now in
    let start = c.in_ok-start.start in
    let bytes = λ (range : RangeState). range.bytes in
    let unknown = λ (range : RangeState). range.unknown in
    let memory =
    c.in_ok-memory_of.ensures
    ∙ ap (λ (ranges : List MemoryRange). item_at bytes (map range_of ranges)) c.as_slice-ranges.ensures.value
    ∙ ap (λ (ranges : List RangeState). item_at bytes ranges) c.in_ok-start.ensures.memory in
    let marks =
    c.in_ok-marks_of.ensures
    ∙ ap (λ (ranges : List MemoryRange). item_at unknown (map range_of ranges)) c.as_slice-ranges.ensures.value
    ∙ ap (λ (ranges : List RangeState). item_at unknown ranges) c.in_ok-start.ensures.memory in
    let count : length start.registers ≡ 32 = search rules in
    let many : length start.unknown ≡ 32 = search rules in
    let registers = c.with_registers.ensures.registers
    ∙ registers_read program asked start.registers count c.in_ok-start.ensures.registers in
    known_is program asked c.args.options.shifts (state_of c.with_registers.result (paged_bytes c.in_ok-memory_of.field-0))
    start.unknown (paged_bytes c.in_ok-marks_of.field-0)
    (state_is program asked (pc_of c.with_registers.result) (regs_of c.with_registers.result)
    (paged_bytes c.in_ok-memory_of.field-0) (rw c.with_registers.ensures.pc c.in_ok-start.ensures.pc) registers memory)
    (masks_read program asked c.args.options.shifts start.unknown many c.in_ok-start.ensures.unknown) marks

pub returns-clause-extent : goal.returns-clause-extent
returns-clause-extent c = λ a.
    ap (λ (m : ByteMap). is_some (m a)) c.in_ok-marks_of.ensures
    ∙ marks_there c.as_slice-ranges.result.now a
    ∙ ap (λ (m : ByteMap). is_some (m a)) (sym c.in_ok-memory_of.ensures)
