-- What is taken from the crates below.
pub use Rattle.word.specs.declared.profile.Profile.{Profile}
pub use Rattle.rv_code.specs.declared.instructions.Instr.{Instr}
pub use Rattle.rv_code.specs.declared.instructions.Instr.TheVariants.{Jump, JumpRegister}
pub use Rattle.rv_machine.specs.Bytes.{ByteMap}
pub use Rattle.rv_machine.specs.Entries.{entries_of, Entry, program_counter}
pub use Rattle.rv_machine.specs.Harts.{pc_of, regs_of, state_of}
pub use Rattle.rv_machine.specs.Leakage.{followed_by}
pub use Rattle.rv_machine.specs.Machine.{goes_on, State, StepEnding, stops}
pub use Rattle.rv_machine.specs.Paged.{lies_in, paged_bytes}
pub use Rattle.rv_machine.specs.Registers.{register}
pub use Rattle.rv_machine.specs.Stops.{stop_name as machine_stop_name}
pub use Rattle.rv_machine.specs.declared.memory.Size.{Size}
pub use Rattle.rv_machine.specs.declared.observation.Observation.{Observation}
pub use Rattle.rv_machine.specs.declared.paged.AddressRange.{AddressRange}
pub use Rattle.rv_machine.specs.declared.stops.Stop.{Stop}
pub use Rattle.rv_machine.specs.declared.stops.Stop.TheVariants.{AccessFault, Budget, RecorderRefused}
pub use Rattle.rv_programs.specs.Code.{HasNoCode, ProgramCode, StandsIn}
pub use Rattle.rv_programs.specs.Loaded.{code_in, loaded_code, no_code, program_of}
pub use Rattle.rv_programs.specs.Programs.{MachineProgram, ProgramStep, StandsAt}
pub use Rattle.rv_programs.specs.Runs.{HasReturned, ProgramHalts, ProgramLeads, ProgramRuns}
pub use Rattle.rv_programs.specs.declared.loaded.CodeSegment.{CodeSegment}
pub use Rattle.certified_runs.specs.Amounts.{ShiftsBy}
pub use Rattle.certified_runs.specs.Certified.{CertifiedRun, RunEnding}
pub use Rattle.certified_runs.specs.End.{ComesTo, end_of}
pub use Rattle.certified_runs.specs.Known.{Covers, KnownState}
pub use Rattle.certified_runs.specs.Parts.{known_of, register_masks}
pub use Rattle.certified_runs.specs.declared.certifying.CertifiedEnd.{CertifiedEnd}
pub use Rattle.certified_runs.specs.declared.shifts.Shifts.{Shifts}
pub use Rattle.elf.specs.Layout.{AreApart, IsWithin}
pub use Rattle.elf.specs.Lookup.{address_named, function_named}
pub use Rattle.elf.specs.Reading.{Executable}
pub use Rattle.elf.specs.Segments.{LoadedSegment, memory_of, most_memory}
pub use Rattle.elf.specs.declared.fault.ElfRule.{ElfRule}
