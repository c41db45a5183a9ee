-- What is taken from the crates below.
pub use Rattle.word.specs.declared.profile.Profile.{Profile}
pub use Rattle.rv_machine.specs.Entries.{entries_of, IsFirstDifference}
pub use Rattle.rv_machine.specs.Harts.{state_of}
pub use Rattle.rv_machine.specs.Leakage.{Done, followed_by, refused, stopped, went_on}
pub use Rattle.rv_machine.specs.Machine.{State, StepEnding}
pub use Rattle.rv_machine.specs.Paged.{paged_bytes}
pub use Rattle.rv_machine.specs.declared.observation.Observation.{Observation}
pub use Rattle.rv_machine.specs.declared.stops.Stop.{Stop}
pub use Rattle.rv_machine.specs.declared.stops.Stop.TheVariants.{Budget, RecorderRefused}
pub use Rattle.rv_programs.specs.Loaded.{program_of}
pub use Rattle.rv_programs.specs.Programs.{MachineProgram, ProgramStep}
pub use Rattle.rv_programs.specs.Runs.{cut_short, halted, halts, ProgramRuns, spent, stays}
pub use Rattle.certified_runs.specs.Known.{KnownState}
pub use Rattle.elf.specs.Lookup.{object_named}
pub use Rattle.elf.specs.Reading.{Executable}
pub use Rattle.elf.specs.Segments.{LoadedSegment}
pub use Rattle.elf.specs.declared.symbol.Object.{Object}
