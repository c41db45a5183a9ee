-- What this crate takes from the specs of the crates below, in one place.
pub use Rattle.word.specs.Counts.{one_more}
pub use Rattle.word.specs.declared.profile.Profile.{Profile}
pub use Rattle.word.specs.declared.profile.Profile.TheVariants.{P1}
pub use Rattle.rv_code.specs.declared.instructions.Instr.{Instr}
pub use Rattle.rv_machine.specs.Harts.{state_of}
pub use Rattle.rv_machine.specs.Machine.{State, word_at}
pub use Rattle.rv_machine.specs.Paged.{lies_in, paged_bytes}
pub use Rattle.rv_machine.specs.declared.observation.Observation.{Observation}
pub use Rattle.rv_machine.specs.declared.stops.Stop.{Stop}
pub use Rattle.rv_programs.specs.Code.{halfword_at, ProgramCode}
pub use Rattle.rv_programs.specs.Loaded.{program_of}
pub use Rattle.rv_programs.specs.Programs.{MachineProgram, StandsAt}
pub use Rattle.certified_runs.specs.Known.{KnownState}
pub use Rattle.certified_runs.specs.Parts.{known_of, register_masks}
pub use Rattle.streams.specs.Puts.{collected}
pub use Rattle.streams.specs.Streams.{GainsPart, Writes, WritesPart}
pub use Rattle.run_reports.specs.origins.Origins.{origin_if_unknown, origins_in}
pub use Rattle.run_reports.specs.origins.Traced.{ComesToDiffer}
pub use Rattle.run_reports.specs.progress.Certified.{GoesOnKnown}
pub use Rattle.run_reports.specs.progress.GoingOn.{HasLines, IsTold as LinesAreTold}
pub use Rattle.run_reports.specs.run_places.Reads.{registers_read, word_text}
pub use Rattle.run_reports.specs.declared.origins.registers.Origin.{Origin}
pub use Rattle.language.specs.arguments.Texts.{word_of}
pub use Rattle.elf.specs.Lookup.{function_at, object_at}
pub use Rattle.elf.specs.Reading.{Executable}
pub use Rattle.elf_memory.specs.Arguments.{stack_begin, stack_end}
pub use Rattle.elf_runs.specs.Certified.{CertifiedFunction}
pub use Rattle.elf_memory.specs.Stops.{function_stop, stop_name}
pub use Rattle.elf_runs.specs.Code.{halfwords_from, placed, words_from}
pub use Rattle.elf_runs.specs.Loading.{addresses_of, alignment_by, code_among, code_by, code_for, known_at_start}
pub use Rattle.elf_runs.specs.Loading.{machine_program, state_at_start}
pub use Rattle.elf_runs.specs.Needs.{each_from, first_unmet, IsTold, need, Need, needs}
pub use Rattle.elf_runs.specs.Promised.{RunsUncut}
pub use Rattle.elf_memory.specs.declared.asked.Argument.{Argument}
pub use Rattle.elf_memory.specs.declared.asked.Asked.{Asked}
pub use Rattle.elf_memory.specs.declared.asked.Setting.{Setting}
pub use Rattle.elf_runs.specs.declared.certifying.FunctionCertificate.TheVariants.{MayDiffer}
pub use Rattle.elf_runs.specs.declared.fault.Part.{Part}
pub use Rattle.elf_runs.specs.declared.fault.StartFault.{StartFault}
pub use Rattle.elf_runs.specs.declared.fault.Unmet.{Unmet}
pub use Rattle.elf_runs.specs.declared.options.RunOptions.{RunOptions}
pub use Rattle.elf_memory.specs.declared.stops.FunctionStop.{FunctionStop}
pub use Rattle.listing.specs.Below.{text_of}
pub use Rattle.listing.specs.Code.{IsLineOf}
pub use Rattle.listing.specs.Lines.{lines_of}
pub use Rattle.listing.specs.Listings.{AreLines}
