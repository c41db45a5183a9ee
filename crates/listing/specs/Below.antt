-- What this crate takes from the specs of the crates below, in one place.
pub use Rattle.word.specs.Counts.{one_more}
pub use Rattle.rv_code.specs.Text.{text_of}
pub use Rattle.rv_machine.specs.Entries.{entries_of, Entry, event, program_counter}
pub use Rattle.rv_machine.specs.Harts.{state_of}
pub use Rattle.rv_machine.specs.Leakage.{Done, followed_by, refused, stopped, went_on}
pub use Rattle.rv_machine.specs.Machine.{MachineCode, State, StepEnding, word_at}
pub use Rattle.rv_machine.specs.OneStep.{listed}
pub use Rattle.rv_machine.specs.declared.observation.Observation.{Observation}
pub use Rattle.rv_machine.specs.declared.stops.Stop.{Stop}
pub use Rattle.rv_machine.specs.declared.stops.Stop.TheVariants.{Budget, Ecall, RecorderRefused}
pub use Rattle.rv_programs.specs.Programs.{image_program, MachineProgram, ProgramStep}
pub use Rattle.rv_programs.specs.Runs.{halted, halts, ProgramLeads, ProgramRuns, spent, stays, steps_on}
pub use Rattle.streams.specs.Streams.{GainsPart, Writes, WritesPart}
pub use Rattle.language.specs.Tree.{ProcedureTree, ProgramTree}
pub use Rattle.language.specs.declared.arguments.fault.ArgumentFault.{ArgumentFault}
pub use Rattle.language.specs.declared.values.Arg.{Arg}
pub use Rattle.codegen.specs.Loaded.{code_at, loaded_at, params_of, results_in}
pub use Rattle.expression_code.specs.image_fields.Fields.{Fields}
pub use Rattle.hepurita.specs.Bases.{code_base, frame_base}
pub use Rattle.hepurita.specs.Uncut.{ImageEnds, RunsFor, RunsUncut}
