-- What this crate takes from the specs of the crates below, in one place.
pub use Rattle.word.specs.Counts.{one_more}
pub use Rattle.rv_machine.specs.Effects.{effect_of}
pub use Rattle.rv_machine.specs.Entries.{Compares, entries_of, Entry, event, events_of, IsFirstDifference}
pub use Rattle.rv_machine.specs.Entries.{program_counter}
pub use Rattle.rv_machine.specs.Harts.{regs_of, state_of}
pub use Rattle.rv_machine.specs.Leakage.{cut_short, followed_by, halted, halts, IsShown, Leads, RunsWithin, spent}
pub use Rattle.rv_machine.specs.Leakage.{stays, steps_on}
pub use Rattle.rv_machine.specs.Machine.{MachineCode, StepEnding, executes, goes_on, here, IsAt, no_instruction}
pub use Rattle.rv_machine.specs.Machine.{not_code, pc_misaligned, State, stops, Step, word_at}
pub use Rattle.rv_machine.specs.Progress.{advances, begins, finishes, further, MakesProgress, MakesAll, rests}
pub use Rattle.rv_machine.specs.Regions.{code_of}
pub use Rattle.rv_machine.specs.OneStep.{listed, OneStep}
pub use Rattle.rv_machine.specs.declared.observation.Event.{Event}
pub use Rattle.rv_machine.specs.declared.observation.Observation.{Observation}
pub use Rattle.rv_machine.specs.declared.stops.Stop.{Stop}
pub use Rattle.rv_machine.specs.declared.stops.Stop.TheVariants.{Budget, RecorderRefused}
pub use Rattle.rv_programs.specs.Programs.{MachineProgram}
pub use Rattle.certified_runs.specs.Certified.{CertifiedRun, cut, KnownLeads, leads, may_differ, RunEnding, same}
pub use Rattle.certified_runs.specs.End.{ComesTo, end_of, EndsSo}
pub use Rattle.certified_runs.specs.Known.{KnownState}
pub use Rattle.certified_runs.specs.Parts.{known_of}
pub use Rattle.certified_runs.specs.declared.certifying.CertifiedEnd.{CertifiedEnd}
pub use Rattle.certified_runs.specs.declared.certifying.CertifiedEnd.TheVariants.{MayDiffer, Same}
pub use Rattle.streams.specs.Puts.{collected, IsPut, IsPutInPart, IsPutWhole}
pub use Rattle.streams.specs.Streams.{Collected, GainsPart}
