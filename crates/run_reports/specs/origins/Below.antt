-- What these definitions take from the specs of the crates below, besides what this crate does.
pub use Rattle.rv_code.specs.declared.instructions.Instr.{Instr}
pub use Rattle.rv_machine.specs.Effects.{address_of}
pub use Rattle.rv_machine.specs.Harts.{pc_of}
pub use Rattle.rv_programs.specs.Programs.{StandsAt}
pub use Rattle.certified_runs.specs.Certified.{depends, ends, KnownEnding, KnownStep, leads_on}
pub use Rattle.certified_runs.specs.Known.{unknown}
pub use Rattle.certified_runs.specs.Parts.{register_masks}
pub use Rattle.certified_runs.specs.declared.shifts.Shifts.{Shifts}
