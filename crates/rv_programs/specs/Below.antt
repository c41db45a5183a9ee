-- What this crate takes from the specs of the crates below, in one place.
pub use Rattle.word.specs.Counts.{one_more}
pub use Rattle.word.specs.declared.profile.Profile.{Profile}
pub use Rattle.rv_code.specs.Compressed.{BeginsWord, ExpandsTo}
pub use Rattle.rv_code.specs.Words.{IsInstr}
unfoldable pub use Rattle.rv_code.specs.Words.{word_of}
pub use Rattle.rv_code.specs.declared.instructions.Instr.{Instr}
pub use Rattle.rv_code.specs.declared.instructions.Instr.TheVariants.{Store as StoreInstr}
pub use Rattle.rv_code.specs.declared.operations.StoreOperation.{StoreOperation}
pub use Rattle.rv_machine.specs.Bytes.{ByteMap}
pub use Rattle.rv_machine.specs.Effects.{address_of, effect_of, store_size}
pub use Rattle.rv_machine.specs.Harts.{pc_of, regs_of, state_of}
pub use Rattle.rv_machine.specs.Leakage.{Carried, Done, followed_by, Halts, Leads, refused, RunsWithin, Shows, Stepped}
pub use Rattle.rv_machine.specs.Leakage.{stopped, went_on}
pub use Rattle.rv_machine.specs.Machine.{goes_on, here, IsAt, MachineCode, observed, State, Step, StepEnding, stops}
pub use Rattle.rv_machine.specs.Machine.{word_at}
unfoldable pub use Rattle.rv_machine.specs.Machine.{ending_by}
pub use Rattle.rv_machine.specs.Paged.{lies_in}
pub use Rattle.rv_machine.specs.Recording.{count_after, HasRefused, kept}
pub use Rattle.rv_machine.specs.Regions.{code_of}
pub use Rattle.rv_machine.specs.Sizes.{byte_count}
pub use Rattle.rv_machine.specs.declared.memory.Size.{Size}
pub use Rattle.rv_machine.specs.declared.memory.Size.TheVariants.{Byte, Half, Word}
pub use Rattle.rv_machine.specs.declared.plans.InstructionForm.{InstructionForm}
pub use Rattle.rv_machine.specs.declared.observation.Event.{Event}
pub use Rattle.rv_machine.specs.declared.observation.Event.TheVariants.{Store}
pub use Rattle.rv_machine.specs.declared.observation.Observation.{Observation}
pub use Rattle.rv_machine.specs.declared.paged.AddressRange.{AddressRange}
pub use Rattle.rv_machine.specs.declared.stops.Stop.{Stop}
pub use Rattle.rv_machine.specs.declared.stops.Stop.TheVariants.{AccessFault, Budget, Illegal, Misaligned}
pub use Rattle.rv_machine.specs.declared.stops.Stop.TheVariants.{RecorderRefused}
