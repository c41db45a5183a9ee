-- What this crate takes from the specs of the crates below, in one place.
pub use Rattle.word.specs.declared.profile.Profile.{Profile}
pub use Rattle.word.specs.declared.profile.Profile.TheVariants.{P1, P2}
pub use Rattle.rv_code.specs.Words.{IsInstr}
unfoldable pub use Rattle.rv_code.specs.Words.{word_of}
pub use Rattle.rv_code.specs.declared.instructions.Instr.{Instr}
pub use Rattle.rv_code.specs.declared.instructions.Instr.TheVariants.{Branch, Divide, Ebreak, Ecall, Fence, Immediate}
pub use Rattle.rv_code.specs.declared.instructions.Instr.TheVariants.{Jump, JumpRegister, Load, Multiply, Register}
pub use Rattle.rv_code.specs.declared.instructions.Instr.TheVariants.{Shift, Store, Upper}
pub use Rattle.rv_code.specs.declared.operations.StoreOperation.{StoreOperation}
pub use Rattle.rv_machine.specs.Bytes.{ByteMap, joined}
unfoldable pub use Rattle.rv_machine.specs.Bytes.{number_at, with_number}
pub use Rattle.rv_machine.specs.Effects.{address_of, branch_target, effect_of, holds, jump_target, load_size}
pub use Rattle.rv_machine.specs.Effects.{loaded_value, multiply_value, register_target, shift_value, sign_extended}
pub use Rattle.rv_machine.specs.Effects.{store_size}
pub use Rattle.rv_machine.specs.Entries.{entries_of, Entry, events_of, program_counter}
pub use Rattle.rv_machine.specs.Harts.{pc_of, regs_of, state_of}
pub use Rattle.rv_machine.specs.Leakage.{Done, followed_by, refused, stopped, went_on}
pub use Rattle.rv_machine.specs.Machine.{goes_on, here, loaded, next_after, observed, product_shown, State, StepEnding}
pub use Rattle.rv_machine.specs.Machine.{stops, stored}
unfoldable pub use Rattle.rv_machine.specs.Machine.{ending_by, moved_to, with_link_after, with_stored_after}
unfoldable pub use Rattle.rv_machine.specs.Machine.{with_value_after}
pub use Rattle.rv_machine.specs.Registers.{register}
pub use Rattle.rv_machine.specs.Sizes.{byte_count}
pub use Rattle.rv_machine.specs.declared.effects.Effect.TheVariants.{Branches, Passes, Stores}
pub use Rattle.rv_machine.specs.declared.observation.Observation.{Observation}
pub use Rattle.rv_machine.specs.declared.stops.Stop.{Stop}
pub use Rattle.rv_machine.specs.declared.stops.Stop.TheVariants.{AccessFault, Budget, RecorderRefused}
pub use Rattle.rv_machine.specs.declared.memory.Size.{Size}
pub use Rattle.rv_programs.specs.Code.{alignment_of, profile_of, ProgramCode, StandsIn}
pub use Rattle.rv_programs.specs.Programs.{allows_shown, CodeStep, ending_in, executes, guarded, MachineProgram}
pub use Rattle.rv_programs.specs.Programs.{no_instruction, not_code, pc_misaligned, ProgramStep, StandsAt}
pub use Rattle.rv_programs.specs.Runs.{halts, ProgramHalts, ProgramLeads, ProgramRuns, spent, stays, steps_on}
