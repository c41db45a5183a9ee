-- What this crate takes from the specs of the crates below, in one place.
unfoldable pub use Rattle.rv_code.specs.Words.{word_of}
pub use Rattle.rv_code.specs.declared.instructions.Instr.{Instr}
pub use Rattle.rv_code.specs.declared.instructions.Instr.TheVariants.{Branch, Immediate, Jump, JumpRegister, Register}
pub use Rattle.rv_code.specs.declared.instructions.Instr.TheVariants.{Upper}
pub use Rattle.rv_code.specs.declared.operations.BranchTest.TheVariants.{Beq, Bne}
pub use Rattle.rv_code.specs.declared.operations.ImmediateOperation.TheVariants.{Addi, Andi}
pub use Rattle.rv_code.specs.declared.operations.RegisterOperation.TheVariants.{Add, Or, Sub}
pub use Rattle.rv_machine.specs.Bytes.{ByteMap}
unfoldable pub use Rattle.rv_machine.specs.Bytes.{number_at}
pub use Rattle.rv_machine.specs.Machine.{MachineCode, goes_on, observed, State, Step}
unfoldable pub use Rattle.rv_machine.specs.Machine.{moved_to}
pub use Rattle.rv_machine.specs.declared.memory.Size.{Size}
pub use Rattle.rv_machine.specs.declared.memory.Size.TheVariants.{Byte, Half, Word}
pub use Rattle.rv_machine.specs.declared.observation.Event.{Event}
pub use Rattle.rv_machine.specs.declared.observation.Event.TheVariants.{Div, Load, Mul, Store}
pub use Rattle.rv_machine.specs.declared.observation.Observation.{Observation}
pub use Rattle.language.specs.Results.{Results}
pub use Rattle.language.specs.Size.{element_bytes}
pub use Rattle.language.specs.declared.signature.Form.{Form}
pub use Rattle.language.specs.declared.signature.Form.TheVariants.{FixedArray, MutableArray, SingleWord}
pub use Rattle.language.specs.declared.signature.Kind.{Kind}
pub use Rattle.language.specs.declared.signature.Kind.TheVariants.{Boolean, Uint16, Uint32, Uint8}
pub use Rattle.language.specs.declared.values.Arg.{Arg}
pub use Rattle.language.specs.declared.values.Arg.TheVariants.{Array}
pub use Rattle.codegen.specs.Anywhere.{body_words, BodyRun, IsBeside, IsPlaced, Stand}
pub use Rattle.codegen.specs.Loaded.{numbers_at, params_of, with_argument, with_numbers, word_in}
pub use Rattle.expression_code.specs.TermCode.{constant_code, cut_code, is_not_zero_code, load_by, load_code}
pub use Rattle.expression_code.specs.TermCode.{store_code}
pub use Rattle.expression_code.specs.image_fields.Fields.{AreSlots, Fields, is_length, IsImage, IsResultSlot}
pub use Rattle.expression_code.specs.image_fields.Fields.{result_end}
pub use Rattle.expression_code.specs.image_fields.Fields.{slot_bytes, slot_end, slots_end}
pub use Rattle.expression_code.specs.program_logic.Jumps.{over}
pub use Rattle.expression_code.specs.program_logic.StraightCode.{Contents}
pub use Rattle.expression_code.specs.program_logic.StraightCode.{state_at}
pub use Rattle.expression_code.specs.program_logic.MachineSteps.{LeadsWithin}
pub use Rattle.expression_code.specs.declared.image_fields.slot.ResultSlot.{ResultSlot}
pub use Rattle.expression_code.specs.declared.image_fields.slot.Slot.{Slot}
