-- What these proofs take from the layers below and from the specs, in one place.
pub use Rattle.codegen.proofs.Numbers.{zero_byte}
pub use Rattle.expression_code.proofs.Arithmetic.{far_address, lower_fits, near_address}
pub use Rattle.expression_code.proofs.Arithmetic.{upper_fits}
pub use Rattle.expression_code.proofs.Moves.{register-at, unwritten, written}
pub use Rattle.expression_code.proofs.OperatorCode.{constant_after, constant_plain}
pub use Rattle.expression_code.proofs.program_logic_lemmas.Computing.{after_append, only_computes}
pub use Rattle.expression_code.proofs.program_logic_lemmas.Computing.{plain_append, registers_after}
pub use Rattle.expression_code.proofs.program_logic_lemmas.Face.{after, after_all, are_straight, AreFit, AreMet}
pub use Rattle.expression_code.proofs.program_logic_lemmas.Face.{both_left}
pub use Rattle.expression_code.proofs.program_logic_lemmas.Face.{both_right, both_within, found}
pub use Rattle.expression_code.proofs.program_logic_lemmas.Face.{LeadsBy-append, number_or_zero}
pub use Rattle.expression_code.proofs.program_logic_lemmas.Face.{Placed, Placed-left, Placed-right}
pub use Rattle.expression_code.proofs.program_logic_lemmas.Face.{register_kept}
pub use Rattle.expression_code.proofs.program_logic_lemmas.Face.{with_result}
pub use Rattle.codegen.specs.Anywhere.{body_words, IsLoaded, Stand}
pub use Rattle.codegen.specs.Bases.{IsInside}
pub use Rattle.codegen.specs.Loaded.{array_in, arrays_in, numbers_at, params_of, results_in, with_argument}
pub use Rattle.codegen.specs.Loaded.{with_arguments, with_numbers, word_in}
pub use Rattle.expression_code.specs.declared.image_fields.slot.ResultSlot.{ResultSlot}
pub use Rattle.expression_code.specs.declared.image_fields.slot.Slot.{Slot}
pub use Rattle.expression_code.specs.TermCode.{constant_code, load_code, lower_part, store_code, upper_part}
pub use Rattle.expression_code.specs.image_fields.Fields.{Fields, IsImage}
pub use Rattle.expression_code.specs.program_logic.StraightCode.{IsFit, IsMet}
pub use Rattle.expression_code.specs.program_logic.MachineSteps.{LeadsWithin}
pub use Rattle.hepurita.proofs.DataLemmas.{bytes_within}
pub use Rattle.hepurita.proofs.ElementLemmas.{is_some-with_numbers, number_there, numbers_at-more}
pub use Rattle.hepurita.specs.Linked.{IsLinked, RunsLinked}
pub use Rattle.language.specs.Limits.{most_elements}
pub use Rattle.language.specs.Results.{Results}
pub use Rattle.language.specs.Size.{array_words, element_bytes}
pub use Rattle.language.specs.Tree.{ProcedureTree, ProgramTree}
pub use Rattle.language.specs.declared.signature.Form.{Form}
pub use Rattle.language.specs.declared.signature.Form.TheVariants.{FixedArray, MutableArray, SingleWord}
pub use Rattle.language.specs.declared.signature.Kind.{Kind}
pub use Rattle.language.specs.declared.signature.Kind.TheVariants.{Boolean, Uint16, Uint32, Uint8}
pub use Rattle.language.specs.declared.signature.Label.TheVariants.{Secret}
pub use Rattle.language.specs.declared.values.Arg.{Arg}
pub use Rattle.language.specs.declared.values.Arg.TheVariants.{Array}
pub use Rattle.linked_calls.specs.Called.{arrays_behind, IsLeft, IsOfCall, IsOnStack, kept_registers, ReadsAnArray}
pub use Rattle.linked_calls.specs.Called.{ReadsArray, with_array, with_arrays, WritesAnArray, WritesArray}
pub use Rattle.linked_calls.specs.Calls.{argument_of, arguments_end, arguments_from, arguments_of, IsBesides}
pub use Rattle.linked_calls.specs.Calls.{IsCalled, IsReadable, IsSite, LiesWell, LieWell, raw_argument, room_base}
pub use Rattle.linked_calls.specs.Calls.{CallSite}
pub use Rattle.linked_calls.specs.Cleared.{AreCleared, IsSilent, RegistersAreCleared}
pub use Rattle.linked_calls.specs.Convention.{argument_registers, saved_registers, scratch_registers, stack_register}
pub use Rattle.linked_calls.specs.Written.{is_written, written_of}
pub use Rattle.linked_calls.specs.Copies.{AreApart, ArrayIsHandedBack, ArrayIsTaken, CanBeCopied, elements_at}
pub use Rattle.linked_calls.specs.Copies.{HasArray, IsCopying, IsHandedBack, IsArrayTaken, OthersAsBefore, place_before}
pub use Rattle.linked_calls.specs.Copies.{place_behind}
pub use Rattle.linked_calls.specs.Passing.{passed_in, raw_in}
pub use Rattle.linked_calls.specs.Copies.{AreShort, CopiesAreShort, Pointed, slot_of}
pub use Rattle.linked_calls.specs.Does.{AreThere, at, Data, Does}
pub use Rattle.linked_calls.specs.FunctionCode.{above_code, above_frame, added, address_code, argument_code}
pub use Rattle.linked_calls.specs.FunctionCode.{argument_offset, argument_register, arguments_code, first_argument}
pub use Rattle.linked_calls.specs.FunctionCode.{needed_for, needed_from, needed_of, pointer_in_code, pointer_out_code}
pub use Rattle.linked_calls.specs.FunctionCode.{stacked_code, stacked_offset}
pub use Rattle.linked_calls.specs.FunctionCode.{array_bytes, kept_of}
pub use Rattle.linked_calls.specs.FunctionCode.{clear_registers_code, copied_code, copied_in_code, copied_out_code, elements_code}
pub use Rattle.linked_calls.specs.FunctionCode.{array_code, by_alignment_code, next_code, per_word, rounds_code}
pub use Rattle.linked_calls.specs.FunctionCode.{copy_out_code, down_code, enter_code, entry_code, frame_room}
pub use Rattle.linked_calls.specs.FunctionCode.{leave_code, loads_code, meant_code, restore_code}
unfoldable pub use Rattle.linked_calls.specs.FunctionCode.{function_words}
pub use Rattle.linked_calls.specs.FunctionCode.{result_code, results_code, room_of, stores_code, until_equal}
pub use Rattle.linked_calls.specs.FunctionCode.{up_code, wipe_code, zeros_code}
pub use Rattle.linked_calls.specs.Meant.{meant}
pub use Rattle.linked_calls.specs.Sections.{argument_sections, argument_steps, around_steps, array_section}
pub use Rattle.linked_calls.specs.Sections.{array_sections, array_steps, code_of}
pub use Rattle.linked_calls.specs.Sections.{blocks_steps, copied_steps, handed_steps, rounds_steps, taken_steps}
pub use Rattle.linked_calls.specs.Sections.{enter_sections, frame_sections, leave_sections, section_steps}
pub use Rattle.linked_calls.specs.Stretches.{AreBytes, AreData, AreZeroed, LiesIn}
pub use Rattle.linked_calls.specs.Words.{CanBePut, HasResultSlot, HasWordArgument, IsLoadOf, IsArgumentPut, IsPutting}
pub use Rattle.linked_calls.specs.Words.{IsReturned, ResultIsHandedBack, WordIsTaken}
pub use Rattle.linked_calls.specs.Zeros.{frame_steps, FrameIsZeroed, HasFrame, HasRoomBounds, IsStoreIn, IsWiped}
pub use Rattle.linked_calls.specs.Zeros.{IsZeroFrame, RoomIsWiped}
pub use Rattle.linked_calls.specs.declared.section.Section.{Section}
pub use Rattle.linked_calls.specs.declared.section.Section.TheVariants.{ArgumentIn, CallersStack, ClearedFrame}
pub use Rattle.linked_calls.specs.declared.section.Section.TheVariants.{ClearedRegisters, FrameBase, FrameTop}
pub use Rattle.linked_calls.specs.declared.section.Section.TheVariants.{RestoredRegisters, ResultOut, Return}
pub use Rattle.linked_calls.specs.declared.section.Section.TheVariants.{WipedRoom}
pub use Rattle.rv_code.specs.declared.instructions.Instr.{Instr}
pub use Rattle.rv_code.specs.declared.instructions.Instr.TheVariants.{JumpRegister, Register}
pub use Rattle.rv_code.specs.declared.operations.LoadOperation.TheVariants.{Lw}
pub use Rattle.rv_code.specs.declared.operations.RegisterOperation.{RegisterOperation}
pub use Rattle.rv_code.specs.declared.operations.RegisterOperation.TheVariants.{Add, Sub}
pub use Rattle.rv_code.specs.declared.operations.ShiftOperation.TheVariants.{Slli, Srli}
pub use Rattle.rv_code.specs.declared.operations.StoreOperation.TheVariants.{Sw}
pub use Rattle.rv_code.specs.declared.operations.UpperOperation.TheVariants.{Lui}
pub use Rattle.rv_machine.proofs.Face.{is_inside, is_outside, is_some-with_number}
pub use Rattle.rv_machine.proofs.Face.{jump_done, number_at-with_number, number_at_same, place, step_of}
pub use Rattle.rv_machine.proofs.Face.{with_number-suc, with_number-zero, with_number_inside, with_number_outside}
pub use Rattle.rv_machine.specs.Bytes.{ByteMap, number_at, with_byte, zeros}
unfoldable pub use Rattle.rv_machine.specs.Bytes.{with_number}
pub use Rattle.rv_machine.specs.Effects.{difference_of, register_target, register_value}
pub use Rattle.rv_machine.specs.Effects.{shift_value, sign_extended, sum_of}
pub use Rattle.rv_machine.specs.Machine.{MachineCode, goes_on, IsAt, next, observed, State, Step}
pub use Rattle.rv_machine.specs.Machine.{with_link}
unfoldable pub use Rattle.rv_machine.specs.Machine.{moved_to, with_link_after}
pub use Rattle.rv_machine.specs.Registers.{register, with_register}
pub use Rattle.rv_machine.specs.declared.memory.Size.{Size}
pub use Rattle.rv_machine.specs.declared.observation.Event.{Event}
pub use Rattle.rv_machine.specs.declared.observation.Observation.{Observation}
pub use Rattle.word.specs.declared.profile.Profile.TheVariants.{P1}
