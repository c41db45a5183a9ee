-- What this crate takes from the specs of the crates below, in one place.
pub use Rattle.word.specs.declared.place.Place.{Place}
pub use Rattle.word.specs.declared.profile.Profile.{Profile}
pub use Rattle.word.specs.declared.profile.Profile.TheVariants.{P1, P2}
pub use Rattle.rv_code.specs.FieldText.{reg_text}
pub use Rattle.rv_code.specs.Operations.{branch_row, sum_of}
pub use Rattle.rv_code.specs.Text.{text_of, three_operands, two_operands}
pub use Rattle.rv_code.specs.Words.{IsInstr}
unfoldable pub use Rattle.rv_code.specs.Words.{word_of}
pub use Rattle.rv_code.specs.declared.instructions.Instr.{Instr}
pub use Rattle.rv_code.specs.declared.instructions.Instr.TheVariants.{Branch, Fence, Jump, JumpRegister, Load}
pub use Rattle.rv_code.specs.declared.instructions.Instr.TheVariants.{Immediate, Register, Store}
pub use Rattle.rv_code.specs.declared.operations.BranchTest.TheVariants.{Beq}
pub use Rattle.rv_code.specs.declared.operations.ImmediateOperation.TheVariants.{Andi}
pub use Rattle.rv_code.specs.declared.operations.RegisterOperation.TheVariants.{Add, Or, Sub}
pub use Rattle.rv_machine.specs.Effects.{branch_target, jump_target}
pub use Rattle.language.specs.Signature.{exported, param_of}
pub use Rattle.language.specs.Tree.{parameter_tree, ParameterTree, procedure_tree, ProcedureTree, program_tree}
pub use Rattle.language.specs.Tree.{ProgramTree}
pub use Rattle.language.specs.WantOfMemory.{IsWantOfMemory}
pub use Rattle.language.specs.declared.refusal.Refusal.{Refusal}
pub use Rattle.language.specs.Size.{element_bytes}
pub use Rattle.language.specs.declared.signature.Kind.{Kind}
pub use Rattle.language.specs.declared.signature.Kind.TheVariants.{Uint32}
pub use Rattle.language.specs.declared.signature.Form.{Form}
pub use Rattle.language.specs.declared.signature.Form.TheVariants.{FixedArray, MutableArray, SingleWord}
pub use Rattle.codegen.specs.Anywhere.{body_words}
pub use Rattle.expression_code.specs.TermCode.{constant_code, load_by}
pub use Rattle.expression_code.specs.image_fields.Fields.{Fields}
pub use Rattle.expression_code.specs.program_logic.Jumps.{over}
pub use Rattle.tokens.specs.Spelling.{is_name_or_keyword, is_word_byte}
pub use Rattle.hepurita.specs.Built.{accepts, fine, IsCompilation, Judges, readable}
pub use Rattle.compilation.specs.declared.optimised.Optimisation.{Optimisation}
pub use Rattle.linked_calls.specs.Callable.{CallsAreLinked, IsCallable}
pub use Rattle.linked_calls.specs.Convention.{argument_registers, link_register, result_register, saved_registers}
pub use Rattle.linked_calls.specs.Convention.{scratch_registers, stack_register}
pub use Rattle.linked_calls.specs.FunctionCode.{above_code, above_frame, added, address_code, argument_code}
pub use Rattle.linked_calls.specs.FunctionCode.{argument_offset, argument_register, array_bytes, first_argument}
pub use Rattle.linked_calls.specs.FunctionCode.{needed_for, needed_from, needed_of, pointer_in_code, pointer_out_code}
pub use Rattle.linked_calls.specs.FunctionCode.{stacked_code, stacked_offset}
pub use Rattle.linked_calls.specs.FunctionCode.{all_fit, are_few, blank_code, fits_frame, kept_of, lowered_code}
pub use Rattle.linked_calls.specs.Written.{has_destination, is_written, writes, written_of}
pub use Rattle.linked_calls.specs.FunctionCode.{clear_registers_code, copied_code, copied_in_code, copied_out_code}
pub use Rattle.linked_calls.specs.FunctionCode.{array_code, bound_code, by_alignment_code, call_code, called_code}
pub use Rattle.linked_calls.specs.FunctionCode.{copier_code, copier_of, divides, divides_all, elements_code, far_code}
pub use Rattle.linked_calls.specs.FunctionCode.{goes_as_it_is, goes_by_call, goes_in_as_it_is, in_round, is_any_worth}
pub use Rattle.linked_calls.specs.FunctionCode.{is_near, is_worth, is_worth_a_call, loop_code, per_word, round_of}
pub use Rattle.linked_calls.specs.Paces.{few_elements, least_for_call, most_blanks, own_round, times}
pub use Rattle.linked_calls.specs.FunctionCode.{copy_in_code, copy_out_code, down_code, element_meant_code}
pub use Rattle.linked_calls.specs.FunctionCode.{frame_room, loads_code}
pub use Rattle.linked_calls.specs.FunctionCode.{meant_code, next_code, result_code, room_of}
pub use Rattle.linked_calls.specs.FunctionCode.{rounds_code}
pub use Rattle.linked_calls.specs.FunctionCode.{store_by, stores_code}
pub use Rattle.linked_calls.specs.FunctionCode.{until_equal, up_code, wipe_code, word_code, zeros_code}
unfoldable pub use Rattle.linked_calls.specs.FunctionCode.{function_words}
pub use Rattle.linked_calls.specs.FunctionCode.{is_open, is_skipped}
pub use Rattle.linked_calls.specs.Sections.{argument_section}
pub use Rattle.linked_calls.specs.Sections.{argument_sections, array_section, array_sections, code_of, enter_sections}
pub use Rattle.linked_calls.specs.FunctionCode.{onward_code, shared_tail, tail_entry}
pub use Rattle.linked_calls.specs.Sections.{copier_sections, frame_sections, last_sections, leave_sections}
pub use Rattle.linked_calls.specs.Sections.{own_tail_sections, section_code}
