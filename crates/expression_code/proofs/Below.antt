-- What these proofs take from the layers below and from the specs, in one place: tests, terms and their meaning, the
-- code that is emitted, the machine, and pieces of code.
pub use Rattle.branch_removal.proofs.SeenLemmas.{seen-append}
pub use Rattle.branch_removal.specs.StraightMeaning.{StraightState}
pub use Rattle.expression_code.specs.Allocation.{Allocation, at_home, home_of, IsAllocation, register_of}
pub use Rattle.expression_code.specs.Allocation.{slot_of, is_unread, slots_to, temporary, working_register}
pub use Rattle.expression_code.specs.Allocation.{mirror_of}
pub use Rattle.expression_code.specs.declared.allocation.Mirror.{Mirror}
pub use Rattle.expression_code.specs.declared.emit.NearPlace.{NearPlace}
pub use Rattle.expression_code.specs.Computed.{IsComputed, IsSiteOf, Site, word_in}
pub use Rattle.expression_code.specs.Inside.{IsInside}
pub use Rattle.expression_code.specs.Layout.{control_location, control_offset, next_offset, result_offset}
pub use Rattle.expression_code.specs.Layout.{temporaries_offset, variable_location, variable_offset}
pub use Rattle.expression_code.specs.Layout.{offsets_from, slots_from}
pub use Rattle.expression_code.specs.NumberRows.{held, is_short, known_row, left_row, number_of, number_row}
pub use Rattle.expression_code.specs.NumberRows.{chooses_zero, is_known, is_sign, right_row}
pub use Rattle.expression_code.specs.declared.numbers.Finish.{Finish}
pub use Rattle.expression_code.specs.declared.numbers.NumberRow.{NumberRow}
pub use Rattle.expression_code.specs.declared.numbers.NumberStep.{NumberStep}
pub use Rattle.expression_code.specs.TermCode.{address_code, around_code, between, choice_code, code_by}
pub use Rattle.expression_code.specs.TermCode.{constant_code, convert_code, copy_code, cut_code, element_code}
pub use Rattle.expression_code.specs.TermCode.{expr_code, fetch_code, finish_code, into_code, IsAmong}
pub use Rattle.expression_code.specs.TermCode.{home_of_term, is_at_home, keep_code, keeps_words, load_by}
pub use Rattle.expression_code.specs.TermCode.{load_code, narrow_code, narrowed_in, near_code, near_element}
pub use Rattle.expression_code.specs.TermCode.{near_offset, number_code, of_truths, operand, operator_code}
pub use Rattle.expression_code.specs.TermCode.{prefix_code, raise_code, rotate_code, row_of, scale_code}
pub use Rattle.expression_code.specs.TermCode.{RowStep, lower_part, move_code, step_code, store_code, swapped}
pub use Rattle.expression_code.specs.TermCode.{upper_part, choice_or_zero_code, emitted_operator, kind_at}
pub use Rattle.expression_code.specs.TermCode.{into_by, mask_code, number_step_code, of_bits, opposite_by}
pub use Rattle.expression_code.specs.TermCode.{opposite_in, placed_code, sum_offset, reached_code}
pub use Rattle.expression_code.specs.TermCode.{access_offset, added, computed_index, near_sum}
pub use Rattle.expression_code.specs.TermCode.{in_frame, mirror_by, mirror_code, mirrored_at, mirrored_place}
pub use Rattle.expression_code.specs.TermCode.{before_code, complement_code, near_or, near_place}
pub use Rattle.expression_code.specs.TermCode.{prefixed_code, sign_code}
pub use Rattle.branch_removal.specs.Heights.{height_of}
pub use Rattle.expression_code.specs.declared.locations.Location.{Location}
pub use Rattle.expression_code.specs.declared.locations.Location.TheVariants.{InRegister, InSlot}
pub use Rattle.inline.specs.Fitting.{Fits, IsWithinKind}
pub use Rattle.inline.specs.Flat.{array_as, binary, convert, declaration_of, element, elements_by, numbers_in, prefix}
pub use Rattle.inline.specs.Flat.{rotate, select, TermTree, variable, word_as}
pub use Rattle.inline.specs.FlatMeaning.{marks_of, path_in, value_in, Values}
pub use Rattle.inline.specs.FlatSize.{declared_words, term_nodes, words_by, words_of}
pub use Rattle.inline.specs.FlatTyping.{TermHasType, of_binary, of_conversion, of_element, of_number, of_prefix}
pub use Rattle.inline.specs.FlatTyping.{of_rotation, of_selection, of_truth, of_variable, Types, types_of}
pub use Rattle.inline.specs.Path.{AreFine, bounded, decided, divided, indexed, Mark, multiplied, Path}
pub use Rattle.inline.specs.declared.flat.FlatVariable.{FlatVariable}
pub use Rattle.language.specs.Operators.{operated, opposite_of, prefix_value, swapped_of, width_of}
pub use Rattle.language.specs.Size.{element_bytes, held_words}
pub use Rattle.language.specs.declared.signature.Form.{Form}
pub use Rattle.language.specs.declared.signature.Kind.{Kind}
pub use Rattle.language.specs.declared.signature.Kind.TheVariants.{Boolean}
pub use Rattle.language.specs.declared.signature.Label.{Label}
pub use Rattle.language.specs.declared.signature.Param.{Param}
pub use Rattle.language.specs.declared.operators.BinaryOperator.{BinaryOperator}
pub use Rattle.language.specs.declared.operators.PrefixOperator.{PrefixOperator}
pub use Rattle.language.specs.declared.typing.WordType.{WordType}
pub use Rattle.expression_code.proofs.program_logic_lemmas.Computing.{after_append, all_straight, no_access}
pub use Rattle.expression_code.proofs.program_logic_lemmas.Computing.{only_computes}
pub use Rattle.expression_code.proofs.program_logic_lemmas.Computing.{plain_append, register_left, registers_after}
pub use Rattle.expression_code.proofs.program_logic_lemmas.Computing.{registers_of}
pub use Rattle.expression_code.proofs.program_logic_lemmas.Face.{All-one, along, along_fit, always, as_code, beside}
pub use Rattle.expression_code.proofs.program_logic_lemmas.Face.{both_left}
pub use Rattle.expression_code.proofs.program_logic_lemmas.Face.{both_right, branching_at, by_mark, cheaper, Contents}
pub use Rattle.expression_code.proofs.program_logic_lemmas.Face.{contents_of, ends_on, by_test, gives, idle, MarkKnown}
pub use Rattle.expression_code.proofs.program_logic_lemmas.Face.{looping}
pub use Rattle.expression_code.proofs.program_logic_lemmas.Face.{never, none, number_or_zero, Placed, Placed-left}
pub use Rattle.expression_code.proofs.program_logic_lemmas.Face.{Placed-right}
pub use Rattle.expression_code.proofs.program_logic_lemmas.Face.{quiet, quietly, seq, stands, Still, RunsAt, Then}
pub use Rattle.expression_code.proofs.program_logic_lemmas.Face.{step_ends}
pub use Rattle.expression_code.proofs.program_logic_lemmas.Face.{weaken, with_result}
pub use Rattle.rv_code.specs.Words.{IsInstr}
pub use Rattle.rv_code.specs.declared.instructions.Instr.{Instr}
pub use Rattle.rv_code.specs.declared.operations.DivideOperation.{DivideOperation}
pub use Rattle.rv_code.specs.declared.operations.LoadOperation.{LoadOperation}
pub use Rattle.rv_code.specs.declared.operations.MultiplyOperation.{MultiplyOperation}
pub use Rattle.rv_code.specs.declared.operations.StoreOperation.{StoreOperation}
pub use Rattle.rv_machine.proofs.ByteLaws.{number_at-suc, number_at-with_number, number_at-zero, number_at_same}
pub use Rattle.rv_machine.proofs.ByteLaws.{with_number_above, with_number_below}
pub use Rattle.rv_machine.proofs.InstructionSteps.{divide_leads, multiply_leads, with_value-bytes, with_value-pc}
pub use Rattle.rv_machine.proofs.InstructionSteps.{with_value-regs}
pub use Rattle.rv_machine.specs.Bytes.{ByteMap, joined, number_at, with_number}
pub use Rattle.rv_machine.specs.Effects.{address_of, divide_value, immediate_value, load_size, loaded_value}
pub use Rattle.rv_machine.specs.Effects.{multiply_value, register_value, shift_value, sign_extended, store_size, sum_of}
pub use Rattle.rv_machine.specs.Effects.{difference_of}
pub use Rattle.rv_machine.specs.Leakage.{Leads}
pub use Rattle.rv_machine.specs.Machine.{MachineCode, IsAt, product_shown, State, with_value}
pub use Rattle.rv_machine.specs.Registers.{register, with_register}
pub use Rattle.rv_machine.specs.Sizes.{byte_count}
pub use Rattle.rv_machine.specs.declared.memory.Size.{Size}
pub use Rattle.rv_machine.specs.declared.observation.Event.{Event}
pub use Rattle.rv_machine.specs.declared.observation.Observation.{Observation}
pub use Rattle.std.proofs.Math.Path.{fun_ext}
pub use Rattle.std.proofs.lemmas.Bool.Decides.{nat_tests}
pub use Rattle.std.proofs.lemmas.Bool.{cases_lt, eqb-true, false≢true, lt-ltb, ltb-false, ltb-true, true≢false}
pub use Rattle.std.proofs.lemmas.Nat.{and_mask, mul-le, xor_of_32}
pub use Rattle.word.specs.Operators.{converted, rotated_left, word_of}
pub use Rattle.word.specs.Widths.{bits}
pub use Rattle.word.specs.declared.place.Place.{Place}
pub use Rattle.word.specs.declared.profile.Profile.{Profile}
pub use Rattle.word.specs.declared.width.Width.{Width}
