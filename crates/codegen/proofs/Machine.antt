-- The machine, its instructions, and what is emitted, in one place.
pub use Rattle.codegen.specs.Anywhere.{IsFollowedIn, IsLoaded, IsPlaced, RunsBehind, Stand, body_words}
pub use Rattle.codegen.specs.Bases.{AreBases, IsInside}
pub use Rattle.codegen.specs.Followed.{IsFollowed, IsGenerated}
pub use Rattle.codegen.specs.Loaded.{array_in, arrays_in, code_at, loaded_at, numbers_at, results_in, with_argument}
pub use Rattle.codegen.specs.Loaded.{with_arguments, with_numbers, word_in}
pub use Rattle.codegen.specs.private.Compared.{branching_code, condition_code, failing, right_code, right_register}
pub use Rattle.codegen.specs.private.Compared.{between, operands_code, operands_or, test_of, test_or}
pub use Rattle.codegen.specs.private.Emitted.{assign_code, block_code, bounds_code, clear_code, count_code}
pub use Rattle.codegen.specs.private.Emitted.{element_store_code, fill_code, home_of_term, home_or, index_code}
pub use Rattle.codegen.specs.private.Emitted.{join_code, kept_code, masks_code, merge_code, put_code, put_under_code}
pub use Rattle.codegen.specs.private.Emitted.{read_code, read_register, set_code, set_under_code, statement_code}
pub use Rattle.codegen.specs.private.Emitted.{store_by, test_code, taken_code, unless_home, unless_unread}
pub use Rattle.codegen.specs.private.Emitted.{put_element_code, put_under_near_code, stored_code}
pub use Rattle.codegen.specs.private.Emitted.{code_behind, stored_register, gives_zero, word_code, word_put}
pub use Rattle.branch_removal.specs.Heights.{depth_in_all, height_of_all, height_of_put, depth_in, height_in}
pub use Rattle.branch_removal.specs.Heights.{height_in_all, program_height, result_height, height_of}
pub use Rattle.codegen.specs.private.Generated.{body_of, entry_code, first_code, frame_of, home_count, image_of}
pub use Rattle.codegen.specs.private.Generated.{image_within, laid_out, most_words, program_code, program_slots}
pub use Rattle.codegen.specs.private.Generated.{result_code, result_slot, step_limit}
pub use Rattle.codegen.specs.private.Jumps.{AreNear, IsFar, branch_code, far, leave, loop_code, unless_code}
pub use Rattle.codegen.specs.private.Placed.{ArePlacedTerms, HasPlace, HavePlaces}
pub use Rattle.codegen.specs.private.Room.{HasRoom, IsFitting}
pub use Rattle.expression_code.specs.Layout.{Frame, control_offset, next_offset, result_offset, slots_from}
pub use Rattle.expression_code.specs.Layout.{control_location, temporaries_offset, variable_location}
pub use Rattle.expression_code.specs.Layout.{variable_offset, word_offset}
pub use Rattle.expression_code.specs.Allocation.{Allocation, at_home, home_of, plain, register_of, slots_to}
pub use Rattle.expression_code.specs.Allocation.{is_unread, mirror_of}
pub use Rattle.expression_code.specs.declared.allocation.Mirror.{Mirror}
pub use Rattle.expression_code.specs.declared.emit.NearPlace.{NearPlace}
pub use Rattle.codegen.specs.private.Reads.{AllReadKept, IsKeptWithin, ReadsKept}
pub use Rattle.expression_code.specs.TermCode.{IsAmong, address_code, code_by, constant_code, fetch_code}
pub use Rattle.expression_code.specs.TermCode.{into_code, kind_at, load_by, load_code, lower_part, near_place}
pub use Rattle.expression_code.specs.TermCode.{access_offset, computed_index, mirror_by, mirror_code, store_code}
pub use Rattle.expression_code.specs.declared.locations.Location.{Location}
pub use Rattle.expression_code.specs.declared.locations.Location.TheVariants.{InRegister, InSlot}
pub use Rattle.expression_code.specs.image_fields.Fields.{AreSlots, Fields, IsImage, IsResultSlot, is_length}
pub use Rattle.expression_code.specs.image_fields.Fields.{result_end}
pub use Rattle.expression_code.specs.image_fields.Fields.{slot_end, slots_end, type_in}
pub use Rattle.expression_code.specs.declared.image_fields.slot.ResultSlot.{ResultSlot}
pub use Rattle.expression_code.specs.declared.image_fields.slot.Slot.{Slot}
pub use Rattle.rv_code.specs.Words.{word_of}
pub use Rattle.rv_code.specs.declared.instructions.Instr.{Instr}
pub use Rattle.rv_code.specs.declared.operations.ImmediateOperation.TheVariants.{Addi}
pub use Rattle.rv_code.specs.declared.operations.RegisterOperation.TheVariants.{Add, And, Sltu, Sub}
pub use Rattle.rv_code.specs.declared.operations.StoreOperation.TheVariants.{Sw}
pub use Rattle.rv_machine.specs.Bytes.{ByteMap, joined, number_at, with_byte, with_number, zeros}
pub use Rattle.rv_machine.specs.Effects.{address_of, difference_of, load_size, sign_extended, store_size, sum_of}
pub use Rattle.rv_machine.specs.Leakage.{Halts, Leads, stays, steps_on}
pub use Rattle.rv_machine.specs.Machine.{MachineCode, IsAt, State, Step, executes, goes_on, word_at}
pub use Rattle.rv_machine.specs.Registers.{with_register}
pub use Rattle.rv_machine.specs.Sizes.{byte_count}
pub use Rattle.rv_machine.specs.declared.observation.Observation.{Observation}
pub use Rattle.rv_machine.specs.declared.stops.Stop.TheVariants.{Ecall}
