-- The laws that the proofs here build on, of the crates below and of the code of expressions, in one place.
pub use Rattle.branch_removal.proofs.Scopes.{but_among, suits_among}
pub use Rattle.branch_removal.proofs.Values.{all_values, one_path_all}
pub use Rattle.expression_code.proofs.Arithmetic.{lower_fits, mask_fits, mask_of, mask_otherwise}
pub use Rattle.expression_code.proofs.Arithmetic.{mask_when, masks_join, merge, merged, near_address}
pub use Rattle.expression_code.proofs.Below.{after_append, All-one, along, along_fit, as_code, beside}
pub use Rattle.expression_code.proofs.Below.{branching_at, by_mark, cheaper, gives, idle, MarkKnown}
pub use Rattle.expression_code.proofs.Below.{looping, never, none, number_or_zero, only_computes, Placed}
pub use Rattle.expression_code.proofs.Below.{Placed-left, Placed-right, plain_append, quiet, quietly}
pub use Rattle.expression_code.proofs.Below.{registers_after, seq, Still, RunsAt, Then, weaken}
pub use Rattle.expression_code.proofs.Elements.{address_runs, Addressed, load_bytes, load_plain}
pub use Rattle.expression_code.proofs.Events.{by_bounds, by_index, by_known_index, condition_kind}
pub use Rattle.expression_code.proofs.ExpressionRuns.{into_runs}
pub use Rattle.expression_code.proofs.Fitting.{AreOfKinds, fits_kinds, held_kind, IsOfKind}
pub use Rattle.expression_code.proofs.Fitting.{value_fits}
pub use Rattle.expression_code.proofs.Frame.{After, base_of, Before, by_option, frame_runs, frame_there}
pub use Rattle.expression_code.proofs.Frame.{Held, held_regs, HeldAt, layout_of, Runs, seen_by}
pub use Rattle.expression_code.proofs.Frame.{Setting, setting, Steps, terms_at}
pub use Rattle.expression_code.proofs.Homes.{home_there}
pub use Rattle.expression_code.proofs.Indices.{computed_part, IsPart}
pub use Rattle.expression_code.proofs.Mirrors.{IsReached, place_reached}
pub use Rattle.expression_code.proofs.Moves.{computing_within, does, is_free, loading, move_runs}
pub use Rattle.expression_code.proofs.Moves.{moves_run, none_low, put, register-at, storing, take}
pub use Rattle.expression_code.proofs.Moves.{unwritten, written}
pub use Rattle.expression_code.proofs.NumberCode.{known}
pub use Rattle.expression_code.proofs.OperandRuns.{steps_of}
pub use Rattle.expression_code.proofs.Operands.{fetch_runs, Fetched, HasRoom, took}
pub use Rattle.expression_code.proofs.OperatorCode.{constant_after, constant_plain}
pub use Rattle.expression_code.proofs.Places.{apart, apart_from, bytes_by, bytes_of, elements_apart}
pub use Rattle.expression_code.proofs.Places.{ends_before_result, kind_known, parameter_words}
pub use Rattle.expression_code.proofs.Places.{place_even, place_of, place_within}
pub use Rattle.expression_code.proofs.Scratch.{homes_beside, homes_computed, homes_moved, is_scratch}
pub use Rattle.expression_code.proofs.Scratch.{scratch_low}
pub use Rattle.expression_code.proofs.TermLengths.{address_length, code_length, constant_length}
pub use Rattle.expression_code.proofs.TermLengths.{fetch_length, height, into_length, load_length}
pub use Rattle.expression_code.proofs.TermLengths.{move_length, one_of, store_length, typed_among}
pub use Rattle.expression_code.proofs.TermLengths.{typed_within}
pub use Rattle.expression_code.proofs.Values.{array_lies, at_control, control_stays, controls_kept}
pub use Rattle.expression_code.proofs.Values.{Holds, homes_by, homes_then, HomesKept, Kept, kept_by}
pub use Rattle.expression_code.proofs.Values.{kept_less, kept_number, kept_then, Leaves, number_same}
pub use Rattle.expression_code.proofs.Values.{mirror_register, mirrors_kept, place_before, place_ends, Ready}
pub use Rattle.expression_code.proofs.Values.{ready_after, ready_below}
pub use Rattle.expression_code.proofs.Values.{value_word, ValuedIn, variables_home, variables_kept, Wrote}
pub use Rattle.expression_code.proofs.Values.{wrote_kept, wrote_there}
pub use Rattle.expression_code.proofs.WorkRegisters.{free_from, home_allowed, home_beside, home_target}
pub use Rattle.expression_code.proofs.WorkRegisters.{IsHome, IsTarget, place_target, works_at}
pub use Rattle.inline.proofs.FittingBodies.{one_held}
pub use Rattle.rv_machine.proofs.ByteLaws.{number_at-suc, number_at-with_number, number_at-zero, number_at_apart}
pub use Rattle.rv_machine.proofs.ByteLaws.{number_at_same, with_byte_other, with_byte_same, with_number-suc}
pub use Rattle.rv_machine.proofs.ByteLaws.{with_number-zero, with_number_above, with_number_below}
pub use Rattle.rv_machine.proofs.RunLaws.{Halts-after}
pub use Rattle.rv_machine.proofs.InstructionSteps.{ecall_halts}
pub use Rattle.std.proofs.lemmas.Bool.{and_from, cases_eq, cases_lt, eq-eqb, eqb-false, eqb-true, le-leb, lt-ltb}
pub use Rattle.std.proofs.lemmas.Bool.Decides.{nat_tests}
pub use Rattle.std.proofs.lemmas.List.{get_or-set_other, get_or-set_same, length-map, length-replicate, length-set}
pub use Rattle.std.proofs.lemmas.List.{nil_from_length, set-get_or, take-append-drop}
pub use Rattle.std.proofs.lemmas.List.Elements.{All-append, All-replicate, All-set, recursion_from_All}
pub use Rattle.std.proofs.lemmas.Option.{none-some, same_Some, slice_get_within}
pub use Rattle.std.specs.Option.{option_map}
