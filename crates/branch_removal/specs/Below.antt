-- What this crate takes from the specs of the crates below, in one place.
pub use Rattle.word.specs.Widths.{bits}
pub use Rattle.word.specs.declared.place.Place.{Place}
pub use Rattle.word.specs.declared.profile.Profile.{Profile}
pub use Rattle.word.specs.declared.profile.Profile.TheVariants.{P1, P2}
pub use Rattle.word.specs.declared.width.Width.{Width}
pub use Rattle.language.specs.ExprTyping.{binary_rules, binary_type, convert_type, number_rules, operation_kind}
pub use Rattle.language.specs.ExprTyping.{prefix_rules, prefix_type, rotate_rules, rotate_type, select_rules}
pub use Rattle.language.specs.ExprTyping.{select_type}
pub use Rattle.language.specs.Limits.{most_declared_bytes, most_nodes}
pub use Rattle.language.specs.Operators.{divides, multiplies, operated, operation_of, prefix_value, width_of}
pub use Rattle.language.specs.Types.{are_met, bits_of, is_bool, is_hidden, is_narrow, is_number, is_numeric, is_secret}
pub use Rattle.language.specs.Types.{joined, kind_of, of_one, of_three, of_two, unless, word}
pub use Rattle.language.specs.Typing.{is_mutable, value_rules}
pub use Rattle.language.specs.WellTyped.{both_public, division, labelled, Makes, multiplication, public_flows}
pub use Rattle.language.specs.WellTyped.{secret_flows, suits, Takes}
pub use Rattle.language.specs.arguments.Agreement.{Agree, EqualWherePublic}
pub use Rattle.language.specs.arguments.PublicResults.{AgreeInPublic, next_public, public_arrays}
pub use Rattle.language.specs.arguments.Within.{AreWithin}
pub use Rattle.language.specs.declared.operators.BinaryOperator.{BinaryOperator}
pub use Rattle.language.specs.declared.operators.PrefixOperator.{PrefixOperator}
pub use Rattle.language.specs.declared.signature.Kind.TheVariants.{Boolean}
pub use Rattle.language.specs.declared.signature.Label.{Label}
pub use Rattle.language.specs.declared.signature.Label.TheVariants.{Public, Secret}
pub use Rattle.language.specs.declared.signature.Param.{Param}
pub use Rattle.language.specs.declared.typing.ValueType.{ValueType}
pub use Rattle.language.specs.declared.typing.ValueType.TheVariants.{Word}
pub use Rattle.language.specs.declared.typing.WordType.{WordType}
pub use Rattle.language.specs.declared.values.Arg.{Arg}
pub use Rattle.inline.specs.Flat.{array, array_as, assign, binary, branch, convert, declaration_of, declare, element}
pub use Rattle.inline.specs.Flat.{first, flat_block, flat_tree, FlatBlock, FlatProgram, FlatTree, hold, loop, nothing}
pub use Rattle.inline.specs.Flat.{number, prefix, put, rotate, select, skip, term_tree, TermTree, truth, variable}
pub use Rattle.inline.specs.Flat.{word_as}
pub use Rattle.inline.specs.FlatMeaning.{array_of, arrays_from, elements, given, marks_of, outcome_of, path_in}
pub use Rattle.inline.specs.FlatMeaning.{path_in_all, path_of_result, path_of_iterations, results_of, iterations}
pub use Rattle.inline.specs.FlatMeaning.{value_in, Values, with_value}
pub use Rattle.inline.specs.FlatSize.{body_nodes, declared_words, HasLength, IsSized, term_nodes, terms_nodes}
pub use Rattle.inline.specs.FlatSize.{tree_nodes, value_nodes, words_of}
pub use Rattle.inline.specs.FlatTyping.{AllSuit, AreTyped, counter_type, end_types, HasCount, TermHasType}
pub use Rattle.inline.specs.FlatTyping.{IsElementAssigned, IsResult, IsTyped, IsTypedFlat, of_binary, of_conversion}
pub use Rattle.inline.specs.FlatTyping.{of_element, of_number, of_prefix, of_rotation, of_selection, of_truth}
pub use Rattle.inline.specs.FlatTyping.{of_variable, parameter_types, TermSuits, Types, types_after, types_after_all}
pub use Rattle.inline.specs.FlatTyping.{types_of, with_type}
pub use Rattle.inline.specs.Kept.{IsFlat}
pub use Rattle.inline.specs.Limits.{most_variable_bytes}
pub use Rattle.inline.specs.Path.{AreFine, bounded, decided, divided, indexed, multiplied, Path, seen, shown_of}
pub use Rattle.inline.specs.declared.flat.FlatStatement.{Branch, FlatStatement, Loop}
pub use Rattle.inline.specs.declared.flat.FlatVariable.{FlatVariable}
pub use Rattle.inline.specs.declared.flat.Term.{Term}
pub use Rattle.intervals.specs.Limits.{most_work}
pub use Rattle.intervals.specs.Loose.{an_iteration, assigns, chooses, declares, declares_array, ends, goes_on, holds}
pub use Rattle.intervals.specs.Loose.{IsSafe, LooselyLeadAll, LooselyLeads, no_iteration, none_left, puts, repeats}
pub use Rattle.intervals.specs.Loose.{skips, to_anything, Iterations}
pub use Rattle.intervals.specs.Ranged.{RangedProgram}
pub use Rattle.intervals.specs.Work.{body_work, ranged, tree_work}
