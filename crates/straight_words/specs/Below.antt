-- What this crate takes from the specs of the crates below, in one place.
pub use Rattle.word.specs.declared.place.Place.{Place}
pub use Rattle.word.specs.declared.profile.Profile.{Profile}
pub use Rattle.word.specs.declared.width.Width.{Width}
pub use Rattle.language.specs.Types.{same_kind, same_label}
pub use Rattle.language.specs.Typing.{is_mutable}
pub use Rattle.language.specs.WantOfMemory.{IsWantOfMemory}
pub use Rattle.language.specs.arguments.Within.{AreWithin}
pub use Rattle.language.specs.declared.operators.BinaryOperator.{BinaryOperator}
pub use Rattle.language.specs.declared.operators.PrefixOperator.{PrefixOperator}
pub use Rattle.language.specs.declared.signature.Kind.{Kind}
pub use Rattle.language.specs.declared.signature.Kind.TheVariants.{Boolean}
pub use Rattle.language.specs.declared.signature.Param.{Param}
pub use Rattle.language.specs.declared.typing.WordType.{WordType}
pub use Rattle.language.specs.declared.values.Arg.{Arg}
pub use Rattle.inline.specs.Flat.{TermTree, array_as, binary, convert, counter_type, declaration_of, element}
pub use Rattle.inline.specs.Flat.{elements_by, number, numbers_in, prefix, rotate, select, term_tree, truth, variable}
pub use Rattle.inline.specs.Flat.{word_as}
pub use Rattle.inline.specs.FlatMeaning.{Values, array_of, arrays_from, elements, given, iterations, marks_of}
pub use Rattle.inline.specs.FlatMeaning.{path_in, path_in_all, path_of_iterations, path_of_result, value_in}
pub use Rattle.inline.specs.FlatMeaning.{with_value}
pub use Rattle.inline.specs.FlatSize.{HasLength, declared_words, words_by}
pub use Rattle.inline.specs.FlatTyping.{AllSuit, HasCount, IsResult, TermHasType, Types, of_binary, of_conversion}
pub use Rattle.inline.specs.FlatTyping.{of_element, of_number, of_prefix, of_rotation, of_selection, of_truth}
pub use Rattle.inline.specs.FlatTyping.{of_variable}
pub use Rattle.inline.specs.Limits.{most_variable_bytes}
pub use Rattle.inline.specs.Path.{AreFine, Path, bounded, decided, indexed}
pub use Rattle.inline.specs.declared.flat.FlatVariable.{FlatVariable}
pub use Rattle.branch_removal.specs.Bounds.{block_nodes, statement_nodes}
pub use Rattle.branch_removal.specs.Greatest.{greatest_of, heaviest, without_greatest}
pub use Rattle.branch_removal.specs.Kept.{IsStraight}
pub use Rattle.branch_removal.specs.Quiet.{is_quiet}
pub use Rattle.branch_removal.specs.Replaced.{IsReplaced}
pub use Rattle.branch_removal.specs.Straight.{StraightBlock, StraightProgram, StraightTree, array, branch, chain}
pub use Rattle.branch_removal.specs.Straight.{first, nothing, put, repeats, set, straight_block, straight_tree, take}
pub use Rattle.branch_removal.specs.Straight.{with_body, with_variables}
pub use Rattle.branch_removal.specs.StraightMeaning.{StraightState, after, after_all, counted, end_of, holds}
pub use Rattle.branch_removal.specs.StraightMeaning.{outcome_of, path_along, path_at, path_of, start, value_at}
pub use Rattle.branch_removal.specs.StraightMeaning.{with_controls, with_variable}
pub use Rattle.branch_removal.specs.StraightTyping.{AreTyped, IsElementSet, IsFilled, IsTyped}
unfoldable pub use Rattle.branch_removal.specs.Checked.{checked, redeclared}
