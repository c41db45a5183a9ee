-- What this crate takes from the specs of the crates below, in one place.
pub use Rattle.word.specs.declared.profile.Profile.{Profile}
pub use Rattle.word.specs.declared.width.Width.{Width}
pub use Rattle.language.specs.Operators.{divides, operated}
pub use Rattle.language.specs.Types.{same_kind}
pub use Rattle.language.specs.Typing.{is_mutable}
pub use Rattle.language.specs.WantOfMemory.{IsWantOfMemory}
pub use Rattle.language.specs.WellTyped.{labelled}
pub use Rattle.language.specs.arguments.Within.{AreWithin}
pub use Rattle.language.specs.declared.operators.BinaryOperator.{BinaryOperator}
pub use Rattle.language.specs.declared.signature.Kind.{Kind}
pub use Rattle.language.specs.declared.signature.Kind.TheVariants.{Boolean}
pub use Rattle.language.specs.declared.signature.Label.TheVariants.{Public}
pub use Rattle.language.specs.declared.signature.Param.{Param}
pub use Rattle.language.specs.declared.typing.WordType.{WordType}
pub use Rattle.language.specs.declared.values.Arg.{Arg}
pub use Rattle.inline.specs.Flat.{TermTree, array_as, binary, convert, counter_type, declaration_of, element, number}
pub use Rattle.inline.specs.Flat.{numbers_in, prefix, rotate, select, term_tree, truth, variable, word_as}
pub use Rattle.inline.specs.FlatMeaning.{Values, array_of, arrays_from, elements, given, iterations, path_in}
pub use Rattle.inline.specs.FlatMeaning.{path_in_all, path_of_iterations, path_of_result, results_of, value_in}
pub use Rattle.inline.specs.FlatMeaning.{with_value}
pub use Rattle.inline.specs.FlatTyping.{AllSuit, IsResult, TermHasType, Types, of_binary, of_conversion, of_element}
pub use Rattle.inline.specs.FlatTyping.{of_number, of_prefix, of_rotation, of_selection, of_truth, of_variable}
pub use Rattle.inline.specs.FlatTyping.{types_of}
pub use Rattle.inline.specs.Path.{Path, decided}
pub use Rattle.inline.specs.declared.flat.FlatVariable.{FlatVariable}
pub use Rattle.branch_removal.specs.Bounds.{block_nodes, statement_nodes}
pub use Rattle.branch_removal.specs.Kept.{IsStraight}
pub use Rattle.branch_removal.specs.Replaced.{IsReplaced}
pub use Rattle.branch_removal.specs.Straight.{StraightBlock, StraightProgram, StraightTree, array, branch, chain}
pub use Rattle.branch_removal.specs.Straight.{first, nothing, put, repeats, set, straight_block, straight_tree, take}
pub use Rattle.branch_removal.specs.Straight.{with_variables}
pub use Rattle.branch_removal.specs.StraightMeaning.{StraightState, after, after_all, counted, end_of, holds}
pub use Rattle.branch_removal.specs.StraightMeaning.{outcome_of, path_along, path_at, path_of, start, value_at}
pub use Rattle.branch_removal.specs.StraightMeaning.{with_element, with_variable}
pub use Rattle.branch_removal.specs.StraightTyping.{AreTyped, IsTyped, IsTypedStraight, types_but}
pub use Rattle.branch_removal.specs.Uses.{weight_inside}
unfoldable pub use Rattle.branch_removal.specs.Checked.{checked, redeclared}
