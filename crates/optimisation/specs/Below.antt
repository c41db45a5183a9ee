-- What this crate takes from the specs of the crates below, in one place.
pub use Rattle.word.specs.Operators.{complemented, converted, difference, rotated_left, shifted_left, shifted_right}
pub use Rattle.word.specs.Operators.{word_of}
pub use Rattle.word.specs.Widths.{bits, IsWord}
pub use Rattle.word.specs.declared.place.Place.{Place}
pub use Rattle.word.specs.declared.profile.Profile.{Profile}
pub use Rattle.word.specs.declared.width.Width.{Width}
pub use Rattle.word.specs.declared.width.Width.TheVariants.{W16, W32, W8}
pub use Rattle.language.specs.ExprTyping.{operation_kind}
pub use Rattle.language.specs.Operators.{divides, multiplies, operated, operation_of, opposite_of, prefix_value}
pub use Rattle.language.specs.Operators.{truth_of, swapped_of, width_of}
pub use Rattle.language.specs.Types.{bits_of, same_kind, same_label}
pub use Rattle.language.specs.Typing.{is_mutable}
pub use Rattle.language.specs.WantOfMemory.{IsWantOfMemory}
pub use Rattle.language.specs.WellTyped.{arithmetic, division, labelled, logic, Makes, multiplication, shift, Takes}
pub use Rattle.language.specs.arguments.Within.{AreWithin}
pub use Rattle.language.specs.declared.operators.BinaryOperator.{BinaryOperator}
pub use Rattle.language.specs.declared.operators.BinaryOperator.TheVariants.{Add, BitAnd, BitOr, BitXor, LogicalAnd}
pub use Rattle.language.specs.declared.operators.BinaryOperator.TheVariants.{Divide, LogicalOr, Equal, Greater}
pub use Rattle.language.specs.declared.operators.BinaryOperator.TheVariants.{GreaterOrEqual, HighProduct, Less}
pub use Rattle.language.specs.declared.operators.BinaryOperator.TheVariants.{LessOrEqual}
pub use Rattle.language.specs.declared.operators.BinaryOperator.TheVariants.{Multiply, Remainder, ShiftLeft, ShiftRight}
pub use Rattle.language.specs.declared.operators.BinaryOperator.TheVariants.{Subtract, Unequal}
pub use Rattle.language.specs.declared.operators.PrefixOperator.{PrefixOperator}
pub use Rattle.language.specs.declared.operators.PrefixOperator.TheVariants.{Complement, Negate, Not}
pub use Rattle.language.specs.declared.signature.Kind.{Kind}
pub use Rattle.language.specs.declared.signature.Kind.TheVariants.{Boolean, Uint32}
pub use Rattle.language.specs.declared.signature.Label.{Label}
pub use Rattle.language.specs.declared.signature.Label.TheVariants.{Public}
pub use Rattle.language.specs.declared.signature.Param.{Param}
pub use Rattle.language.specs.declared.typing.WordType.{WordType}
pub use Rattle.language.specs.declared.values.Arg.{Arg}
pub use Rattle.inline.specs.Fitting.{Fits, IsWithinKind}
pub use Rattle.inline.specs.Flat.{array_as, binary, convert, counter_type, declaration_of, element, elements_by, number}
pub use Rattle.inline.specs.Flat.{numbers_in, prefix, rotate, select, term_tree, TermTree, truth, variable, word_as}
pub use Rattle.inline.specs.FlatMeaning.{array_of, arrays_from, elements, given, marks_of, path_in, path_in_all}
pub use Rattle.inline.specs.FlatMeaning.{path_of_result, path_of_iterations, results_of, iterations, value_in, Values}
pub use Rattle.inline.specs.FlatMeaning.{with_value}
pub use Rattle.inline.specs.FlatSize.{declared_words, HasLength, words_by}
pub use Rattle.inline.specs.FlatTyping.{AllSuit, HasCount, TermHasType, IsResult, of_binary, of_conversion, of_element}
pub use Rattle.inline.specs.FlatTyping.{of_number, of_prefix, of_rotation, of_selection, of_truth, of_variable}
pub use Rattle.inline.specs.FlatTyping.{TermSuits, Types, types_of}
pub use Rattle.inline.specs.Limits.{most_variable_bytes}
pub use Rattle.inline.specs.Path.{AreFine, bounded, decided, indexed, multiplied, Path}
pub use Rattle.inline.specs.declared.flat.FlatVariable.{FlatVariable}
pub use Rattle.branch_removal.specs.Bounds.{block_nodes, statement_nodes}
unfoldable pub use Rattle.branch_removal.specs.Checked.{checked, redeclared}
pub use Rattle.branch_removal.specs.Greatest.{greatest_of, heaviest, without_greatest}
pub use Rattle.branch_removal.specs.Kept.{IsStraight}
pub use Rattle.branch_removal.specs.Quiet.{is_quiet}
pub use Rattle.branch_removal.specs.Replaced.{IsReplaced}
pub use Rattle.branch_removal.specs.Straight.{array, branch, chain, first, nothing, put, repeats, set, straight_block}
pub use Rattle.branch_removal.specs.Straight.{straight_tree, StraightBlock, StraightProgram, StraightTree, take}
pub use Rattle.branch_removal.specs.Straight.{with_body, with_variables}
pub use Rattle.branch_removal.specs.StraightMeaning.{after, after_all, counted, end_of, holds, outcome_of, path_along}
pub use Rattle.branch_removal.specs.StraightMeaning.{path_at, path_of, start, StraightState, value_at, with_controls}
pub use Rattle.branch_removal.specs.StraightMeaning.{with_element, with_variable}
pub use Rattle.branch_removal.specs.StraightTyping.{AreTyped, IsFilled, IsElementSet, IsSet, IsTyped, IsTypedStraight}
pub use Rattle.branch_removal.specs.StraightTyping.{types_but}
pub use Rattle.branch_removal.specs.Uses.{weight_inside}
