-- What this crate takes from the specs of the crates below, in one place.
pub use Rattle.word.specs.Operators.{converted, difference, rotated_left, shifted_right, word_of}
pub use Rattle.word.specs.Widths.{bits, IsWord}
pub use Rattle.word.specs.declared.place.Place.{Place}
pub use Rattle.word.specs.declared.profile.Profile.{Profile}
pub use Rattle.word.specs.declared.width.Width.{Width}
pub use Rattle.word.specs.declared.width.Width.TheVariants.{W16, W32, W8}
pub use Rattle.language.specs.FirstViolation.{IsFirst, IsNamed, IsNoLaterThan, IsRefusedFor, IsToldOf, TellsOf}
pub use Rattle.language.specs.Meaning.{gives}
pub use Rattle.language.specs.Operators.{divides, multiplies, operated, operation_of, prefix_value, truth_of, width_of}
pub use Rattle.language.specs.Shares.{cost_of, counted, counted_share, excess, larger, largest, most_counted}
pub use Rattle.language.specs.Types.{because, bits_of, is_secret, joined, when}
pub use Rattle.language.specs.WellTyped.{arithmetic, division, equality, labelled, logic, Makes, multiplication, order}
pub use Rattle.language.specs.WellTyped.{shift}
pub use Rattle.language.specs.arguments.Within.{AreWithin}
pub use Rattle.language.specs.declared.interval.Interval.{Interval}
pub use Rattle.language.specs.declared.operators.BinaryOperator.{BinaryOperator}
pub use Rattle.language.specs.declared.operators.BinaryOperator.TheVariants.{Add, BitAnd, BitOr, BitXor, LogicalAnd}
pub use Rattle.language.specs.declared.operators.BinaryOperator.TheVariants.{Divide, LogicalOr, Equal, Greater}
pub use Rattle.language.specs.declared.operators.BinaryOperator.TheVariants.{GreaterOrEqual, Less, LessOrEqual}
pub use Rattle.language.specs.declared.operators.BinaryOperator.TheVariants.{Multiply, Remainder, ShiftLeft, ShiftRight}
pub use Rattle.language.specs.declared.operators.BinaryOperator.TheVariants.{Subtract, Unequal}
pub use Rattle.language.specs.declared.operators.PrefixOperator.{PrefixOperator}
pub use Rattle.language.specs.declared.operators.PrefixOperator.TheVariants.{Complement, Negate, Not}
pub use Rattle.language.specs.declared.rule.Rule.TheVariants.{DivisorMayBeZero, IndexOutOfRange, TooMuchWork}
pub use Rattle.language.specs.declared.signature.Form.{Form}
pub use Rattle.language.specs.declared.signature.Form.TheVariants.{FixedArray, MutableArray, SingleWord}
pub use Rattle.language.specs.declared.signature.Kind.{Kind}
pub use Rattle.language.specs.declared.signature.Kind.TheVariants.{Boolean, Uint16, Uint32, Uint8}
pub use Rattle.language.specs.declared.signature.Label.{Label}
pub use Rattle.language.specs.declared.signature.Label.TheVariants.{Public, Secret}
pub use Rattle.language.specs.declared.signature.Param.{Param}
pub use Rattle.language.specs.declared.typing.Violation.{Violation}
pub use Rattle.language.specs.declared.typing.WordType.{WordType}
pub use Rattle.language.specs.declared.values.Arg.{Arg}
pub use Rattle.language.specs.declared.why.Share.{Share}
pub use Rattle.language.specs.declared.why.Why.TheVariants.{Divisor, Index, TooMuch}
pub use Rattle.findings.specs.Noted.{Noted, noted}
pub use Rattle.findings.specs.Order.{AreInOrder}
pub use Rattle.findings.specs.Passes.{first_found}
pub use Rattle.inline.specs.Fitting.{Fits, IsHeld, IsWithinKind}
pub use Rattle.inline.specs.Flat.{array, array_as, assign, binary, branch, convert, declaration_of, declare, element}
pub use Rattle.inline.specs.Flat.{elements_by, first, flat_block, flat_tree, FlatBlock, FlatProgram, FlatTree, hold}
pub use Rattle.inline.specs.Flat.{loop, nothing, number, prefix, put, rotate, select, skip, term_tree, TermTree, truth}
pub use Rattle.inline.specs.Flat.{variable, word_as}
pub use Rattle.inline.specs.FlatMeaning.{after, after_all, end_of, ending_by, ending_of, given, marks_of, outcome_of}
pub use Rattle.inline.specs.FlatMeaning.{path_along, path_at, path_in, path_in_all, path_of, path_of_result}
pub use Rattle.inline.specs.FlatMeaning.{path_of_iterations, iterations, value_in, Values, with_value}
pub use Rattle.inline.specs.FlatSize.{term_nodes, terms_nodes, value_nodes}
pub use Rattle.inline.specs.FlatTyping.{AllSuit, AreNumbered, AreTyped, counter_type, declarations_in}
pub use Rattle.inline.specs.FlatTyping.{declarations_in_all, end_types, HasCount, TermHasType, IsNew, IsNumbered}
pub use Rattle.inline.specs.FlatTyping.{IsResult, IsTyped, IsTypedFlat, of_binary, of_conversion, of_element, of_number}
pub use Rattle.inline.specs.FlatTyping.{of_prefix, of_rotation, of_selection, of_truth, of_variable, parameter_types}
pub use Rattle.inline.specs.FlatTyping.{TermSuits, Types, types_after, types_after_all, types_of, with_type}
pub use Rattle.inline.specs.Path.{AreFine, bounded, decided, divided, either, fault_at, first_fault, indexed, IsFine}
pub use Rattle.inline.specs.Path.{Mark, multiplied, Path}
pub use Rattle.inline.specs.declared.flat.FlatStatement.{Branch, FlatStatement, Loop}
pub use Rattle.inline.specs.declared.flat.FlatVariable.{FlatVariable}
pub use Rattle.inline.specs.declared.flat.Stretch.{Stretch}
pub use Rattle.inline.specs.declared.flat.Term.{Term}
