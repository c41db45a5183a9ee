-- What straight code is made of and what it means, in one place: the words of the crates above the machine.
pub use Rattle.language.specs.arguments.Within.{AreWithin, HasShape, IsWithin, greatest_of, words_of}
pub use Rattle.branch_removal.specs.Bounds.{IsBounded, IsCounted, block_nodes, block_work, iterations_counted}
pub use Rattle.branch_removal.specs.Bounds.{nodes_work, statement_nodes, statement_work}
pub use Rattle.branch_removal.specs.Straight.{StraightBlock, StraightProgram, StraightTree, array, branch, first}
pub use Rattle.branch_removal.specs.Straight.{nothing, put, repeats, set, straight_block, straight_row, straight_tree}
pub use Rattle.branch_removal.specs.Straight.{take}
pub use Rattle.branch_removal.specs.StraightMeaning.{StraightState, after, after_all, counted, holds, outcome_of}
pub use Rattle.branch_removal.specs.StraightMeaning.{path_along, path_at, path_of, value_at, with_controls}
pub use Rattle.branch_removal.specs.StraightMeaning.{with_element, with_variable}
pub use Rattle.branch_removal.specs.StraightTyping.{AreTyped, IsAmong, IsFilled, IsElementSet, IsSet, IsTyped}
pub use Rattle.branch_removal.specs.StraightTyping.{IsTypedStraight, types_but}
pub use Rattle.branch_removal.specs.declared.straight.StraightStatement.{StraightStatement}
pub use Rattle.inline.specs.Fitting.{Fits, IsHeld, IsWithinKind}
pub use Rattle.inline.specs.Flat.{TermTree, array_as, declaration_of, numbers_in, term_tree, word_as}
pub use Rattle.inline.specs.FlatMeaning.{Values, array_of, arrays_from, given, path_in, path_in_all, path_of_result}
pub use Rattle.inline.specs.FlatMeaning.{path_of_iterations, iterations, value_in, with_value}
pub use Rattle.inline.specs.FlatSize.{HasLength, declared_words, term_nodes, terms_nodes, value_nodes}
pub use Rattle.inline.specs.FlatTyping.{AllSuit, HasCount, TermHasType, IsResult, TermSuits, Types, counter_type}
pub use Rattle.inline.specs.FlatTyping.{types_of}
pub use Rattle.inline.specs.Path.{AreFine, Path, bounded, indexed, seen}
pub use Rattle.inline.specs.declared.flat.FlatVariable.{FlatVariable}
pub use Rattle.inline.specs.declared.flat.Term.{Term}
pub use Rattle.language.specs.Limits.{most_elements}
pub use Rattle.language.specs.Size.{array_words, element_bytes, held_words}
pub use Rattle.language.specs.Types.{bits_of}
pub use Rattle.language.specs.WellTyped.{labelled}
pub use Rattle.language.specs.declared.signature.Form.{Form}
pub use Rattle.language.specs.declared.signature.Form.TheVariants.{FixedArray, MutableArray, SingleWord}
pub use Rattle.language.specs.declared.signature.Kind.{Kind}
pub use Rattle.language.specs.declared.signature.Kind.TheVariants.{Boolean, Uint32}
pub use Rattle.language.specs.declared.signature.Label.{Label}
pub use Rattle.language.specs.declared.signature.Label.TheVariants.{Public}
pub use Rattle.language.specs.declared.signature.Param.{Param}
pub use Rattle.language.specs.declared.typing.WordType.{WordType}
pub use Rattle.language.specs.declared.values.Arg.{Arg}
pub use Rattle.language.specs.declared.values.Arg.TheVariants.{Array, Word}
pub use Rattle.word.specs.Operators.{word_of}
pub use Rattle.word.specs.declared.place.Place.{Place}
pub use Rattle.word.specs.declared.profile.Profile.{Profile}
