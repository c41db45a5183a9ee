-- What this crate takes from the specs of the crates below, in one place.
pub use Rattle.word.specs.Operators.{complemented, converted, quotient, remainder, rotated_left, word_of, wrapped}
pub use Rattle.word.specs.declared.place.Place.{Place}
pub use Rattle.word.specs.declared.profile.Profile.{Profile}
pub use Rattle.word.specs.declared.width.Width.{Width}
pub use Rattle.language.specs.ExprTyping.{operation_kind}
pub use Rattle.language.specs.FirstViolation.{IsNamed, IsRefusedFor, IsToldOf}
pub use Rattle.language.specs.Grammatical.{AreAllSmall, ArePlain, AreSmall, AreSmallValues, HasForm, HasLength}
pub use Rattle.language.specs.Grammatical.{IsGrammatical, IsNumberKind, IsPlain, IsSmallReturn, IsSmallRight}
pub use Rattle.language.specs.Known.{first_known, Known, known_from, known_of, nothing_known, with_known}
pub use Rattle.language.specs.Limits.{most_bodies, most_declared_bytes, most_elements, most_nodes}
pub use Rattle.language.specs.Meaning.{an_iteration, accepts, applied, argument_faults, argument_held, argument_value}
pub use Rattle.language.specs.Meaning.{array_named, assignment_faults, Bodies, body_ends, body_faults, bounds_fault}
pub use Rattle.language.specs.Meaning.{by_operands, call_faults, Calls, condition_faults, copied_out, counting}
pub use Rattle.language.specs.Meaning.{declaration_faults, declines, element_held, Ending, ends, ends_well, Evaluates}
pub use Rattle.language.specs.Meaning.{EvaluatesAll, exported, expr_faults, faults, final_array, final_arrays}
pub use Rattle.language.specs.Meaning.{first_value_faults, Gives, gives, goes_on, gone_back, holding, is_word}
pub use Rattle.language.specs.Meaning.{later_faults, loops, made_array, meets_fault, named, no_iteration, none_left}
pub use Rattle.language.specs.Meaning.{of_expr, operand_faults, return_faults, Returned, returns, returns_nothing}
pub use Rattle.language.specs.Meaning.{right_faults, Rights, Runs, RunsAll, statements_fault, stops, target_faults}
pub use Rattle.language.specs.Meaning.{this_faults, iteration_faults, Iterations, with_element, with_some}
pub use Rattle.language.specs.Meaning.{word_arguments, word_given, word_held, words_left}
pub use Rattle.language.specs.Operators.{divides, high_product, multiplies, operated, operation_of, prefix_value}
pub use Rattle.language.specs.Operators.{truth_of, width_of}
pub use Rattle.language.specs.Results.{Results}
pub use Rattle.language.specs.Shares.{counted, counted_share, excess, larger, largest, most_counted, statement_shares}
pub use Rattle.language.specs.Size.{array_words, block_bodies, block_nodes, block_words, bodies_cost, bodies_of}
pub use Rattle.language.specs.Size.{bodies_of_called, body_shares, byte_shares, bytes_cost, call_nodes, called_nodes}
pub use Rattle.language.specs.Size.{declared_bytes, Extent, extent_of, Extents, extents_of, held_words, limits_passed}
pub use Rattle.language.specs.Size.{node_shares, nodes_cost, nodes_in, nodes_in_all, nodes_of, nodes_passed}
pub use Rattle.language.specs.Size.{parameter_share, parameter_words, passed_words, return_nodes, return_shares}
pub use Rattle.language.specs.Size.{right_bodies, right_nodes, right_words, size_violations, statement_bodies}
pub use Rattle.language.specs.Size.{statement_bytes, statement_nodes, statement_words, words_of_called}
pub use Rattle.language.specs.State.{single, State, Value, with_value}
pub use Rattle.language.specs.Tree.{array, assignment, binary, block_tree, BlockTree, call, call_tree, called, CallTree}
pub use Rattle.language.specs.Tree.{computed, conditional, convert, declaration, element, element_assignment, expr_tree}
pub use Rattle.language.specs.Tree.{ExprTree, first, loop, name, nothing, number, parameter_tree, ParameterTree}
pub use Rattle.language.specs.Tree.{place_of, prefix, procedure_tree, ProcedureTree, program_tree, ProgramTree}
pub use Rattle.language.specs.Tree.{return_tree, ReturnTree, right_tree, RightTree, rotate, select, statement_tree}
pub use Rattle.language.specs.Tree.{StatementTree, truth, written}
pub use Rattle.language.specs.Types.{because, bits_of, callee, declared, empty, joined, label_of, Scope, when}
pub use Rattle.language.specs.Typing.{assigns_public, block_assigns, body_scope, calls_one, counter_as, is_mutable}
pub use Rattle.language.specs.Typing.{is_public_mutable, may_assign, parameter_as, parameter_value, parameters_assign}
pub use Rattle.language.specs.Typing.{result_value, right_assigns, same_name, scope_after, scope_after_all}
pub use Rattle.language.specs.Typing.{statement_assigns, violations, with_parameters, with_procedure}
pub use Rattle.language.specs.WantOfMemory.{IsWantOfMemory}
pub use Rattle.language.specs.WellTyped.{AreNew, ArePassed, AreProcedures, AreWellTyped, arithmetic, array_given}
pub use Rattle.language.specs.WellTyped.{array_of, as_array, as_mutable_array, as_word, assigns, assigns_element, calls}
pub use Rattle.language.specs.WellTyped.{chooses, declares, declares_array, division, equality, FlowsTo, HasType}
pub use Rattle.language.specs.WellTyped.{IsCall, IsPassed, IsProcedure, IsVariable, IsWellTyped, labelled, logic, Makes}
pub use Rattle.language.specs.WellTyped.{multiplication, no_parameter, no_procedure, no_statement, none_passed}
pub use Rattle.language.specs.WellTyped.{nothing_returned, of_call, of_procedure, of_value, one_is_new, one_more}
pub use Rattle.language.specs.WellTyped.{one_passed, one_procedure, order, public_flows, repeats, Returns, secret_flows}
pub use Rattle.language.specs.WellTyped.{SharesNone, shift, Suits, Takes, value_returned}
pub use Rattle.language.specs.arguments.Within.{AreWithin, greatest_of, HasShape, IsWithin, words_of}
pub use Rattle.language.specs.names.Scope.{found}
pub use Rattle.language.specs.declared.operators.BinaryOperator.{BinaryOperator}
pub use Rattle.language.specs.declared.operators.PrefixOperator.{PrefixOperator}
pub use Rattle.language.specs.declared.signature.Form.{Form}
pub use Rattle.language.specs.declared.signature.Form.TheVariants.{FixedArray, MutableArray, SingleWord}
pub use Rattle.language.specs.declared.signature.Kind.{Kind}
pub use Rattle.language.specs.declared.signature.Kind.TheVariants.{Boolean, Uint32}
pub use Rattle.language.specs.declared.signature.Label.{Label}
pub use Rattle.language.specs.declared.signature.Label.TheVariants.{Public, Secret}
pub use Rattle.language.specs.declared.signature.Param.{Param}
pub use Rattle.language.specs.declared.tree.Counter.{Counter}
pub use Rattle.language.specs.declared.tree.Expr.{Expr}
pub use Rattle.language.specs.declared.tree.Procedure.{Procedure}
pub use Rattle.language.specs.declared.tree.Statement.{For, If, Statement}
pub use Rattle.language.specs.declared.typing.ArrayType.{ArrayType}
pub use Rattle.language.specs.declared.typing.Callee.{Callee}
pub use Rattle.language.specs.declared.typing.Declared.TheVariants.{Variable}
pub use Rattle.language.specs.declared.typing.ValueType.{ValueType}
pub use Rattle.language.specs.declared.typing.ValueType.TheVariants.{Array, Word}
pub use Rattle.language.specs.declared.typing.VariableType.{VariableType}
pub use Rattle.language.specs.declared.typing.WordType.{WordType}
pub use Rattle.language.specs.declared.values.Arg.{Arg}
pub use Rattle.language.specs.declared.why.Share.{Share}
pub use Rattle.findings.specs.Order.{AreInOrder}
