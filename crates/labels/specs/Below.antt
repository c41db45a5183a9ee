-- What this crate takes from the specs of the crates below, in one place.
pub use Rattle.word.specs.declared.place.Place.{Place}
pub use Rattle.language.specs.ExprTyping.{binary_rules, binary_type, convert_rules, convert_type, element_rules}
pub use Rattle.language.specs.ExprTyping.{element_type, expr_violations, exprs_violations, name_type, name_violations}
pub use Rattle.language.specs.ExprTyping.{number_rules, prefix_rules, prefix_type, rotate_rules, rotate_type}
pub use Rattle.language.specs.ExprTyping.{select_rules, select_type, type_of, typed_of, typed_of_all}
pub use Rattle.language.specs.Grammatical.{IsGrammatical}
pub use Rattle.language.specs.Reasons.{bounds_why, choice_why, condition_why, control_under, control_why}
pub use Rattle.language.specs.Reasons.{either_literal, element_why, literal_as, literal_in, number_as, operand_literal}
pub use Rattle.language.specs.Reasons.{operand_why, operands_why, put_why, rotate_why, secret_in, secret_name}
pub use Rattle.language.specs.Reasons.{typed_part, unknown_why, where_hidden, whole_literal}
pub use Rattle.language.specs.Signature.{exported}
pub use Rattle.language.specs.Sooner.{sooner}
pub use Rattle.language.specs.Tree.{array, block_tree, BlockTree, call_tree, declaration, element, element_assignment}
pub use Rattle.language.specs.Tree.{expr_tree, ExprTree, first, name, nothing, parameter_tree, ParameterTree}
pub use Rattle.language.specs.Tree.{procedure_tree, ProcedureTree, program_tree, ProgramTree, return_tree, right_tree}
pub use Rattle.language.specs.Tree.{RightTree, statement_tree, StatementTree, written}
pub use Rattle.language.specs.Types.{are_alike, are_met, asked_of_one, asked_of_three, asked_of_two, at, because}
pub use Rattle.language.specs.Types.{because_of, callee, declared, declared_at, empty, found, is_hidden, is_secret}
pub use Rattle.language.specs.Types.{of_one, of_three, of_two, Scope, typed_as, unless, variable, when, widths_differ}
pub use Rattle.language.specs.Types.{with_typed, word}
pub use Rattle.language.specs.Typing.{argument_declared, argument_rules, argument_variable, argument_violations}
pub use Rattle.language.specs.Typing.{argument_why, arguments_violations, array_name, array_violations}
pub use Rattle.language.specs.Typing.{assignment_violations, block_violations, bounds_rules, call_type, call_violations}
pub use Rattle.language.specs.Typing.{called_one, change_violations, clash, clash_violations, condition_rules}
pub use Rattle.language.specs.Typing.{control_violations, count_violations, counter_as, declaration_control_violations}
pub use Rattle.language.specs.Typing.{declaration_violations, declared_array, declared_as}
pub use Rattle.language.specs.Typing.{element_assignment_violations, export_place, export_violations, exports}
pub use Rattle.language.specs.Typing.{first_clash, is_immutable, is_mutable, known_call_type, known_call_violations}
pub use Rattle.language.specs.Typing.{missing_violations, name_place, parameter_as, parameter_value}
pub use Rattle.language.specs.Typing.{parameter_violations, Passed, passed, passed_violations, procedure_violations}
pub use Rattle.language.specs.Typing.{procedures_violations, result_value, return_violations, returned_violations}
pub use Rattle.language.specs.Typing.{right_typed, right_violations, same_array, same_name, scope_after}
pub use Rattle.language.specs.Typing.{scope_after_all, shape_rules, shared, shared_at, statement_violations}
pub use Rattle.language.specs.Typing.{target_rules, too_many, value_rules, value_violations, values_violations}
pub use Rattle.language.specs.Typing.{violations, with_parameters, with_procedure}
pub use Rattle.language.specs.scopes.Shortened.{shortened}
pub use Rattle.language.specs.declared.rule.Rule.TheVariants.{ArgumentCount, CallAssignsPublicUnderSecretControl}
pub use Rattle.language.specs.declared.rule.Rule.TheVariants.{NameDeclaredTwice, NotExactlyOneExport, SecretToPublic}
pub use Rattle.language.specs.declared.rule.Rule.TheVariants.{WidthsDiffer, WrongKind}
pub use Rattle.language.specs.declared.signature.Label.TheVariants.{Public}
pub use Rattle.language.specs.declared.tree.Expr.{Expr}
pub use Rattle.language.specs.declared.tree.Parameter.{Parameter}
pub use Rattle.language.specs.declared.tree.Statement.{Assign, AssignElement, Declare, DeclareArray, For, If, Statement}
pub use Rattle.language.specs.declared.typing.Declared.TheVariants.{Procedure, Variable}
pub use Rattle.language.specs.declared.typing.ValueType.{ValueType}
pub use Rattle.language.specs.declared.typing.ValueType.TheVariants.{Array, Word}
pub use Rattle.language.specs.declared.typing.VariableType.{VariableType}
pub use Rattle.language.specs.declared.typing.Violation.{Violation}
pub use Rattle.language.specs.declared.why.Part.TheVariants.{Argument, Value}
pub use Rattle.language.specs.declared.why.SecretControl.{SecretControl}
pub use Rattle.language.specs.declared.why.Typed.{Typed}
pub use Rattle.language.specs.declared.why.Why.TheVariants.{ArgumentCounts, Number}
pub use Rattle.findings.specs.Noted.{Noted, noted, nothing_within}
pub use Rattle.findings.specs.Order.{AreInOrder}
