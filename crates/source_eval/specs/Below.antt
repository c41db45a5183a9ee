-- What this crate takes from the specs of the crates below, in one place.
pub use Rattle.word.specs.declared.place.Place.{Place}
pub use Rattle.word.specs.declared.profile.Profile.{Profile}
pub use Rattle.language.specs.Evaluation.{array_run, body_run, branch_run, call_run, called_run, continued, element_run}
pub use Rattle.language.specs.Evaluation.{ended, export_run, found_run, given, later, loop_run, passed, program_run}
pub use Rattle.language.specs.Evaluation.{results, return_run, right_run, Run, run, run_all, Runnable, runnable}
pub use Rattle.language.specs.Evaluation.{Runnables, runnables, set_run, iterations, value, values}
unfoldable pub use Rattle.language.specs.Evaluation.{andthen, inside, tick}
pub use Rattle.language.specs.Limits.{most_bodies}
pub use Rattle.language.specs.Meaning.{an_iteration, accepts, applied, argument_faults, argument_held, argument_value}
pub use Rattle.language.specs.Meaning.{array_named, assignment_faults, assigns, assigns_element, begun, Bodies}
pub use Rattle.language.specs.Meaning.{body_ends, body_faults, bounds_fault, by_operands, call_faults, Calls, calls}
pub use Rattle.language.specs.Meaning.{condition_faults, copied_out, counting, declaration_faults, declares}
pub use Rattle.language.specs.Meaning.{declares_array, declines, element_held, Ending, ends, ends_well, Evaluates}
pub use Rattle.language.specs.Meaning.{EvaluatesAll, exported, expr_faults, faults, final_arrays, final_words}
pub use Rattle.language.specs.Meaning.{first_value_faults, Gives, gives, goes_on, gone_back, holding, is_word}
pub use Rattle.language.specs.Meaning.{later_faults, loops, made_array, meets_fault, named, no_iteration, none_left}
pub use Rattle.language.specs.Meaning.{of_call, of_expr, one_more, operand_faults, operands, return_faults, Returned}
pub use Rattle.language.specs.Meaning.{returns, returns_nothing, right_faults, Rights, Runs, RunsAll, statements_fault}
pub use Rattle.language.specs.Meaning.{stops, target_faults, this_faults, iteration_faults, Iterations, with_element}
pub use Rattle.language.specs.Meaning.{with_some, word_arguments, word_given, word_held, words_left, written}
pub use Rattle.language.specs.Operators.{divides, truth_of}
pub use Rattle.language.specs.Results.{Results}
pub use Rattle.language.specs.Signature.{param_of}
pub use Rattle.language.specs.Size.{block_bodies, bodies_of, bodies_of_called, Extent, extent_of, Extents, extents_of}
pub use Rattle.language.specs.Size.{right_bodies, statement_bodies}
pub use Rattle.language.specs.State.{empty, single, State, Value, with_value, Word}
pub use Rattle.language.specs.Tree.{array, assignment, binary, block_tree, BlockTree, call, call_tree, called, CallTree}
pub use Rattle.language.specs.Tree.{computed, conditional, convert, declaration, element, element_assignment, expr_tree}
pub use Rattle.language.specs.Tree.{ExprTree, first, loop, name, nothing, number, parameter_tree, ParameterTree, prefix}
pub use Rattle.language.specs.Tree.{procedure_tree, ProcedureTree, program_tree, ProgramTree, return_tree, ReturnTree}
pub use Rattle.language.specs.Tree.{right_tree, RightTree, rotate, select, statement_tree, StatementTree, truth}
pub use Rattle.language.specs.Typing.{assigns_public, export_place, exports, parameter_as, scope_after, violations}
pub use Rattle.language.specs.Typing.{with_parameters, with_procedure}
pub use Rattle.language.specs.arguments.Faults.{fault_of}
pub use Rattle.language.specs.declared.signature.Form.{Form}
pub use Rattle.language.specs.declared.signature.Form.TheVariants.{FixedArray, MutableArray, SingleWord}
pub use Rattle.language.specs.declared.signature.Kind.{Kind}
pub use Rattle.language.specs.declared.tree.Expr.{Expr}
pub use Rattle.language.specs.declared.tree.Parameter.{Parameter}
pub use Rattle.language.specs.declared.tree.Procedure.{Procedure}
pub use Rattle.language.specs.declared.tree.Statement.{For, If, Statement}
pub use Rattle.language.specs.declared.values.Arg.{Arg}
