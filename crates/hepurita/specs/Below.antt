-- What this crate takes from the specs of the crates below, in one place.
pub use Rattle.word.specs.Places.{origin}
pub use Rattle.word.specs.declared.place.Place.{Place}
pub use Rattle.word.specs.declared.profile.Profile.{Profile}
pub use Rattle.rv_machine.specs.Bytes.{ByteMap, joined, zeros}
unfoldable pub use Rattle.rv_machine.specs.Bytes.{number_at, with_number}
pub use Rattle.rv_machine.specs.Entries.{Compares, entries_of, Entry}
pub use Rattle.rv_machine.specs.Harts.{state_of}
pub use Rattle.rv_machine.specs.Leakage.{cut_short, halted, Halts, halts, IsShown, Leads, Ran, RunsWithin, spent, stays}
pub use Rattle.rv_machine.specs.Leakage.{steps_on}
pub use Rattle.rv_machine.specs.Machine.{MachineCode, State, stops, Step}
pub use Rattle.rv_machine.specs.Paged.{paged_bytes}
pub use Rattle.rv_machine.specs.Recording.{count_after, HasRefused, kept}
pub use Rattle.rv_machine.specs.Regions.{code_of}
pub use Rattle.rv_machine.specs.Sizes.{byte_count}
pub use Rattle.rv_machine.specs.declared.observation.Observation.{Observation}
pub use Rattle.rv_machine.specs.declared.pairing.Pairing.{Pairing}
pub use Rattle.rv_machine.specs.declared.pairing.Pairing.TheVariants.{Differ, Same}
pub use Rattle.rv_machine.specs.declared.stops.Stop.{Stop}
pub use Rattle.rv_machine.specs.declared.stops.Stop.TheVariants.{AccessFault, Break, Budget, Ecall, Illegal}
pub use Rattle.rv_machine.specs.declared.stops.Stop.TheVariants.{Misaligned, RecorderRefused}
pub use Rattle.language.specs.Evaluation.{body_run, call_run, continued, ended, export_run, program_run, return_run}
pub use Rattle.language.specs.Evaluation.{right_run, Run, run, run_all, Runnable, runnable, runnables, value, values}
unfoldable pub use Rattle.language.specs.Evaluation.{andthen, inside, tick}
pub use Rattle.language.specs.FirstViolation.{IsFirst, IsNamed, IsNoLaterThan, IsRefusedFor, IsToldOf, TellsOf}
pub use Rattle.language.specs.Grammatical.{AreAllSmall, ArePlain, IsGrammatical, IsPlain, IsSmallRight}
pub use Rattle.language.specs.Known.{first_known, Known, known_from, known_of, nothing_known, with_known}
pub use Rattle.language.specs.Limits.{most_bodies, most_nodes}
pub use Rattle.language.specs.Meaning.{counting, Ending, exported, faults, Gives, gives, holding, is_word}
pub use Rattle.language.specs.Meaning.{word_arguments}
pub use Rattle.language.specs.Results.{Results}
pub use Rattle.language.specs.Rules.{rank_of, refusal_text}
pub use Rattle.language.specs.Shares.{cost_of, excess, sum_of}
pub use Rattle.language.specs.Size.{array_words, bodies_of, element_bytes, extents_of, nodes_in, nodes_in_all}
pub use Rattle.language.specs.Size.{nodes_of, nodes_passed, return_nodes, return_shares, size_violations}
pub use Rattle.language.specs.Sooner.{sooner}
pub use Rattle.language.specs.State.{single}
pub use Rattle.language.specs.Tree.{array, assignment, binary, BlockTree, call, called, CallTree, computed}
pub use Rattle.language.specs.Tree.{conditional, convert, declaration, element, element_assignment, ExprTree, first}
pub use Rattle.language.specs.Tree.{loop, name, nothing, number, ParameterTree, place_of, prefix, ProcedureTree}
pub use Rattle.language.specs.Tree.{program_tree, ProgramTree, ReturnTree, RightTree, rotate, select, StatementTree}
pub use Rattle.language.specs.Tree.{truth, written}
pub use Rattle.language.specs.Types.{asked_of_one, asked_of_three, asked_of_two, at, because, because_of, callee}
pub use Rattle.language.specs.Types.{declared, declared_at, empty, found, kind_of, label_of, label_under, of_one}
pub use Rattle.language.specs.Types.{of_two, Scope, variable, when}
pub use Rattle.language.specs.Typing.{arguments_violations, array_violations, assignment_violations, block_violations}
pub use Rattle.language.specs.Typing.{body_scope, bounds_rules, call_violations, called_one, change_violations}
pub use Rattle.language.specs.Typing.{clash_violations, condition_rules, control_rules, control_violations}
pub use Rattle.language.specs.Typing.{count_violations, counter_as, declaration_control_violations}
pub use Rattle.language.specs.Typing.{declaration_violations, element_assignment_violations, export_place}
pub use Rattle.language.specs.Typing.{export_violations, exports, first_clash, known_call_violations}
pub use Rattle.language.specs.Typing.{missing_violations, parameter_as, parameter_violations, Passed}
pub use Rattle.language.specs.Typing.{passed_violations, procedure_violations, procedures_violations, result_value}
pub use Rattle.language.specs.Typing.{return_violations, returned_violations, right_typed, right_violations}
pub use Rattle.language.specs.Typing.{scope_after, scope_after_all, statement_violations, too_many, value_rules}
pub use Rattle.language.specs.Typing.{value_violations, values_violations, violations, with_parameters}
pub use Rattle.language.specs.Typing.{with_procedure}
pub use Rattle.language.specs.WantOfMemory.{IsWantOfMemory}
pub use Rattle.language.specs.arguments.Agreement.{Agree}
pub use Rattle.language.specs.arguments.Faults.{count_fault, fault_of, rule_of, shifted}
pub use Rattle.language.specs.arguments.PublicResults.{AgreeInPublic}
pub use Rattle.language.specs.arguments.Within.{AreWithin, HasShape, words_of}
pub use Rattle.language.specs.declared.arguments.fault.ArgumentFault.{ArgumentFault}
pub use Rattle.language.specs.declared.refusal.Refusal.{Refusal}
pub use Rattle.language.specs.declared.rule.Rule.{Rule}
pub use Rattle.language.specs.declared.rule.Rule.TheVariants.{ArgumentCount, ArrayPassedTwice, ArrayShapeOrLabel}
pub use Rattle.language.specs.declared.rule.Rule.TheVariants.{BadNumber, CallAssignsPublicUnderSecretControl}
pub use Rattle.language.specs.declared.rule.Rule.TheVariants.{DeclaredBytes, DivisorMayBeZero, IndexOutOfRange}
pub use Rattle.language.specs.declared.rule.Rule.TheVariants.{InitialiserCount, InlinedSize, LiteralOutOfRange}
pub use Rattle.language.specs.declared.rule.Rule.TheVariants.{NameDeclaredTwice, Nesting, NotExactlyOneExport}
pub use Rattle.language.specs.declared.rule.Rule.TheVariants.{NotMutable, OutOfMemory, ProcedureNotDeclaredEarlier}
pub use Rattle.language.specs.declared.rule.Rule.TheVariants.{PublicAssignedUnderSecretControl, ReturnMismatch}
pub use Rattle.language.specs.declared.rule.Rule.TheVariants.{SecretBound, SecretDivisionOperand, SecretIndex}
pub use Rattle.language.specs.declared.rule.Rule.TheVariants.{SecretMultiplicationOperand, SecretToPublic}
pub use Rattle.language.specs.declared.rule.Rule.TheVariants.{TextTooLong, TooMuchWork, UndeclaredName}
pub use Rattle.language.specs.declared.rule.Rule.TheVariants.{UnexpectedToken, UnknownCharacter, WidthsDiffer}
pub use Rattle.language.specs.declared.rule.Rule.TheVariants.{WrongKind}
pub use Rattle.language.specs.declared.signature.Form.{Form}
pub use Rattle.language.specs.declared.signature.Form.TheVariants.{FixedArray, MutableArray, SingleWord}
pub use Rattle.language.specs.declared.signature.Kind.{Kind}
pub use Rattle.language.specs.declared.signature.Kind.TheVariants.{Boolean}
pub use Rattle.language.specs.declared.signature.Label.{Label}
pub use Rattle.language.specs.declared.signature.Param.{Param}
pub use Rattle.language.specs.declared.typing.Callee.{Callee}
pub use Rattle.language.specs.declared.typing.ValueType.{ValueType}
pub use Rattle.language.specs.declared.typing.Violation.{Violation}
pub use Rattle.language.specs.declared.typing.WordType.{WordType}
pub use Rattle.language.specs.declared.values.Arg.{Arg}
pub use Rattle.language.specs.declared.values.Arg.TheVariants.{Array, Word}
pub use Rattle.language.specs.declared.why.Counted.TheVariants.{Work}
pub use Rattle.language.specs.declared.why.Share.{Share}
pub use Rattle.language.specs.declared.why.Why.TheVariants.{Plain, TooMuch}
pub use Rattle.findings.specs.Order.{AreInOrder}
pub use Rattle.findings.specs.Passes.{first_found}
pub use Rattle.inline.specs.Flat.{assign, branch, chain, declaration_of, declare, FlatBlock, FlatProgram, FlatTree}
pub use Rattle.inline.specs.Flat.{hold, length_of, put, skip, TermTree, word_as}
pub use Rattle.inline.specs.FlatMeaning.{after, after_all, given, outcome_of, value_in, Values}
pub use Rattle.inline.specs.FlatSize.{term_nodes, terms_nodes, value_nodes}
pub use Rattle.inline.specs.FlatTyping.{counter_type, IsTypedFlat, parameter_types, Types, types_after_all}
pub use Rattle.inline.specs.Numbering.{begun, block, call_block, call_names, call_result, call_start, call_value}
pub use Rattle.inline.specs.Numbering.{call_variables, Callable, callable, Callables, callables, declared_in_all}
pub use Rattle.inline.specs.Numbering.{dropped_block, element_block, flattened, label_in, names_after}
pub use Rattle.inline.specs.Numbering.{names_after_all, naming, Numbers, numbers_taken, numbers_taken_all, param_of}
pub use Rattle.inline.specs.Numbering.{parameter_names, passed, passed_variables, return_names, return_place, right}
pub use Rattle.inline.specs.Numbering.{right_block, size_of, statement, stretches, term, value_given, value_of}
pub use Rattle.inline.specs.declared.flat.FlatVariable.{FlatVariable}
pub use Rattle.intervals.specs.Evaluated.{evaluated_all, evaluated_by, evaluated_in_iterations}
pub use Rattle.intervals.specs.Intervals.{Bounds, interval, with_bound}
pub use Rattle.intervals.specs.Limits.{most_work}
pub use Rattle.intervals.specs.Narrowing.{where_false, where_true}
pub use Rattle.intervals.specs.Ranged.{RangedProgram}
pub use Rattle.intervals.specs.Ranges.{bound_of, bounds_after, bounds_after_all, first_bounds, in_loop}
pub use Rattle.intervals.specs.Ranges.{index_violations, most_iterations, range_violations, result_violations}
pub use Rattle.intervals.specs.Ranges.{term_violations, terms_violations, iterations_of, violations_all}
pub use Rattle.intervals.specs.Work.{body_work, cost_by, first_of, IsRefusedByRanges, IsToldByRanges, ranged}
pub use Rattle.intervals.specs.Work.{shares_by, stretch_shares, tree_work, value_shares, work_of}
unfoldable pub use Rattle.branch_removal.specs.Exact.{straight_of}
pub use Rattle.branch_removal.specs.Removed.{IsRemoved}
pub use Rattle.branch_removal.specs.Straight.{StraightProgram}
pub use Rattle.branch_removal.specs.StraightMeaning.{path_of}
pub use Rattle.inline.specs.Path.{AreFine, Path, seen}
pub use Rattle.codegen.specs.Anywhere.{BodyRun, IsLoaded, IsPlaced, RunsBehind}
pub use Rattle.codegen.specs.Bases.{AreBases, IsInside}
pub use Rattle.codegen.specs.Followed.{IsGenerated, RunsAs}
pub use Rattle.codegen.specs.Loaded.{array_in, arrays_in, code_at, loaded_at, numbers_at, params_of, results_in}
pub use Rattle.codegen.specs.Loaded.{with_argument, with_arguments, with_numbers}
pub use Rattle.expression_code.specs.image_fields.Fields.{Fields, IsImage, slot_bytes, slot_end, slots_end, type_in}
pub use Rattle.expression_code.specs.image_fields.Limits.{most_frame_bytes, most_parameters}
pub use Rattle.expression_code.specs.declared.image_fields.slot.Slot.{Slot}
pub use Rattle.tokens.specs.Lexeme.{Lexeme}
pub use Rattle.tokens.specs.Spelling.{bad_number, is_blank, is_line_feed, is_word_byte, IsNumber, keyword}
pub use Rattle.tokens.specs.Spelling.{keyword_text, sign_text, suffix_text, WritesValue}
pub use Rattle.tokens.specs.Tokens.{at_bad_number, at_end, at_unknown_character, BeginsWith, BeginsWithNone, ends_at}
pub use Rattle.tokens.specs.Tokens.{Lexes, LexesFrom, next_place, past_space, past_token, place_after}
pub use Rattle.tokens.specs.declared.lexer.piece.Piece.{Piece}
pub use Rattle.tokens.specs.declared.lexer.piece.Piece.TheVariants.{Space, Token}
pub use Rattle.tokens.specs.declared.token.TokenKind.{TokenKind}
pub use Rattle.tokens.specs.declared.token.TokenKind.TheVariants.{Keyword, Name, Number, Sign}
pub use Rattle.syntax.specs.Beginning.{a_phrase, a_token, AreByCases, Begins, BeginsParts, by_case, in_case}
pub use Rattle.syntax.specs.Beginning.{in_phrase, no_part, no_token, past_phrase, Whole, WholeParts}
pub use Rattle.syntax.specs.Cases.{all, any_amount, any_conversion, any_label, any_length, any_number, any_prefix}
pub use Rattle.syntax.specs.Cases.{any_word, Case, IsOne, of_kind, one, CasePart, Phrase, procedures, Single}
pub use Rattle.syntax.specs.Grammar.{a_program, ParsesArguments, ParsesArrayType, ParsesBlock, ParsesBodyEnd}
pub use Rattle.syntax.specs.Grammar.{ParsesCall, ParsesConditional, ParsesExported, ParsesExprAt, ParsesFirstValues}
pub use Rattle.syntax.specs.Grammar.{IsBeginning, IsProgram, ParsesMoreExprs, ParsesMoreParameters, ParsesMutable}
pub use Rattle.syntax.specs.Grammar.{operator_of, ParsesOtherwise, ParsesParameter, ParsesParameters, ParsesProcedure}
pub use Rattle.syntax.specs.Grammar.{ParsesProcedures, ParsesResultType, ParsesRightSide, ParsesSomeExprs}
pub use Rattle.syntax.specs.Grammar.{ParsesStatement, ParsesStatements}
pub use Rattle.syntax.specs.Reading.{accepted, ParseAnswer, IsParseAnswer, by_tokens, IsRefusedAs, OneAnswer, Reads}
pub use Rattle.syntax.specs.Reading.{refused, too_long}
pub use Rattle.source_eval.specs.Answer.{answer, found_params, judged_answer, run_answer}
pub use Rattle.image.specs.Reading.{AreBytes, Spells}
