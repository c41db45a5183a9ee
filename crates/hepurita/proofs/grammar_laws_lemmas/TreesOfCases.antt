-- What the cases of the grammar make has a tree.
use Rattle.std.proofs.Common.{◌≡◌, ℕ, Bool, List, [], ◌∷◌, Option, ap, ◌∙◌}
use Rattle.hepurita.specs.Below.{a_phrase, a_token, all, ParsesArguments, ParsesArrayType, ParsesBlock, BlockTree}
use Rattle.hepurita.specs.Below.{ParsesBodyEnd, by_case, ParsesCall, CallTree, Case, ParsesConditional, ParsesExported}
use Rattle.hepurita.specs.Below.{ParsesExprAt, ExprTree, ParsesFirstValues, IsOne, Kind, Lexeme, ParsesMoreExprs}
use Rattle.hepurita.specs.Below.{ParsesMoreParameters, ParsesMutable, no_part, one, operator_of, ParsesOtherwise}
use Rattle.hepurita.specs.Below.{ParsesParameter}
use Rattle.hepurita.specs.Below.{ParsesParameters, ParameterTree, CasePart, Phrase, Place, ParsesProcedure}
use Rattle.hepurita.specs.Below.{ParsesProcedures, ProcedureTree, ParsesResultType, ReturnTree, ParsesRightSide}
use Rattle.hepurita.specs.Below.{RightTree, Single, ParsesSomeExprs, ParsesStatement, ParsesStatements, StatementTree}
use Rattle.hepurita.specs.Below.{Whole, WholeParts, WordType}
use Rattle.syntax.specs.Cases as cases
use Rattle.syntax.specs.Grammar as grammar

infixr 50 ◌▸◌
infixr 50 ◌▹◌
-- the phrase that the tokens up to the rest are, with a tree
abbrev pub HasTree : Phrase → List Lexeme → List Lexeme → Type 0
HasTree (cases.expr level) tokens rest = (tree : ExprTree) × ParsesExprAt level tokens tree rest
HasTree (cases.more_exprs end) tokens rest = (trees : List ExprTree) × ParsesMoreExprs end tokens trees rest
HasTree (cases.expr_list end) tokens rest = (trees : List ExprTree) × ParsesSomeExprs end tokens trees rest
HasTree cases.arguments tokens rest = (trees : List ExprTree) × ParsesArguments tokens trees rest
HasTree cases.call tokens rest = (tree : CallTree) × ParsesCall tokens tree rest
HasTree cases.right_side tokens rest = (tree : RightTree) × ParsesRightSide tokens tree rest
HasTree cases.mutable tokens rest = (is : Bool) × ParsesMutable tokens is rest
HasTree cases.array_type tokens rest = (kind : Kind) × (length : ℕ) × ParsesArrayType tokens kind length rest
HasTree cases.first_values tokens rest = (trees : Option (List ExprTree)) × ParsesFirstValues tokens trees rest
HasTree cases.statement tokens rest = (tree : StatementTree) × ParsesStatement tokens tree rest
HasTree cases.conditional tokens rest = (tree : StatementTree) × ParsesConditional tokens tree rest
HasTree cases.statements tokens rest = (trees : BlockTree) × ParsesStatements tokens trees rest
HasTree cases.block tokens rest = (trees : BlockTree) × ParsesBlock tokens trees rest
HasTree cases.otherwise tokens rest = (trees : BlockTree) × ParsesOtherwise tokens trees rest
HasTree cases.parameter tokens rest = (tree : ParameterTree) × ParsesParameter tokens tree rest
HasTree cases.more_parameters tokens rest = (trees : List ParameterTree) × ParsesMoreParameters tokens trees rest
HasTree cases.parameters tokens rest = (trees : List ParameterTree) × ParsesParameters tokens trees rest
HasTree cases.result_type tokens rest = (result : Option WordType) × ParsesResultType tokens result rest
HasTree cases.body_end tokens rest = (returned : Option ReturnTree) × ParsesBodyEnd tokens returned rest
HasTree cases.exported tokens rest = (export : Option Place) × ParsesExported tokens export rest
HasTree cases.procedure tokens rest = (tree : ProcedureTree) × ParsesProcedure tokens tree rest
HasTree cases.procedures tokens rest = rest ≡ [] → (trees : List ProcedureTree) × ParsesProcedures tokens trees

-- the parts of a case, each phrase with its tree
data HaveTrees : List CasePart → List Lexeme → List Lexeme → Type 0 where
  done : {rest : List Lexeme} → HaveTrees [] rest rest
  ◌▸◌ : {single : Single} {parts : List CasePart} {t : Lexeme} {tokens rest : List Lexeme} → IsOne single t
      → HaveTrees parts tokens rest → HaveTrees (one single ∷ parts) (t ∷ tokens) rest
  ◌▹◌ : {phrase : Phrase} {parts : List CasePart} {tokens second rest : List Lexeme}
      → HasTree phrase tokens second → HaveTrees parts second rest → HaveTrees (all phrase ∷ parts) tokens rest

case_tree : {phrase : Phrase} {parts : List CasePart} {tokens rest : List Lexeme} → Case phrase parts
    → HaveTrees parts tokens rest → HasTree phrase tokens rest
case_tree cases.a_number ((_, _, is) ▸ done) = (_, grammar.a_number is)
case_tree cases.a_true (is ▸ done) = (_, grammar.a_true is)
case_tree cases.a_false (is ▸ done) = (_, grammar.a_false is)
case_tree cases.a_name (is ▸ done) = (_, grammar.a_name is)
case_tree cases.an_element (is ▸ opens ▸ (_, in_index) ▹ closes ▸ done) =
    (_, grammar.an_element is opens in_index closes)
case_tree cases.in_brackets (opens ▸ (_, in_tree) ▹ closes ▸ done) = (_, grammar.in_brackets opens in_tree closes)
case_tree cases.a_conversion ((_, is) ▸ opens ▸ (_, in_tree) ▹ closes ▸ done) =
    (_, grammar.a_conversion is opens in_tree closes)
case_tree cases.a_select (is ▸ opens ▸ (_, in_a) ▹ is_comma ▸ (_, in_b) ▹ is_comma' ▸ (_, in_c) ▹ closes ▸ done) =
    (_, grammar.a_select is opens in_a is_comma in_b is_comma' in_c closes)
case_tree cases.a_prefix ((_, is) ▸ (_, in_operand) ▹ done) = (_, grammar.a_prefix is in_operand)
case_tree (cases.a_rotation at) ((_, in_operand) ▹ is ▸ (_, is_amount) ▸ done) =
    (_, grammar.a_rotation is at in_operand is_amount)
case_tree (cases.a_binary is at) ((_, in_left) ▹ same ▸ (_, in_right) ▹ done) =
    (_, grammar.a_binary (ap operator_of same ∙ is) at in_left in_right)
case_tree cases.no_more (is ▸ done) = (_, grammar.no_more is)
case_tree cases.one_more (is ▸ (_, in_tree) ▹ (_, in_trees) ▹ done) = (_, grammar.one_more is in_tree in_trees)
case_tree cases.some_exprs ((_, in_tree) ▹ (_, in_trees) ▹ done) = (_, grammar.some_exprs in_tree in_trees)
case_tree cases.no_arguments (is ▸ done) = (_, grammar.no_arguments is)
case_tree cases.some_arguments ((_, in_trees) ▹ done) = (_, grammar.some_arguments in_trees)
case_tree cases.a_call (is ▸ opens ▸ (_, in_arguments) ▹ done) = (_, grammar.a_call is opens in_arguments)
case_tree cases.a_call_value ((_, in_tree) ▹ done) = (_, grammar.a_call_value in_tree)
case_tree cases.a_value ((_, in_tree) ▹ done) = (_, grammar.a_value in_tree)
case_tree cases.no_mut done = (_, grammar.no_mut)
case_tree cases.a_mut (is ▸ done) = (_, grammar.a_mut is)
case_tree cases.an_array_type ((_, is) ▸ opens ▸ (_, is_length) ▸ closes ▸ done) =
    (_, _, grammar.an_array_type is opens is_length closes)
case_tree cases.no_values done = (_, grammar.no_values)
case_tree cases.some_values (is ▸ opens ▸ (_, in_trees) ▹ done) = (_, grammar.some_values is opens in_trees)
case_tree cases.a_declaration ((_, is) ▸ (_, in_mut) ▹ (_, is_kind) ▸ is_name ▸ is_equals ▸ (_, in_right) ▹ ends
    ▸ done) =
    (_, grammar.a_declaration is in_mut is_kind is_name is_equals in_right ends)
case_tree cases.an_array ((_, is) ▸ (_, in_mut) ▹ (_, _, in_type) ▹ is_name ▸ (_, in_values) ▹ ends ▸ done) =
    (_, grammar.an_array is in_mut in_type is_name in_values ends)
case_tree cases.an_assignment (is ▸ is_equals ▸ (_, in_right) ▹ ends ▸ done) =
    (_, grammar.an_assignment is is_equals in_right ends)
case_tree cases.an_element_assignment (is ▸ opens ▸ (_, in_index) ▹ closes ▸ is_equals ▸ (_, in_right) ▹ ends ▸ done) =
    (_, grammar.an_element_assignment is opens in_index closes is_equals in_right ends)
case_tree cases.a_call_statement ((_, in_call) ▹ ends ▸ done) = (_, grammar.a_call_statement in_call ends)
case_tree cases.a_conditional_statement ((_, in_tree) ▹ done) = (_, grammar.a_conditional_statement in_tree)
case_tree cases.a_loop (is ▸ opens ▸ is_word ▸ is_name ▸ is_from ▸ (_, in_low) ▹ is_to ▸ (_, in_high) ▹ closes
    ▸ (_, in_body) ▹ done) =
    (_, grammar.a_loop is opens is_word is_name is_from in_low is_to in_high closes in_body)
case_tree cases.a_conditional (is ▸ opens ▸ (_, in_condition) ▹ closes ▸ (_, in_arm) ▹ (_, in_otherwise) ▹ done) =
    (_, grammar.a_conditional is opens in_condition closes in_arm in_otherwise)
case_tree cases.no_statement done = (_, grammar.no_statement)
case_tree cases.one_statement ((_, in_tree) ▹ (_, in_trees) ▹ done) = (_, grammar.one_statement in_tree in_trees)
case_tree cases.a_block (opens ▸ (_, in_trees) ▹ closes ▸ done) = (_, grammar.a_block opens in_trees closes)
case_tree cases.no_else done = (_, grammar.no_else)
case_tree cases.an_else (is ▸ (_, in_arm) ▹ done) = (_, grammar.an_else is in_arm)
case_tree cases.an_else_if (is ▸ (_, in_tree) ▹ done) = (_, grammar.an_else_if is in_tree)
case_tree cases.a_word ((_, is) ▸ (_, is_kind) ▸ is_name ▸ done) = (_, grammar.a_word is is_kind is_name)
case_tree cases.a_fixed_array ((_, is) ▸ (_, _, in_type) ▹ is_name ▸ done) =
    (_, grammar.a_fixed_array is in_type is_name)
case_tree cases.a_mutable_array ((_, is) ▸ is_mut ▸ (_, _, in_type) ▹ is_name ▸ done) =
    (_, grammar.a_mutable_array is is_mut in_type is_name)
case_tree cases.no_more_parameters (is ▸ done) = (_, grammar.no_more_parameters is)
case_tree cases.one_more_parameter (is ▸ (_, in_tree) ▹ (_, in_trees) ▹ done) =
    (_, grammar.one_more_parameter is in_tree in_trees)
case_tree cases.no_parameters (is ▸ done) = (_, grammar.no_parameters is)
case_tree cases.some_parameters ((_, in_tree) ▹ (_, in_trees) ▹ done) = (_, grammar.some_parameters in_tree in_trees)
case_tree cases.a_void (is ▸ done) = (_, grammar.a_void is)
case_tree cases.a_type ((_, is) ▸ (_, is_kind) ▸ done) = (_, grammar.a_type is is_kind)
case_tree cases.no_return (is ▸ done) = (_, grammar.no_return is)
case_tree cases.a_return (is ▸ (_, in_tree) ▹ ends ▸ closes ▸ done) = (_, grammar.a_return is in_tree ends closes)
case_tree cases.not_exported done = (_, grammar.not_exported)
case_tree cases.an_export (is ▸ done) = (_, grammar.an_export is)
case_tree cases.a_procedure ((_, in_export) ▹ (_, in_result) ▹ is ▸ opens ▸ (_, in_parameters) ▹ opens'
    ▸ (_, in_body) ▹ (_, in_end) ▹ done) =
    (_, grammar.a_procedure in_export in_result is opens in_parameters opens' in_body in_end)
case_tree cases.no_procedure done = λ is. ([], rw is grammar.no_procedure)
case_tree cases.one_procedure ((_, in_tree) ▹ in_trees ▹ done) =
    λ is. let others = in_trees is in (_, grammar.one_procedure in_tree others.1)

mutual
  -- what is whole has a tree
  pub tree_of : {phrase : Phrase} {tokens rest : List Lexeme} → Whole phrase tokens rest → HasTree phrase tokens rest
  tree_of (by_case c whole) = case_tree c (trees_of whole)

  trees_of : {parts : List CasePart} {tokens rest : List Lexeme} → WholeParts parts tokens rest
      → HaveTrees parts tokens rest
  trees_of no_part = done
  trees_of (a_token is more) = is ▸ trees_of more
  trees_of (a_phrase whole more) = tree_of whole ▹ trees_of more
