-- What the grammar gives a tree is made by its cases, and the tree's heads are tokens of the source.
use Rattle.std.proofs.Common.{ℕ, ◌+◌, ◌≤◌, Bool, List, [], ◌∷◌, Option, refl, arith}
use Rattle.hepurita.specs.Below.{a_phrase, a_token, all, ParsesArguments, ParsesArrayType, ParsesBlock, BlockTree}
use Rattle.hepurita.specs.Below.{ParsesBodyEnd, by_case, ParsesCall, CallTree, Case, ParsesConditional, ParsesExported}
use Rattle.hepurita.specs.Below.{ParsesExprAt, ExprTree, ParsesFirstValues, IsOne, IsProgram, Kind, Lexeme}
use Rattle.hepurita.specs.Below.{ParsesMoreExprs, ParsesMoreParameters, ParsesMutable, no_part, one, ParsesOtherwise}
use Rattle.hepurita.specs.Below.{ParsesParameter, ParsesParameters, ParameterTree, CasePart, Phrase, Place}
use Rattle.hepurita.specs.Below.{ParsesProcedure, ParsesProcedures, ProcedureTree, ProgramTree, ParsesResultType}
use Rattle.hepurita.specs.Below.{ReturnTree, ParsesRightSide, RightTree, Single, ParsesSomeExprs, ParsesStatement}
use Rattle.hepurita.specs.Below.{ParsesStatements, StatementTree, TokenKind, Whole, WholeParts, WordType}
use Rattle.syntax.specs.Cases as cases
use Rattle.syntax.specs.Grammar as grammar
use Rattle.hepurita.specs.grammar_laws.Heads.{in_expr, in_exprs, in_values, in_call, in_right, in_statement}
use Rattle.hepurita.specs.grammar_laws.Heads.{in_block, in_parameters, in_return, in_export, in_procedure}
use Rattle.hepurita.specs.grammar_laws.Heads.{in_procedures, in_program}

infixr 50 ◌▸◌
infixr 50 ◌▹◌
-- the weights of the tokens' places, summed
abbrev pub among : (Place → ℕ) → List Lexeme → ℕ
among w [] = 0
among w (t ∷ tokens) = w t.place + among w tokens

abbrev Heads : Type 0
Heads = (Place → ℕ) → ℕ

-- the tokens up to the rest are a whole phrase, and these heads are among them
pub record Walked (phrase : Phrase) (tokens rest : List Lexeme) (heads : Heads) : Type 0 where
  pub whole : Whole phrase tokens rest
  pub heads_in : (w : Place → ℕ) → heads w + among w rest ≤ among w tokens

-- a token and the parts behind it, or a phrase and the parts behind it
data PartsWithHeads : List CasePart → List Lexeme → List Lexeme → Heads → Type 0 where
  done : {rest : List Lexeme} → PartsWithHeads [] rest rest (λ w. 0)
  ◌▸◌ : {single : Single} {parts : List CasePart} {t : Lexeme} {tokens rest : List Lexeme} {heads : Heads}
      → IsOne single t → PartsWithHeads parts tokens rest heads
      → PartsWithHeads (one single ∷ parts) (t ∷ tokens) rest (λ w. w t.place + heads w)
  ◌▹◌ : {phrase : Phrase} {parts : List CasePart} {tokens second rest : List Lexeme} {own heads : Heads}
      → Walked phrase tokens second own → PartsWithHeads parts second rest heads
      → PartsWithHeads (all phrase ∷ parts) tokens rest (λ w. own w + heads w)

whole_parts : {parts : List CasePart} {tokens rest : List Lexeme} {heads : Heads}
    → PartsWithHeads parts tokens rest heads
    → WholeParts parts tokens rest
whole_parts done = no_part
whole_parts (is ▸ parts) = a_token is (whole_parts parts)
whole_parts (phrase ▹ parts) = a_phrase phrase.whole (whole_parts parts)

parts_in : {parts : List CasePart} {tokens rest : List Lexeme} {heads : Heads} → PartsWithHeads parts tokens rest heads
    → (w : Place → ℕ) → heads w + among w rest ≤ among w tokens
parts_in done w = omega arith
parts_in (is ▸ parts) w = omega (arith, parts_in parts w)
parts_in (phrase ▹ parts) w = omega (arith, phrase.heads_in w, parts_in parts w)

by : {phrase : Phrase} {parts : List CasePart} {tokens rest : List Lexeme} {own heads : Heads} → Case phrase parts
    → PartsWithHeads parts tokens rest heads → ((w : Place → ℕ) → own w ≤ heads w) → Walked phrase tokens rest own
by c parts fewer = record {
  whole = by_case c (whole_parts parts);
  heads_in = λ w. omega (arith, parts_in parts w, fewer w);
}

expr : {level : ℕ} {tokens rest : List Lexeme} {tree : ExprTree} → ParsesExprAt level tokens tree rest
    → Walked (cases.expr level) tokens rest (λ w. in_expr w tree)
expr (grammar.a_number is) = by cases.a_number ((_, _, is) ▸ done) (λ w. omega arith)
expr (grammar.a_true is) = by cases.a_true (is ▸ done) (λ w. omega arith)
expr (grammar.a_false is) = by cases.a_false (is ▸ done) (λ w. omega arith)
expr (grammar.a_name is) = by cases.a_name (is ▸ done) (λ w. omega arith)
expr (grammar.an_element is opens in_index closes) =
    by cases.an_element (is ▸ opens ▸ expr in_index ▹ closes ▸ done) (λ w. omega arith)
expr (grammar.in_brackets opens in_tree closes) =
    by cases.in_brackets (opens ▸ expr in_tree ▹ closes ▸ done) (λ w. omega arith)
expr (grammar.a_conversion is opens in_tree closes) =
    by cases.a_conversion ((_, is) ▸ opens ▸ expr in_tree ▹ closes ▸ done) (λ w. omega arith)
expr (grammar.a_select is opens in_a is_comma in_b is_comma' in_c closes) =
    by cases.a_select (is ▸ opens ▸ expr in_a ▹ is_comma ▸ expr in_b ▹ is_comma' ▸ expr in_c ▹ closes
    ▸ done) (λ w. omega arith)
expr (grammar.a_prefix is in_operand) = by cases.a_prefix ((_, is) ▸ expr in_operand ▹ done) (λ w. omega arith)
expr (grammar.a_rotation is at in_operand is_amount) =
    by (cases.a_rotation at) (expr in_operand ▹ is ▸ (_, is_amount) ▸ done) (λ w. omega arith)
expr (grammar.a_binary is at in_left in_right) =
    by (cases.a_binary is at) (expr in_left ▹ refl ▸ expr in_right ▹ done) (λ w. omega arith)

more_exprs : {end : TokenKind} {tokens rest : List Lexeme} {trees : List ExprTree}
    → ParsesMoreExprs end tokens trees rest
    → Walked (cases.more_exprs end) tokens rest (λ w. in_exprs w trees)
more_exprs (grammar.no_more is) = by cases.no_more (is ▸ done) (λ w. omega arith)
more_exprs (grammar.one_more is in_tree in_trees) =
    by cases.one_more (is ▸ expr in_tree ▹ more_exprs in_trees ▹ done) (λ w. omega arith)

expr_list : {end : TokenKind} {tokens rest : List Lexeme} {trees : List ExprTree}
    → ParsesSomeExprs end tokens trees rest
    → Walked (cases.expr_list end) tokens rest (λ w. in_exprs w trees)
expr_list (grammar.some_exprs in_tree in_trees) =
    by cases.some_exprs (expr in_tree ▹ more_exprs in_trees ▹ done) (λ w. omega arith)

arguments : {tokens rest : List Lexeme} {trees : List ExprTree} → ParsesArguments tokens trees rest
    → Walked cases.arguments tokens rest (λ w. in_exprs w trees)
arguments (grammar.no_arguments is) = by cases.no_arguments (is ▸ done) (λ w. omega arith)
arguments (grammar.some_arguments in_trees) = by cases.some_arguments (expr_list in_trees ▹ done) (λ w. omega arith)

call : {tokens rest : List Lexeme} {tree : CallTree} → ParsesCall tokens tree rest
    → Walked cases.call tokens rest (λ w. in_call w tree)
call (grammar.a_call is opens in_arguments) =
    by cases.a_call (is ▸ opens ▸ arguments in_arguments ▹ done) (λ w. omega arith)

right_side : {tokens rest : List Lexeme} {tree : RightTree} → ParsesRightSide tokens tree rest
    → Walked cases.right_side tokens rest (λ w. in_right w tree)
right_side (grammar.a_call_value in_tree) = by cases.a_call_value (call in_tree ▹ done) (λ w. omega arith)
right_side (grammar.a_value in_tree) = by cases.a_value (expr in_tree ▹ done) (λ w. omega arith)

mutable : {tokens rest : List Lexeme} {is : Bool} → ParsesMutable tokens is rest → Walked cases.mutable tokens rest
    (λ w. 0)
mutable grammar.no_mut = by cases.no_mut done (λ w. omega arith)
mutable (grammar.a_mut is) = by cases.a_mut (is ▸ done) (λ w. omega arith)

array_type : {tokens rest : List Lexeme} {kind : Kind} {length : ℕ} → ParsesArrayType tokens kind length rest
    → Walked cases.array_type tokens rest (λ w. 0)
array_type (grammar.an_array_type is opens is_length closes) =
    by cases.an_array_type ((_, is) ▸ opens ▸ (_, is_length) ▸ closes ▸ done) (λ w. omega arith)

first_values : {tokens rest : List Lexeme} {trees : Option (List ExprTree)} → ParsesFirstValues tokens trees rest
    → Walked cases.first_values tokens rest (λ w. in_values w trees)
first_values grammar.no_values = by cases.no_values done (λ w. omega arith)
first_values (grammar.some_values is opens in_trees) =
    by cases.some_values (is ▸ opens ▸ expr_list in_trees ▹ done) (λ w. omega arith)

mutual
  statement : {tokens rest : List Lexeme} {tree : StatementTree} → ParsesStatement tokens tree rest
      → Walked cases.statement tokens rest (λ w. in_statement w tree)
  statement (grammar.a_declaration is in_mut is_kind is_name is_equals in_right ends) =
      by cases.a_declaration ((_, is) ▸ mutable in_mut ▹ (_, is_kind) ▸ is_name ▸ is_equals ▸ right_side in_right
      ▹ ends ▸ done) (λ w. omega arith)
  statement (grammar.an_array is in_mut in_type is_name in_values ends) =
      by cases.an_array ((_, is) ▸ mutable in_mut ▹ array_type in_type ▹ is_name ▸ first_values in_values ▹ ends
      ▸ done) (λ w. omega arith)
  statement (grammar.an_assignment is is_equals in_right ends) =
      by cases.an_assignment (is ▸ is_equals ▸ right_side in_right ▹ ends ▸ done) (λ w. omega arith)
  statement (grammar.an_element_assignment is opens in_index closes is_equals in_right ends) =
      by cases.an_element_assignment (is ▸ opens ▸ expr in_index ▹ closes ▸ is_equals ▸ right_side in_right ▹ ends
      ▸ done) (λ w. omega arith)
  statement (grammar.a_call_statement in_call ends) =
      by cases.a_call_statement (call in_call ▹ ends ▸ done) (λ w. omega arith)
  statement (grammar.a_conditional_statement in_tree) =
      by cases.a_conditional_statement (conditional in_tree ▹ done) (λ w. omega arith)
  statement (grammar.a_loop is opens is_word is_name is_from in_low is_to in_high closes in_body) =
      by cases.a_loop (is ▸ opens ▸ is_word ▸ is_name ▸ is_from ▸ expr in_low ▹ is_to ▸ expr in_high ▹ closes
      ▸ block in_body ▹ done) (λ w. omega arith)

  conditional : {tokens rest : List Lexeme} {tree : StatementTree} → ParsesConditional tokens tree rest
      → Walked cases.conditional tokens rest (λ w. in_statement w tree)
  conditional (grammar.a_conditional is opens in_condition closes in_arm in_otherwise) =
      by cases.a_conditional (is ▸ opens ▸ expr in_condition ▹ closes ▸ block in_arm ▹ otherwise in_otherwise
      ▹ done) (λ w. omega arith)

  statements : {tokens rest : List Lexeme} {trees : BlockTree} → ParsesStatements tokens trees rest
      → Walked cases.statements tokens rest (λ w. in_block w trees)
  statements grammar.no_statement = by cases.no_statement done (λ w. omega arith)
  statements (grammar.one_statement in_tree in_trees) =
      by cases.one_statement (statement in_tree ▹ statements in_trees ▹ done) (λ w. omega arith)

  block : {tokens rest : List Lexeme} {trees : BlockTree} → ParsesBlock tokens trees rest
      → Walked cases.block tokens rest (λ w. in_block w trees)
  block (grammar.a_block opens in_trees closes) =
      by cases.a_block (opens ▸ statements in_trees ▹ closes ▸ done) (λ w. omega arith)

  otherwise : {tokens rest : List Lexeme} {trees : BlockTree} → ParsesOtherwise tokens trees rest
      → Walked cases.otherwise tokens rest (λ w. in_block w trees)
  otherwise grammar.no_else = by cases.no_else done (λ w. omega arith)
  otherwise (grammar.an_else is in_arm) = by cases.an_else (is ▸ block in_arm ▹ done) (λ w. omega arith)
  otherwise (grammar.an_else_if is in_tree) = by cases.an_else_if (is ▸ conditional in_tree ▹ done) (λ w. omega arith)

parameter : {tokens rest : List Lexeme} {tree : ParameterTree} → ParsesParameter tokens tree rest
    → Walked cases.parameter tokens rest (λ w. w tree.place)
parameter (grammar.a_word is is_kind is_name) =
    by cases.a_word ((_, is) ▸ (_, is_kind) ▸ is_name ▸ done) (λ w. omega arith)
parameter (grammar.a_fixed_array is in_type is_name) =
    by cases.a_fixed_array ((_, is) ▸ array_type in_type ▹ is_name ▸ done) (λ w. omega arith)
parameter (grammar.a_mutable_array is is_mut in_type is_name) =
    by cases.a_mutable_array ((_, is) ▸ is_mut ▸ array_type in_type ▹ is_name ▸ done) (λ w. omega arith)

more_parameters : {tokens rest : List Lexeme} {trees : List ParameterTree} → ParsesMoreParameters tokens trees rest
    → Walked cases.more_parameters tokens rest (λ w. in_parameters w trees)
more_parameters (grammar.no_more_parameters is) = by cases.no_more_parameters (is ▸ done) (λ w. omega arith)
more_parameters (grammar.one_more_parameter is in_tree in_trees) =
    by cases.one_more_parameter (is ▸ parameter in_tree ▹ more_parameters in_trees ▹ done) (λ w. omega arith)

parameters : {tokens rest : List Lexeme} {trees : List ParameterTree} → ParsesParameters tokens trees rest
    → Walked cases.parameters tokens rest (λ w. in_parameters w trees)
parameters (grammar.no_parameters is) = by cases.no_parameters (is ▸ done) (λ w. omega arith)
parameters (grammar.some_parameters in_tree in_trees) =
    by cases.some_parameters (parameter in_tree ▹ more_parameters in_trees ▹ done) (λ w. omega arith)

result_type : {tokens rest : List Lexeme} {result : Option WordType} → ParsesResultType tokens result rest
    → Walked cases.result_type tokens rest (λ w. 0)
result_type (grammar.a_void is) = by cases.a_void (is ▸ done) (λ w. omega arith)
result_type (grammar.a_type is is_kind) = by cases.a_type ((_, is) ▸ (_, is_kind) ▸ done) (λ w. omega arith)

body_end : {tokens rest : List Lexeme} {returned : Option ReturnTree} → ParsesBodyEnd tokens returned rest
    → Walked cases.body_end tokens rest (λ w. in_return w returned)
body_end (grammar.no_return is) = by cases.no_return (is ▸ done) (λ w. omega arith)
body_end (grammar.a_return is in_tree ends closes) =
    by cases.a_return (is ▸ expr in_tree ▹ ends ▸ closes ▸ done) (λ w. omega arith)

exported : {tokens rest : List Lexeme} {place : Option Place} → ParsesExported tokens place rest
    → Walked cases.exported tokens rest (λ w. in_export w place)
exported grammar.not_exported = by cases.not_exported done (λ w. omega arith)
exported (grammar.an_export is) = by cases.an_export (is ▸ done) (λ w. omega arith)

procedure : {tokens rest : List Lexeme} {tree : ProcedureTree} → ParsesProcedure tokens tree rest
    → Walked cases.procedure tokens rest (λ w. in_procedure w tree)
procedure (grammar.a_procedure in_export in_result is opens in_parameters opens' in_body in_end) =
    by cases.a_procedure (exported in_export ▹ result_type in_result ▹ is ▸ opens ▸ parameters in_parameters
    ▹ opens' ▸ statements in_body ▹ body_end in_end ▹ done) (λ w. omega arith)

procedures : {tokens : List Lexeme} {trees : List ProcedureTree} → ParsesProcedures tokens trees
    → Walked cases.procedures tokens [] (λ w. in_procedures w trees)
procedures grammar.no_procedure = by cases.no_procedure done (λ w. omega arith)
procedures (grammar.one_procedure in_tree in_trees) =
    by cases.one_procedure (procedure in_tree ▹ procedures in_trees ▹ done) (λ w. omega arith)

pub program : {tokens : List Lexeme} {tree : ProgramTree} → IsProgram tokens tree
    → Walked cases.procedures tokens [] (λ w. in_program w tree)
program (grammar.a_program in_trees) = procedures in_trees
