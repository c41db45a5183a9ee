-- The grammar case by case, without trees: what stands one after another in each phrase. Grammar.antt has the same
-- cases with their trees, under the same names.
use Rattle.std.specs.Prelude.{◌≡◌, ℕ, ◌+◌, ◌≤◌, List, [], ◌∷◌, Option, Some}
use Rattle.syntax.specs.Below.{BinaryOperator, Kind, Label, PrefixOperator}
use Rattle.tokens.specs.declared.token.Keyword.{Keyword}
use Rattle.tokens.specs.declared.token.Keyword.TheVariants.{Export, Void, Mut, Uint32, True, False, If, Else, For}
use Rattle.tokens.specs.declared.token.Keyword.TheVariants.{From, To, Return, Select}
use Rattle.tokens.specs.declared.token.Sign.{Sign}
use Rattle.tokens.specs.declared.token.Sign.TheVariants.{RotateLeft, OpenRound, CloseRound, OpenCurly, CloseCurly}
use Rattle.tokens.specs.declared.token.Sign.TheVariants.{OpenSquare, CloseSquare, Comma, Semicolon, Assign}
use Rattle.tokens.specs.declared.token.Suffix.{Suffix}
use Rattle.tokens.specs.declared.token.TokenKind.{TokenKind}
use Rattle.tokens.specs.declared.token.TokenKind.TheVariants as token
use Rattle.syntax.specs.Grammar.{prefix_of, operator_of, level_of, left_level_of, rotation_level, prefix_level}
use Rattle.syntax.specs.Grammar.{label_of, word_of, conversion_of, amount_of, length_of}
use Rattle.tokens.specs.Lexeme.{Lexeme}

-- what one token may have to be
pub data Single : Type 0 where
  of_kind : TokenKind → Single
  any_number : Single
  any_amount : Single
  any_length : Single
  any_label : Single
  any_word : Single
  any_conversion : Single
  any_prefix : Single

-- the token is that
abbrev pub IsOne : Single → Lexeme → Type 0
IsOne (of_kind kind) t = t.kind ≡ kind
IsOne any_number t = (value : ℕ) × (suffix : Option Suffix) × (t.kind ≡ token.Number value suffix)
IsOne any_amount t = (amount : ℕ) × (amount_of t.kind ≡ Some amount)
IsOne any_length t = (length : ℕ) × (length_of t.kind ≡ Some length)
IsOne any_label t = (label : Label) × (label_of t.kind ≡ Some label)
IsOne any_word t = (kind : Kind) × (word_of t.kind ≡ Some kind)
IsOne any_conversion t = (kind : Kind) × (conversion_of t.kind ≡ Some kind)
IsOne any_prefix t = (operator : PrefixOperator) × (prefix_of t.kind ≡ Some operator)

-- the phrases that are made by cases
pub data Phrase : Type 0 where
  expr : (level : ℕ) → Phrase
  more_exprs : (end : TokenKind) → Phrase
  expr_list : (end : TokenKind) → Phrase
  arguments : Phrase
  call : Phrase
  right_side : Phrase
  mutable : Phrase
  array_type : Phrase
  first_values : Phrase
  statement : Phrase
  conditional : Phrase
  statements : Phrase
  block : Phrase
  otherwise : Phrase
  parameter : Phrase
  more_parameters : Phrase
  parameters : Phrase
  result_type : Phrase
  body_end : Phrase
  exported : Phrase
  procedure : Phrase
  procedures : Phrase

-- a part of a case
pub data CasePart : Type 0 where
  one : Single → CasePart
  all : Phrase → CasePart

abbrev pub sign : Sign → CasePart
sign mark = one (of_kind (token.Sign mark))

abbrev pub keyword : Keyword → CasePart
keyword word = one (of_kind (token.Keyword word))

abbrev pub name : CasePart
name = one (of_kind token.Name)

-- a phrase may be these parts, one after another
pub data Case : Phrase → List CasePart → Type 0 where
  -- an expression, in which no sign between operands, outside all brackets, binds below the level
  a_number : {level : ℕ} → Case (expr level) (one any_number ∷ [])
  a_true : {level : ℕ} → Case (expr level) (keyword True ∷ [])
  a_false : {level : ℕ} → Case (expr level) (keyword False ∷ [])
  a_name : {level : ℕ} → Case (expr level) (name ∷ [])
  an_element : {level : ℕ} → Case (expr level) (name ∷ sign OpenSquare ∷ all (expr 1) ∷ sign CloseSquare ∷ [])
  in_brackets : {level : ℕ} → Case (expr level) (sign OpenRound ∷ all (expr 1) ∷ sign CloseRound ∷ [])
  a_conversion : {level : ℕ}
      → Case (expr level) (one any_conversion ∷ sign OpenRound ∷ all (expr 1) ∷ sign CloseRound ∷ [])
  a_select : {level : ℕ}
      → Case (expr level) (keyword Select ∷ sign OpenRound ∷ all (expr 1) ∷ sign Comma ∷ all (expr 1) ∷ sign Comma
      ∷ all (expr 1) ∷ sign CloseRound ∷ [])
  a_prefix : {level : ℕ} → Case (expr level) (one any_prefix ∷ all (expr prefix_level) ∷ [])
  a_rotation : {level : ℕ} → level ≤ rotation_level
      → Case (expr level) (all (expr rotation_level) ∷ sign RotateLeft ∷ one any_amount ∷ [])
  a_binary : {level : ℕ} {kind : TokenKind} {operator : BinaryOperator} → operator_of kind ≡ Some operator
      → level ≤ level_of operator
      → Case (expr level) (all (expr (left_level_of operator)) ∷ one (of_kind kind)
      ∷ all (expr (level_of operator + 1)) ∷ [])
  -- what stands after an expression of a list, with the token that ends the list
  no_more : {end : TokenKind} → Case (more_exprs end) (one (of_kind end) ∷ [])
  one_more : {end : TokenKind} → Case (more_exprs end) (sign Comma ∷ all (expr 1) ∷ all (more_exprs end) ∷ [])
  -- expressions and that token
  some_exprs : {end : TokenKind} → Case (expr_list end) (all (expr 1) ∷ all (more_exprs end) ∷ [])
  -- arguments and the closing bracket
  no_arguments : Case arguments (sign CloseRound ∷ [])
  some_arguments : Case arguments (all (expr_list (token.Sign CloseRound)) ∷ [])
  -- a call
  a_call : Case call (name ∷ sign OpenRound ∷ all arguments ∷ [])
  -- a right side
  a_call_value : Case right_side (all call ∷ [])
  a_value : Case right_side (all (expr 1) ∷ [])
  -- `mut`, where it stands
  no_mut : Case mutable []
  a_mut : Case mutable (keyword Mut ∷ [])
  -- an array's kind and length
  an_array_type : Case array_type (one any_word ∷ sign OpenSquare ∷ one any_length ∷ sign CloseSquare ∷ [])
  -- an array's first values, where they are written
  no_values : Case first_values []
  some_values : Case first_values (sign Assign ∷ sign OpenCurly ∷ all (expr_list (token.Sign CloseCurly)) ∷ [])
  -- a statement
  a_declaration : Case statement (one any_label ∷ all mutable ∷ one any_word ∷ name ∷ sign Assign ∷ all right_side
      ∷ sign Semicolon ∷ [])
  an_array : Case statement (one any_label ∷ all mutable ∷ all array_type ∷ name ∷ all first_values
      ∷ sign Semicolon ∷ [])
  an_assignment : Case statement (name ∷ sign Assign ∷ all right_side ∷ sign Semicolon ∷ [])
  an_element_assignment : Case statement (name ∷ sign OpenSquare ∷ all (expr 1) ∷ sign CloseSquare ∷ sign Assign
      ∷ all right_side ∷ sign Semicolon ∷ [])
  a_call_statement : Case statement (all call ∷ sign Semicolon ∷ [])
  a_conditional_statement : Case statement (all conditional ∷ [])
  a_loop : Case statement (keyword For ∷ sign OpenRound ∷ keyword Uint32 ∷ name ∷ keyword From ∷ all (expr 1)
      ∷ keyword To ∷ all (expr 1) ∷ sign CloseRound ∷ all block ∷ [])
  -- a conditional
  a_conditional : Case conditional (keyword If ∷ sign OpenRound ∷ all (expr 1) ∷ sign CloseRound ∷ all block
      ∷ all otherwise ∷ [])
  -- statements in their order
  no_statement : Case statements []
  one_statement : Case statements (all statement ∷ all statements ∷ [])
  -- statements in curly brackets
  a_block : Case block (sign OpenCurly ∷ all statements ∷ sign CloseCurly ∷ [])
  -- the second arm, where there is one
  no_else : Case otherwise []
  an_else : Case otherwise (keyword Else ∷ all block ∷ [])
  an_else_if : Case otherwise (keyword Else ∷ all conditional ∷ [])
  -- a parameter
  a_word : Case parameter (one any_label ∷ one any_word ∷ name ∷ [])
  a_fixed_array : Case parameter (one any_label ∷ all array_type ∷ name ∷ [])
  a_mutable_array : Case parameter (one any_label ∷ keyword Mut ∷ all array_type ∷ name ∷ [])
  -- what stands after a parameter, with the closing bracket
  no_more_parameters : Case more_parameters (sign CloseRound ∷ [])
  one_more_parameter : Case more_parameters (sign Comma ∷ all parameter ∷ all more_parameters ∷ [])
  -- parameters and the closing bracket
  no_parameters : Case parameters (sign CloseRound ∷ [])
  some_parameters : Case parameters (all parameter ∷ all more_parameters ∷ [])
  -- the type of a result
  a_void : Case result_type (keyword Void ∷ [])
  a_type : Case result_type (one any_label ∷ one any_word ∷ [])
  -- `return` and the closing bracket of a body
  no_return : Case body_end (sign CloseCurly ∷ [])
  a_return : Case body_end (keyword Return ∷ all (expr 1) ∷ sign Semicolon ∷ sign CloseCurly ∷ [])
  -- `export`, where it stands
  not_exported : Case exported []
  an_export : Case exported (keyword Export ∷ [])
  -- a procedure
  a_procedure : Case procedure (all exported ∷ all result_type ∷ name ∷ sign OpenRound ∷ all parameters
      ∷ sign OpenCurly ∷ all statements ∷ all body_end ∷ [])
  -- procedures in their order
  no_procedure : Case procedures []
  one_procedure : Case procedures (all procedure ∷ all procedures ∷ [])
