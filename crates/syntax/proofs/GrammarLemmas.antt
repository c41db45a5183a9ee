-- A text's procedures have small numbers, kinds of numbers, and arrays with lengths.
use Rattle.std.proofs.Common.{Bool, inl, inr, ◌≡◌, ℕ, ◌^◌, ◌<◌, ◌&&◌, true, List, Contains, Option, Some, None, subst}
use Rattle.std.proofs.Common.{arith, refl}
use Rattle.std.proofs.lemmas.Bool.{cases_Bool}
use Rattle.std.proofs.lemmas.Bool.Decides.{nat_tests}
use Rattle.std.proofs.lemmas.List.Elements.{All-contains, All-from_recursion}
use Rattle.std.proofs.lemmas.Option.{none-some, same_Some}
use Rattle.std.specs.Prelude.{nat_le}
use Rattle.std.specs.List.{AllByRecursion}
use Rattle.tokens.specs.declared.lexer.piece.Piece.{Piece}
use Rattle.tokens.specs.declared.lexer.piece.Piece.TheVariants as piece
use Rattle.syntax.specs.Below.{AreAllSmall, ArePlain, AreSmall, AreSmallValues, BlockTree, CallTree, ExprTree, HasForm}
use Rattle.syntax.specs.Below.{IsArrayLength, IsGrammatical, IsNumberKind, IsPlain, IsSmallReturn, IsSmallRight, Kind}
use Rattle.syntax.specs.Below.{most_elements, ParameterTree, Place, ProcedureTree, ProgramTree, ReturnTree, RightTree}
use Rattle.syntax.specs.Below.{StatementTree}
use Rattle.tokens.specs.declared.token.TokenKind.{TokenKind}
use Rattle.tokens.specs.declared.token.TokenKind.TheVariants as token
use Rattle.tokens.specs.declared.token.Keyword.TheVariants.{Uint8 as Uint8Word, Uint16 as Uint16Word}
use Rattle.tokens.specs.declared.token.Keyword.TheVariants.{Uint32 as Uint32Word}
use Rattle.tokens.specs.declared.token.Suffix.{Suffix}
use Rattle.tokens.specs.declared.token.Suffix.TheVariants.{U8}
use Rattle.syntax.specs.Grammar.{conversion_of, suffix_kind, amount_of, is_length, length_of, ParsesExprAt, a_number}
use Rattle.syntax.specs.Grammar.{an_element, in_brackets, a_conversion, a_select, a_prefix, a_rotation, a_binary}
use Rattle.syntax.specs.Grammar.{ParsesMoreExprs, no_more, one_more, ParsesSomeExprs, some_exprs, ParsesArguments}
use Rattle.syntax.specs.Grammar.{no_arguments, some_arguments, ParsesCall, a_call, ParsesRightSide, a_call_value}
use Rattle.syntax.specs.Grammar.{a_value, ParsesMutable, no_mut, a_mut, ParsesArrayType, an_array_type}
use Rattle.syntax.specs.Grammar.{ParsesFirstValues, no_values, some_values, ParsesStatement, a_declaration, an_array}
use Rattle.syntax.specs.Grammar.{an_assignment, an_element_assignment, a_call_statement, a_conditional_statement}
use Rattle.syntax.specs.Grammar.{a_loop, ParsesConditional, a_conditional, ParsesStatements, no_statement}
use Rattle.syntax.specs.Grammar.{one_statement, ParsesBlock, a_block, ParsesOtherwise, no_else, an_else, an_else_if}
use Rattle.syntax.specs.Grammar.{ParsesParameter, a_word, a_fixed_array, a_mutable_array, ParsesMoreParameters}
use Rattle.syntax.specs.Grammar.{no_more_parameters, one_more_parameter, ParsesParameters, no_parameters}
use Rattle.syntax.specs.Grammar.{some_parameters, ParsesResultType, a_void, a_type, ParsesBodyEnd, no_return, a_return}
use Rattle.syntax.specs.Grammar.{ParsesExported, not_exported, an_export, ParsesProcedure, a_procedure}
use Rattle.syntax.specs.Grammar.{ParsesProcedures, no_procedure, one_procedure, a_program as a_program_rule}
use Rattle.tokens.specs.Lexeme.{Lexeme}
use Rattle.syntax.specs.Reading.{Reads, by_tokens, IsParseAnswer, a_program, accepted}
use Rattle.tokens.specs.Spelling as spelling
use Rattle.tokens.specs.Spelling.{Spells}
use Rattle.tokens.specs.Tokens.{TokensEnding, LexesFrom, past_space, past_token}

-- a number that a token writes is a word
abbrev IsSmallToken : TokenKind → Type 0
IsSmallToken (token.Number n suffix) = n < 2 ^ 32
IsSmallToken _ = Unit {0}

abbrev SmallTokens : List Lexeme → Type 0
SmallTokens tokens = AllByRecursion (λ (t : Lexeme). IsSmallToken t.kind) tokens

abbrev IsSmallPiece : Piece → Type 0
IsSmallPiece (piece.Token kind) = IsSmallToken kind
IsSmallPiece _ = Unit {0}

small_piece : (what : Piece) (bytes : List ℕ) → Spells what bytes → IsSmallPiece what
small_piece _ _ (spelling.number b n suffix h is) = is.small
small_piece _ _ _ = tt

small_tokens : {place : Place} {text : List ℕ} {tokens : List Lexeme} {end : TokensEnding}
    → LexesFrom place text tokens end
    → SmallTokens tokens
small_tokens (past_space begins more) = small_tokens more
small_tokens (past_token {spelling = front} {kind = kind} begins more) =
    (small_piece (piece.Token kind) front begins.spelled, small_tokens more)
small_tokens _ = tt

suffix_number : (suffix : Option Suffix) → IsNumberKind (suffix_kind suffix)
suffix_number (Some U8) = tt
suffix_number _ = tt

conversion_number : (t : TokenKind) (kind : Kind) → conversion_of t ≡ Some kind → IsNumberKind kind
conversion_number (token.Keyword Uint8Word) kind h = rw (← same_Some _ _ h) tt
conversion_number (token.Keyword Uint16Word) kind h = rw (← same_Some _ _ h) tt
conversion_number (token.Keyword Uint32Word) kind h = rw (← same_Some _ _ h) tt
conversion_number (token.Keyword _) kind h = absurd (none-some _ h)
conversion_number _ kind h = absurd (none-some _ h)

amount_small : (t : TokenKind) (n : ℕ) → amount_of t ≡ Some n → IsSmallToken t → n < 2 ^ 32
amount_small (token.Number m None) n h small = subst (λ (x : ℕ). x < 2 ^ 32) (same_Some _ _ h) small
amount_small (token.Number m (Some _)) n h small = absurd (none-some _ h)
amount_small _ n h small = absurd (none-some _ h)

between : (n : ℕ) → (nat_le 1 n && nat_le n most_elements) ≡ true → IsArrayLength n
between n e = record { some = grind (arith, nat_tests); few = grind (arith, nat_tests) }

length_bounds : (t : TokenKind) (n : ℕ) → length_of t ≡ Some n → IsArrayLength n
length_bounds (token.Number m None) n h = elim (cases_Bool (is_length m)) [
  | inl is ↦ rw (← same_Some _ _ (rw is at h)) (between m is)
  | inr is ↦ absurd (none-some _ (rw is at h))
]
length_bounds (token.Number m (Some _)) n h = absurd (none-some _ h)
length_bounds _ n h = absurd (none-some _ h)

small_expr : {level : ℕ} {tokens rest : List Lexeme} {tree : ExprTree} → ParsesExprAt level tokens tree rest
    → SmallTokens tokens → AreSmall tree × SmallTokens rest
small_expr (a_number {suffix = suffix} is) small = ((rw is at small.0, suffix_number suffix), small.1)
small_expr (an_element is opens in_index closes) small = let a = small_expr in_index small.1.1 in (a.0, a.1.1)
small_expr (in_brackets is middle is') small = let m = small_expr middle small.1 in (m.0, m.1.1)
small_expr (a_conversion is opens middle closes) small =
    let m = small_expr middle small.1.1 in ((conversion_number _ _ is, m.0), m.1.1)
small_expr (a_select i j one k two l three m) small =
    let a = small_expr one small.1.1 in
    let b = small_expr two a.1.1 in
    let c = small_expr three b.1.1 in
    ((a.0, b.0, c.0), c.1.1)
small_expr (a_prefix is middle) small = small_expr middle small.1
small_expr (a_rotation is below one is_amount) small =
    let a = small_expr one small in ((a.0, amount_small _ _ is_amount a.1.1.0), a.1.1.1)
small_expr (a_binary is below one two) small =
    let a = small_expr one small in
    let b = small_expr two a.1.1 in
    ((a.0, b.0), b.1)
small_expr _ small = (tt, small.1)

small_more : {end : TokenKind} {tokens rest : List Lexeme} {trees : List ExprTree}
    → ParsesMoreExprs end tokens trees rest
    → SmallTokens tokens → AreAllSmall trees × SmallTokens rest
small_more (no_more is) small = (tt, small.1)
small_more (one_more is one more) small =
    let a = small_expr one small.1 in
    let b = small_more more a.1 in
    ((a.0, b.0), b.1)

small_some : {end : TokenKind} {tokens rest : List Lexeme} {trees : List ExprTree}
    → ParsesSomeExprs end tokens trees rest
    → SmallTokens tokens → AreAllSmall trees × SmallTokens rest
small_some (some_exprs one more) small =
    let a = small_expr one small in
    let b = small_more more a.1 in
    ((a.0, b.0), b.1)

small_arguments : {tokens rest : List Lexeme} {trees : List ExprTree} → ParsesArguments tokens trees rest
    → SmallTokens tokens → AreAllSmall trees × SmallTokens rest
small_arguments (no_arguments is) small = (tt, small.1)
small_arguments (some_arguments h) small = small_some h small

small_call : {tokens rest : List Lexeme} {tree : CallTree} → ParsesCall tokens tree rest → SmallTokens tokens
    → AreAllSmall tree.arguments × SmallTokens rest
small_call (a_call is opens h) small = small_arguments h small.1.1

small_right : {tokens rest : List Lexeme} {tree : RightTree} → ParsesRightSide tokens tree rest → SmallTokens tokens
    → IsSmallRight tree × SmallTokens rest
small_right (a_call_value h) small = small_call h small
small_right (a_value h) small = small_expr h small

small_values : {tokens rest : List Lexeme} {trees : Option (List ExprTree)} → ParsesFirstValues tokens trees rest
    → SmallTokens tokens → AreSmallValues trees × SmallTokens rest
small_values no_values small = (tt, small)
small_values (some_values is opens h) small = small_some h small.1.1

small_mutable : {tokens rest : List Lexeme} {is : Bool} → ParsesMutable tokens is rest → SmallTokens tokens
    → SmallTokens rest
small_mutable no_mut small = small
small_mutable (a_mut is) small = small.1

small_array : {tokens rest : List Lexeme} {kind : Kind} {n : ℕ} → ParsesArrayType tokens kind n rest
    → SmallTokens tokens
    → IsArrayLength n × SmallTokens rest
small_array (an_array_type {number = number} is opens is_length closes) small =
    (length_bounds number.kind _ is_length, small.1.1.1.1)

mutual
  plain_statement : {tokens rest : List Lexeme} {tree : StatementTree} → ParsesStatement tokens tree rest
      → SmallTokens tokens → IsPlain tree × SmallTokens rest
  plain_statement (a_declaration is_label is_mutable is_kind is_name is_equals in_right ends) small =
      let a = small_right in_right (small_mutable is_mutable small.1).1.1.1 in
      (a.0, a.1.1)
  plain_statement (an_array is_label is_mutable in_type is_name in_values ends) small =
      let a = small_array in_type (small_mutable is_mutable small.1) in
      let b = small_values in_values a.1.1 in
      ((a.0, b.0), b.1.1)
  plain_statement (an_assignment is_name is_equals in_right ends) small =
      let a = small_right in_right small.1.1 in (a.0, a.1.1)
  plain_statement (an_element_assignment is opens in_index closes is_equals in_right ends) small =
      let a = small_expr in_index small.1.1 in
      let b = small_right in_right a.1.1.1 in
      ((a.0, b.0), b.1.1)
  plain_statement (a_call_statement in_call ends) small = let a = small_call in_call small in (a.0, a.1.1)
  plain_statement (a_conditional_statement h) small = plain_conditional h small
  plain_statement (a_loop is opens is_word is_name is_from in_low is_to in_high closes in_body) small =
      let a = small_expr in_low small.1.1.1.1.1 in
      let b = small_expr in_high a.1.1 in
      let d = plain_body in_body b.1.1 in
      ((a.0, b.0, d.0), d.1)

  plain_conditional : {tokens rest : List Lexeme} {tree : StatementTree} → ParsesConditional tokens tree rest
      → SmallTokens tokens → IsPlain tree × SmallTokens rest
  plain_conditional (a_conditional is_if opens in_condition closes in_arm in_others) small =
      let a = small_expr in_condition small.1.1 in
      let b = plain_body in_arm a.1.1 in
      let d = plain_otherwise in_others b.1 in
      ((a.0, b.0, d.0), d.1)

  plain_block : {tokens rest : List Lexeme} {trees : BlockTree} → ParsesStatements tokens trees rest
      → SmallTokens tokens
      → ArePlain trees × SmallTokens rest
  plain_block no_statement small = (tt, small)
  plain_block (one_statement in_one in_more) small =
      let a = plain_statement in_one small in
      let b = plain_block in_more a.1 in
      ((a.0, b.0), b.1)

  plain_body : {tokens rest : List Lexeme} {trees : BlockTree} → ParsesBlock tokens trees rest → SmallTokens tokens
      → ArePlain trees × SmallTokens rest
  plain_body (a_block opens in_list closes) small =
      let a = plain_block in_list small.1 in
      (a.0, a.1.1)

  plain_otherwise : {tokens rest : List Lexeme} {trees : BlockTree} → ParsesOtherwise tokens trees rest
      → SmallTokens tokens
      → ArePlain trees × SmallTokens rest
  plain_otherwise no_else small = (tt, small)
  plain_otherwise (an_else is_else in_arm) small = plain_body in_arm small.1
  plain_otherwise (an_else_if is_else h) small =
      let a = plain_conditional h small.1 in
      ((a.0, tt), a.1)

abbrev HaveForms : List ParameterTree → Type 0
HaveForms trees = AllByRecursion HasForm trees

one_parameter : {tokens rest : List Lexeme} {tree : ParameterTree} → ParsesParameter tokens tree rest
    → SmallTokens tokens
    → HasForm tree × SmallTokens rest
one_parameter (a_word is_label is_kind is_name) small = (refl, small.1.1.1)
one_parameter (a_fixed_array is_label in_type is_name) small =
    let a = small_array in_type small.1 in
    (a.0, a.1.1)
one_parameter (a_mutable_array is_label is_mut in_type is_name) small =
    let a = small_array in_type small.1.1 in
    (a.0, a.1.1)

more_parameters : {tokens rest : List Lexeme} {trees : List ParameterTree} → ParsesMoreParameters tokens trees rest
    → SmallTokens tokens → HaveForms trees × SmallTokens rest
more_parameters (no_more_parameters is) small = (tt, small.1)
more_parameters (one_more_parameter is one more) small =
    let a = one_parameter one small.1 in
    let b = more_parameters more a.1 in
    ((a.0, b.0), b.1)

all_parameters : {tokens rest : List Lexeme} {trees : List ParameterTree} → ParsesParameters tokens trees rest
    → SmallTokens tokens → HaveForms trees × SmallTokens rest
all_parameters (no_parameters is) small = (tt, small.1)
all_parameters (some_parameters one more) small =
    let a = one_parameter one small in
    let b = more_parameters more a.1 in
    ((a.0, b.0), b.1)

small_export : {tokens rest : List Lexeme} {export : Option Place} → ParsesExported tokens export rest
    → SmallTokens tokens
    → SmallTokens rest
small_export not_exported small = small
small_export (an_export is) small = small.1

small_result : {tokens rest : List Lexeme} {result : _} → ParsesResultType tokens result rest → SmallTokens tokens
    → SmallTokens rest
small_result (a_void is) small = small.1
small_result (a_type is is_kind) small = small.1.1

small_return : {tokens rest : List Lexeme} {returned : Option ReturnTree} → ParsesBodyEnd tokens returned rest
    → SmallTokens tokens → IsSmallReturn returned × SmallTokens rest
small_return (no_return is) small = (tt, small.1)
small_return (a_return is h ends closes) small =
    let a = small_expr h small.1 in
    (a.0, a.1.1.1)

a_grammatical : {tokens rest : List Lexeme} {tree : ProcedureTree} → ParsesProcedure tokens tree rest
    → SmallTokens tokens
    → IsGrammatical tree × SmallTokens rest
a_grammatical (a_procedure is_export is_result is_name opens ps opens' ss in_end) small =
    let s = small_result is_result (small_export is_export small) in
    let a = all_parameters ps s.1.1 in
    let b = plain_block ss a.1.1 in
    let d = small_return in_end b.1 in
    (record { parameters = a.0; body = b.0; returned = d.0 }, d.1)

abbrev AreGrammatical : List ProcedureTree → Type 0
AreGrammatical trees = AllByRecursion IsGrammatical trees

all_grammatical : {tokens : List Lexeme} {trees : List ProcedureTree} → ParsesProcedures tokens trees
    → SmallTokens tokens
    → AreGrammatical trees
all_grammatical no_procedure small = tt
all_grammatical (one_procedure one more) small =
    let a = a_grammatical one small in
    (a.0, all_grammatical more a.1)

answered : {tokens : List Lexeme} {end : TokensEnding} {program : ProgramTree} → IsParseAnswer tokens end
    (accepted program)
    → SmallTokens tokens → AreGrammatical program.procedures
answered (a_program _ _ _ (a_program_rule h) within) small = all_grammatical h small

pub read_text : (text : List ℕ) (program : ProgramTree) → Reads text (accepted program)
    → AreGrammatical program.procedures
read_text text program (by_tokens short lexes answers) = answered answers (small_tokens lexes)

-- the procedures of a text are as the grammar has them
pub grammatical : (text : List ℕ) (program : ProgramTree) (p : ProcedureTree) → Reads text (accepted program)
    → Contains program.procedures p → IsGrammatical p
grammatical text program p reads is =
    All-contains IsGrammatical program.procedures p
    (All-from_recursion IsGrammatical program.procedures (read_text text program reads)) is
