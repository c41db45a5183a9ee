-- A machine that reads a program token by token. A state is what may stand next, and carries the trees so far.
use Rattle.std.specs.Prelude.{ℕ, ◌+◌, Bool, true, false, ◌&&◌, ◌==◌, List, [], ◌∷◌, ◌++◌, Option, Some, None}
use Rattle.std.specs.Prelude.{if◌then◌else◌}
use Rattle.std.specs.Prelude.{nat_le, nat_lt}
use Rattle.std.specs.Option.{option_map, option_and_then}
use Rattle.std.specs.Str.{bytes_eq}
use Rattle.tokens.specs.declared.operators.OperandStart.{OperandStart}
use Rattle.tokens.specs.declared.operators.OperandStart.TheVariants.{Number as by_number, Truth as by_truth}
use Rattle.tokens.specs.declared.operators.OperandStart.TheVariants.{Name as by_name, Bracket as by_bracket}
use Rattle.tokens.specs.declared.operators.OperandStart.TheVariants.{Prefix as by_prefix}
use Rattle.tokens.specs.declared.operators.OperandStart.TheVariants.{Conversion as by_conversion}
use Rattle.tokens.specs.declared.operators.OperandStart.TheVariants.{Select as by_select}
use Rattle.tokens.specs.declared.operators.Link.{Link}
use Rattle.tokens.specs.declared.operators.Link.TheVariants.{Operator as by_operator, Rotation as by_rotation}
use Rattle.syntax.specs.declared.parser.statement.Start.{Start}
use Rattle.syntax.specs.declared.parser.statement.Start.TheVariants.{Declaration as by_label, Target as by_target}
use Rattle.syntax.specs.declared.parser.statement.Start.TheVariants.{Conditional as by_if, Loop as by_for}
use Rattle.syntax.specs.Below.{array, assignment, binary, BlockTree, call, called, CallTree, computed, conditional}
use Rattle.syntax.specs.Below.{convert, declaration, element, element_assignment, ExprTree, first, FixedArray, Kind}
use Rattle.syntax.specs.Below.{Label, loop, MutableArray, name, Nesting, nothing, number, ParameterTree, Place, prefix}
use Rattle.syntax.specs.Below.{ProcedureTree, ProgramTree, ReturnTree, RightTree, rotate, select, SingleWord}
use Rattle.syntax.specs.Below.{StatementTree, truth, UnexpectedToken, WordType}
use Rattle.language.specs.declared.signature.Form.{Form}
use Rattle.tokens.specs.declared.token.TokenKind.{TokenKind}
use Rattle.tokens.specs.declared.token.TokenKind.TheVariants as token
use Rattle.tokens.specs.declared.token.Keyword.TheVariants.{Export, Void, Mut, Uint32, If, Else, For, From, To}
use Rattle.tokens.specs.declared.token.Keyword.TheVariants.{Return}
use Rattle.tokens.specs.declared.token.Sign.TheVariants.{OpenRound, CloseRound, OpenCurly, CloseCurly}
use Rattle.tokens.specs.declared.token.Sign.TheVariants.{OpenSquare, CloseSquare, Comma, Semicolon, Assign}
use Rattle.syntax.specs.Grammar.{level_of, rotation_level, prefix_level}
use Rattle.syntax.specs.Grammar.{label_of, word_of, suffix_kind, amount_of, length_of}
use Rattle.tokens.specs.Lexeme.{Lexeme}
use Rattle.tokens.specs.Nesting.{Nest, after}
use Rattle.tokens.specs.Limits.{nesting_limit}
use Rattle.syntax.specs.Reading.{ParseAnswer, accepted, refused}
use Rattle.tokens.specs.Spelling.{keyword_text, sign_text, suffix_text}
use Rattle.tokens.specs.Tokens.{TokensEnding, ends_at, stops}
use Rattle.tokens.specs.declared.token.Keyword.TheVariants as keyword
use Rattle.tokens.specs.declared.token.Sign.TheVariants as sign
pub use Rattle.tokens.specs.Operators.{begins_of, link_of, link_level, link_left_level}

-- two kinds are one; keywords, signs and suffixes are known by their spellings
abbrev pub fits : TokenKind → TokenKind → Bool
fits token.Name token.Name = true
fits (token.Keyword one) (token.Keyword other) = bytes_eq (keyword_text one) (keyword_text other)
fits (token.Sign one) (token.Sign other) = bytes_eq (sign_text one) (sign_text other)
fits (token.Number value suffix) (token.Number other written) =
    (value == other) && bytes_eq (suffix_text suffix) (suffix_text written)
fits _ _ = false

-- how a statement that begins with such a token begins
abbrev pub starts_with : TokenKind → Option Start
starts_with token.Name = Some by_target
starts_with (token.Keyword If) = Some by_if
starts_with (token.Keyword For) = Some by_for
starts_with kind = option_map by_label (label_of kind)

pub data ParserState : Type 0 where
  -- after some procedures
  procedures : List ProcedureTree → ParserState
  one : TokenKind → (Lexeme → ParserState) → ParserState
  -- a token of this kind, or what else may stand there
  either : TokenKind → (Lexeme → ParserState) → ParserState → ParserState
  a_label : (Label → ParserState) → ParserState
  a_kind : (Kind → ParserState) → ParserState
  a_length : (ℕ → ParserState) → ParserState
  an_amount : (ℕ → ParserState) → ParserState
  more_parameters : List ParameterTree → (List ParameterTree → ParserState) → ParserState
  expr : ℕ → (ExprTree → ParserState) → ParserState
  -- after an operand, which an operator of at most the second level may take as its left one
  more : ℕ → ℕ → ExprTree → (ExprTree → ParserState) → ParserState
  -- after some expressions of a list that such a token ends
  more_exprs : TokenKind → List ExprTree → (List ExprTree → ParserState) → ParserState
  statements : (BlockTree → ParserState) → ParserState
  otherwise : (BlockTree → ParserState) → ParserState

-- an array's length, after its opening bracket
abbrev pub sized : (ℕ → ParserState) → ParserState
sized k = a_length (λ length. one (token.Sign sign.CloseSquare) (λ _. k length))

-- expressions and the token that ends them
abbrev pub some_exprs : TokenKind → (List ExprTree → ParserState) → ParserState
some_exprs end k = expr 1 (λ e. more_exprs end (e ∷ []) k)

-- arguments, after their opening bracket
abbrev pub arguments : (List ExprTree → ParserState) → ParserState
arguments k = either (token.Sign sign.CloseRound) (λ _. k []) (some_exprs (token.Sign sign.CloseRound) k)

-- a call, after its opening bracket
abbrev pub call_of : Lexeme → (CallTree → ParserState) → ParserState
call_of t k = arguments (λ es. k (record { place = t.place; name = t.text; arguments = es }))

-- an expression and the token that ends it
abbrev pub ended : TokenKind → (ExprTree → ParserState) → ParserState
ended end k = expr 1 (λ e. one end (λ _. k e))

-- a name's value, or an element's, after the name
abbrev pub named : Lexeme → (ExprTree → ParserState) → ParserState
named t k = either (token.Sign sign.OpenSquare)
    (λ opening. ended (token.Sign sign.CloseSquare) (λ e. k (element opening.place t.place t.text e)))
    (k (name t.place t.text))

-- what follows the keyword of a `select`
abbrev pub after_select : Place → (ExprTree → ParserState) → ParserState
after_select place k =
    one (token.Sign sign.OpenRound)
    (λ _. ended (token.Sign sign.Comma)
    (λ a. ended (token.Sign sign.Comma) (λ b. ended (token.Sign sign.CloseRound) (λ c. k (select place a b c)))))

-- what follows the keyword of a conversion
abbrev pub converted : Place → Kind → (ExprTree → ParserState) → ParserState
converted place kind k =
    one (token.Sign sign.OpenRound) (λ _. ended (token.Sign sign.CloseRound) (λ e. k (convert place kind e)))

-- what follows the first token of an operand
abbrev pub operand : OperandStart → Lexeme → (ExprTree → ParserState) → ParserState
operand (by_number value suffix) t k = k (number t.place value (suffix_kind suffix))
operand (by_truth value) t k = k (truth t.place value)
operand by_name t k = named t k
operand by_bracket t k = ended (token.Sign sign.CloseRound) k
operand (by_prefix operator) t k = expr prefix_level (λ e. k (prefix t.place operator e))
operand (by_conversion kind) t k = converted t.place kind k
operand by_select t k = after_select t.place k

-- what follows a sign between operands
abbrev pub linked : Link → Place → ℕ → ExprTree → (ExprTree → ParserState) → ParserState
linked (by_operator operator) place level left k =
    expr (level_of operator + 1) (λ right. more level (level_of operator) (binary place operator left right) k)
linked by_rotation place level left k = an_amount (λ amount. more level rotation_level (rotate place left amount) k)

-- a right side that begins with a name, after the name
abbrev pub right_from : Lexeme → (RightTree → ParserState) → ParserState
right_from t k = either (token.Sign sign.OpenRound) (λ _. call_of t (λ c. k (called c)))
    (named t (λ e. more 1 11 e (λ e. k (computed e))))

abbrev pub right : (RightTree → ParserState) → ParserState
right k = either token.Name (λ t. right_from t k) (expr 1 (λ e. k (computed e)))

-- a right side, after its `=`, and the semicolon
abbrev pub right_end : (RightTree → ParserState) → ParserState
right_end k = right (λ r. one (token.Sign sign.Semicolon) (λ _. k r))

-- an array's first values, where they are written
abbrev pub first_values : (Option (List ExprTree) → ParserState) → ParserState
first_values k =
    either (token.Sign sign.Assign)
    (λ _. one (token.Sign sign.OpenCurly) (λ _. some_exprs (token.Sign sign.CloseCurly) (λ es. k (Some es))))
    (k None)

-- a declaration of an array, after its type
abbrev pub declared_array : Label → Bool → Kind → ℕ → (StatementTree → ParserState) → ParserState
declared_array label mutable kind length k =
    one token.Name
    (λ t. first_values (λ vs. one (token.Sign sign.Semicolon)
    (λ _. k (array t.place label mutable kind length t.text vs))))

-- a declaration of a word, after its type
abbrev pub declared_word : Label → Bool → Kind → (StatementTree → ParserState) → ParserState
declared_word label mutable kind k =
    one token.Name (λ t. one (token.Sign sign.Assign)
    (λ _. right_end (λ r. k (declaration t.place label mutable kind t.text r))))

-- a declaration, after its label and `mut`
abbrev pub declared_as : Label → Bool → (StatementTree → ParserState) → ParserState
declared_as label mutable k =
    a_kind (λ kind. either (token.Sign sign.OpenSquare)
    (λ _. sized (λ length. declared_array label mutable kind length k)) (declared_word label mutable kind k))

-- a declaration, after its label
abbrev pub declared : Label → (StatementTree → ParserState) → ParserState
declared label k = either (token.Keyword keyword.Mut) (λ _. declared_as label true k) (declared_as label false k)

-- an assignment, after its name and `=`
abbrev pub assigned : Lexeme → Place → (StatementTree → ParserState) → ParserState
assigned t equals k = right_end (λ r. k (assignment equals t.place t.text r))

-- an assignment to an element, after its name and `[`
abbrev pub element_assigned : Lexeme → Place → (StatementTree → ParserState) → ParserState
element_assigned t opening k =
    ended (token.Sign sign.CloseSquare)
    (λ i. one (token.Sign sign.Assign)
    (λ equals. right_end (λ r. k (element_assignment equals.place opening t.place t.text i r))))

-- a call as a statement, after its name
abbrev pub called_alone : Lexeme → (StatementTree → ParserState) → ParserState
called_alone t k =
    one (token.Sign sign.OpenRound) (λ _. call_of t (λ c. one (token.Sign sign.Semicolon) (λ _. k (call c))))

-- a statement that begins with a name and is no assignment to it, after the name
abbrev pub unassigned : Lexeme → (StatementTree → ParserState) → ParserState
unassigned t k =
    either (token.Sign sign.OpenSquare) (λ opening. element_assigned t opening.place k) (called_alone t k)

-- a statement that begins with a name, after the name
abbrev pub targeted : Lexeme → (StatementTree → ParserState) → ParserState
targeted t k = either (token.Sign sign.Assign) (λ equals. assigned t equals.place k) (unassigned t k)

-- statements in curly brackets
abbrev pub block : (BlockTree → ParserState) → ParserState
block k = one (token.Sign sign.OpenCurly) (λ _. statements (λ b. one (token.Sign sign.CloseCurly) (λ _. k b)))

-- a conditional, after its keyword
abbrev pub conditioned : Place → (StatementTree → ParserState) → ParserState
conditioned place k =
    one (token.Sign sign.OpenRound)
    (λ _. ended (token.Sign sign.CloseRound) (λ e. block (λ a. otherwise (λ b. k (conditional place e a b)))))

-- what follows `else`
abbrev pub after_else : (BlockTree → ParserState) → ParserState
after_else k = either (token.Keyword keyword.If) (λ word. conditioned word.place (λ s. k (first s nothing))) (block k)

-- the counter of a loop, after its keyword
abbrev pub counter : (Lexeme → ParserState) → ParserState
counter k =
    one (token.Sign sign.OpenRound)
    (λ _. one (token.Keyword keyword.Uint32)
    (λ _. one token.Name (λ t. one (token.Keyword keyword.From) (λ _. k t))))

-- a loop, after its keyword
abbrev pub looped : Place → (StatementTree → ParserState) → ParserState
looped place k =
    counter (λ t. ended (token.Keyword keyword.To)
    (λ low. ended (token.Sign sign.CloseRound) (λ high. block (λ b. k (loop place t.place t.text low high b)))))

-- what follows the first token of a statement
abbrev pub statement : Start → Lexeme → (StatementTree → ParserState) → ParserState
statement (by_label label) t k = declared label k
statement by_target t k = targeted t k
statement by_if t k = conditioned t.place k
statement by_for t k = looped t.place k

-- a parameter's name, after its type
abbrev pub parameter_name : Label → Kind → Form → ℕ → (ParameterTree → ParserState) → ParserState
parameter_name label kind form length k =
    one token.Name
    (λ t. k (record { label = label; kind = kind; form = form; length = length; place = t.place; name = t.text }))

-- an array as a parameter, after the opening bracket of its length
abbrev pub array_parameter : Label → Kind → Form → (ParameterTree → ParserState) → ParserState
array_parameter label kind form k = sized (λ length. parameter_name label kind form length k)

-- a parameter that may be changed, after `mut`
abbrev pub mutable_parameter : Label → (ParameterTree → ParserState) → ParserState
mutable_parameter label k =
    a_kind (λ kind. one (token.Sign sign.OpenSquare) (λ _. array_parameter label kind MutableArray k))

-- one that stays as it is, after its label
abbrev pub fixed_parameter : Label → (ParameterTree → ParserState) → ParserState
fixed_parameter label k =
    a_kind (λ kind. either (token.Sign sign.OpenSquare) (λ _. array_parameter label kind FixedArray k)
    (parameter_name label kind SingleWord 1 k))

-- a parameter, after its label
abbrev pub labelled : Label → (ParameterTree → ParserState) → ParserState
labelled label k =
    either (token.Keyword keyword.Mut) (λ _. mutable_parameter label k) (fixed_parameter label k)

abbrev pub parameter : (ParameterTree → ParserState) → ParserState
parameter k = a_label (λ label. labelled label k)

-- parameters, after their opening bracket
abbrev pub parameters : (List ParameterTree → ParserState) → ParserState
parameters k = either (token.Sign sign.CloseRound) (λ _. k []) (parameter (λ p. more_parameters (p ∷ []) k))

-- the end of a body
abbrev pub returned : (Option ReturnTree → ParserState) → ParserState
returned k = either (token.Keyword keyword.Return)
    (λ t. ended (token.Sign sign.Semicolon)
    (λ e. one (token.Sign sign.CloseCurly) (λ _. k (Some (record { place = t.place; value = e })))))
    (one (token.Sign sign.CloseCurly) (λ _. k None))

-- a procedure, after the type of its result
abbrev pub procedure_from : Option Place → Option WordType → (ProcedureTree → ParserState) → ParserState
procedure_from export result k =
    one token.Name (λ t. one (token.Sign sign.OpenRound)
    (λ _. parameters (λ ps. one (token.Sign sign.OpenCurly)
    (λ _.
    statements
    (λ b.
    returned
    (λ r. k (record {
      export = export;
      result = result;
      place = t.place;
      name = t.text;
      parameters = ps;
      body = b;
      returned = r;
    })))))))

-- a result's type
abbrev pub result_type : (Option WordType → ParserState) → ParserState
result_type k = either (token.Keyword keyword.Void) (λ _. k None)
    (a_label (λ label. a_kind (λ kind. k (Some (record { kind = kind; label = label })))))

abbrev pub exported : (Option Place → ParserState) → ParserState
exported k = either (token.Keyword keyword.Export) (λ t. k (Some t.place)) (k None)

-- a procedure
abbrev pub procedure : (ProcedureTree → ParserState) → ParserState
procedure k = exported (λ export. result_type (λ result. procedure_from export result k))

-- a program
abbrev pub program : ParserState
program = procedures []

-- with its first token a statement follows, without one what else may stand there
abbrev pub started : Option Start → Lexeme → (StatementTree → ParserState) → Option ParserState → Option ParserState
started None t k other = other
started (Some start) t k other = Some (statement start t k)

-- the sign, where it may follow the operand
abbrev pub within : ℕ → ℕ → Option Link → Option Link
within level top None = None
within level top (Some link) = if nat_le level (link_level link) && nat_le (link_left_level link) top
    then Some link else None

-- after a sign its right side follows, without one what else may stand there
abbrev pub joined : Option Link → Place → ℕ → ExprTree → (ExprTree → ParserState) → Option ParserState
    → Option ParserState
joined None place level left k other = other
joined (Some link) place level left k other = Some (linked link place level left k)

-- the state after the first token of a result's type
abbrev pub step_result : TokenKind → (Option WordType → ParserState) → Option ParserState
step_result kind k = if fits (token.Keyword keyword.Void) kind then Some (k None)
    else option_map (λ label. a_kind (λ kind. k (Some (record { kind = kind; label = label })))) (label_of kind)

-- the state after a token, where it may stand
abbrev pub step : ParserState → Lexeme → Option ParserState
step (procedures ps) t =
    let k = λ (p : ProcedureTree). procedures (ps ++ p ∷ []) in
    if fits (token.Keyword keyword.Export) t.kind
    then Some (result_type (λ result. procedure_from (Some t.place) result k))
    else step_result t.kind (λ result. procedure_from None result k)
step (one wanted k) t = if fits wanted t.kind then Some (k t) else None
step (either wanted next other) t = if fits wanted t.kind then Some (next t) else step other t
step (a_label k) t = option_map k (label_of t.kind)
step (a_kind k) t = option_map k (word_of t.kind)
step (a_length k) t = option_map k (length_of t.kind)
step (an_amount k) t = option_map k (amount_of t.kind)
step (more_parameters ps k) t = if fits (token.Sign sign.Comma) t.kind
    then Some (parameter (λ p. more_parameters (ps ++ p ∷ []) k))
    else (if fits (token.Sign sign.CloseRound) t.kind then Some (k ps) else None)
step (expr level k) t = option_map (λ b. operand b t (λ e. more level 11 e k)) (begins_of t.kind)
step (more level top left k) t = joined (within level top (link_of t.kind)) t.place level left k (step (k left) t)
step (more_exprs end es k) t = if fits (token.Sign sign.Comma) t.kind
    then Some (expr 1 (λ e. more_exprs end (es ++ e ∷ []) k)) else (if fits end t.kind then Some (k es) else None)
step (statements k) t = started (starts_with t.kind) t (λ s. statements (λ b. k (first s b))) (step (k nothing) t)
step (otherwise k) t = if fits (token.Keyword keyword.Else) t.kind then Some (after_else k) else step (k nothing) t

-- the program that may end here
abbrev pub at_end : ParserState → Option ProgramTree
at_end (procedures ps) = Some (record { procedures = ps })
at_end (either wanted next other) = at_end other
at_end (more level top left k) = at_end (k left)
at_end (statements k) = at_end (k nothing)
at_end (otherwise k) = at_end (k nothing)
at_end _ = None

-- the state after some tokens
abbrev pub run : ParserState → List Lexeme → Option ParserState
run s [] = Some s
run s (t ∷ ts) = option_and_then (λ next. run next ts) (step s t)

abbrev pub ending_answer : TokensEnding → Option ProgramTree → ParseAnswer
ending_answer (ends_at place) (Some tree) = accepted tree
ending_answer (ends_at place) None = refused UnexpectedToken place
ending_answer (stops rule place) _ = refused rule place

abbrev pub token_answer : Option ParserState → Lexeme → Nest → (ParserState → ParseAnswer) → ParseAnswer
token_answer None t nest k = refused UnexpectedToken t.place
token_answer (Some s) t nest k = if nat_lt nesting_limit nest.count then refused Nesting t.place else k s

-- the answer from a state on
abbrev pub verdict : ParserState → Nest → List Lexeme → TokensEnding → ParseAnswer
verdict s nest [] ending = ending_answer ending (at_end s)
verdict s nest (t ∷ ts) ending =
    token_answer (step s t) t (after t.kind nest) (λ next. verdict next (after t.kind nest) ts ending)
