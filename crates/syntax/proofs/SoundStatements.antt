-- What the machine reads of expressions and statements is in the grammar.
use Rattle.std.proofs.Common.{◌≡◌, ℕ, Bool, true, false, List, ◌∷◌, Option, Some}
use Rattle.syntax.specs.Below.{BlockTree, CallTree, ExprTree, first, Kind, Label, nothing, ProgramTree, RightTree}
use Rattle.syntax.specs.Below.{StatementTree}
use Rattle.tokens.specs.declared.token.TokenKind.{TokenKind}
use Rattle.tokens.specs.declared.token.TokenKind.TheVariants as token
use Rattle.tokens.specs.declared.token.Keyword.TheVariants.{If, Else}
use Rattle.syntax.specs.Grammar.{label_of, word_of, ParsesExprAt, a_number, a_true, a_false, a_name, an_element}
use Rattle.syntax.specs.Grammar.{in_brackets, a_conversion, a_select, a_prefix, ParsesSomeExprs}
use Rattle.syntax.specs.Grammar.{some_exprs as some_exprs_rule, no_arguments, some_arguments, ParsesCall, a_call}
use Rattle.syntax.specs.Grammar.{ParsesRightSide, a_call_value, a_value, ParsesMutable, no_mut, a_mut, ParsesArrayType}
use Rattle.syntax.specs.Grammar.{an_array_type, ParsesFirstValues, no_values, some_values, ParsesStatement}
use Rattle.syntax.specs.Grammar.{a_declaration, an_array, an_assignment, an_element_assignment, a_call_statement}
use Rattle.syntax.specs.Grammar.{a_conditional_statement, a_loop, ParsesConditional, a_conditional, a_block}
use Rattle.syntax.specs.Grammar.{ParsesOtherwise, an_else, an_else_if}
use Rattle.tokens.specs.Lexeme.{Lexeme}
use Rattle.language.specs.Tree as tree
use Rattle.tokens.specs.declared.operators.OperandStart.{OperandStart}
use Rattle.tokens.specs.declared.operators.OperandStart.TheVariants.{Number as by_number, Truth as by_truth}
use Rattle.tokens.specs.declared.operators.OperandStart.TheVariants.{Name as by_name, Bracket as by_bracket}
use Rattle.tokens.specs.declared.operators.OperandStart.TheVariants.{Prefix as by_prefix}
use Rattle.tokens.specs.declared.operators.OperandStart.TheVariants.{Conversion as by_conversion}
use Rattle.tokens.specs.declared.operators.OperandStart.TheVariants.{Select as by_select}
use Rattle.syntax.specs.declared.parser.statement.Start.{Start}
use Rattle.syntax.specs.declared.parser.statement.Start.TheVariants.{Declaration as by_label, Target as by_target}
use Rattle.syntax.specs.declared.parser.statement.Start.TheVariants.{Conditional as by_if, Loop as by_for}
use Rattle.syntax.specs.private.Machine.{ParserState, one, more, some_exprs, call_of}
use Rattle.syntax.specs.private.Machine.{named, operand, right_from, right, right_end, first_values, declared_array}
use Rattle.syntax.specs.private.Machine.{declared_word, declared_as, declared, targeted, conditioned}
use Rattle.syntax.specs.private.Machine.{after_else, statement}
use Rattle.syntax.proofs.MachineKinds.{BeginsBy, StartsBy}
use Rattle.syntax.proofs.MachineMeaning.{Finishes, ReadsThen, with_token, with_either, with_other, with_kind}
use Rattle.syntax.proofs.MachineMeaning.{with_length, with_expr, with_more, with_exprs, with_statements, with_otherwise}
use Rattle.tokens.specs.declared.token.Sign.TheVariants as sign

-- an operand, read after its first token, is an expression at each level
abbrev pub AtEachLevel : Lexeme → List Lexeme → ExprTree → List Lexeme → Type 0
AtEachLevel t ts e rest = (level : ℕ) → ParsesExprAt level (t ∷ ts) e rest

-- a form and the token that ends it
abbrev Ended : {T : Type 0} → (List Lexeme → T → List Lexeme → Type 0) → TokenKind → List Lexeme → T → List Lexeme
    → Type 0
Ended Form what ts tree rest = (t : Lexeme) × Form ts tree (t ∷ rest) × (t.kind ≡ what)

ended-finishes : {T : Type 0} {p : ProgramTree} {ts : List Lexeme} (Form : List Lexeme → T → List Lexeme → Type 0)
    (what : TokenKind) (k : T → ParserState) → ReadsThen p Form (λ x. one what (λ _. k x)) ts
    → ReadsThen p (Ended Form what) k ts
ended-finishes Form what k (tree, _, is, with_token ends done) = (tree, _, (_, is, ends), done)

-- a name's value or an element's, read after the name
named-finishes : {p : ProgramTree} {t : Lexeme} {ts : List Lexeme} (k : ExprTree → ParserState) → t.kind ≡ token.Name
    → Finishes p (named t k) ts → ReadsThen p (AtEachLevel t) k ts
named-finishes k is (with_other done) = (_, _, λ level. a_name is, done)
named-finishes k is (with_either opens (with_expr inner (with_token closes done))) =
    (_, _, λ level. an_element is opens inner closes, done)

pub operand-finishes : {p : ProgramTree} {t : Lexeme} {ts : List Lexeme} (b : OperandStart) (k : ExprTree → ParserState)
    → BeginsBy t.kind b → Finishes p (operand b t k) ts → ReadsThen p (AtEachLevel t) k ts
operand-finishes (by_number n suffix) k is done = (_, _, λ level. a_number is, done)
operand-finishes (by_truth true) k is done = (_, _, λ level. a_true is, done)
operand-finishes (by_truth false) k is done = (_, _, λ level. a_false is, done)
operand-finishes by_name k is h = named-finishes k is h
operand-finishes by_bracket k is (with_expr inner (with_token closes done)) =
    (_, _, λ level. in_brackets is inner closes, done)
operand-finishes (by_prefix o) k is (with_expr inner done) = (_, _, λ level. a_prefix is inner, done)
operand-finishes (by_conversion what) k is (with_token opens (with_expr inner (with_token closes done))) =
    (_, _, λ level. a_conversion is opens inner closes, done)
operand-finishes by_select k is (with_token opens (with_expr in_a (with_token comma
    (with_expr in_b (with_token comma' (with_expr in_c (with_token closes done))))))) =
    (_, _, λ level. a_select is opens in_a comma in_b comma' in_c closes, done)

-- an operand and what follows it, up to the level
pub whole-finishes : {p : ProgramTree} {t : Lexeme} {ts : List Lexeme} (level : ℕ) (k : ExprTree → ParserState)
    → ReadsThen p (AtEachLevel t) (λ e. more level 11 e k) ts → ReadsThen p (λ ts. ParsesExprAt level (t ∷ ts)) k ts
whole-finishes level k (_, _, at, with_more grows done) = (_, _, grows _ (at 11) (at level), done)

-- expressions and the token that ends them
some-finishes : {p : ProgramTree} {ts : List Lexeme} (end : TokenKind) (k : List ExprTree → ParserState)
    → Finishes p (some_exprs end k) ts → ReadsThen p (ParsesSomeExprs end) k ts
some-finishes end k (with_expr in_e (with_exprs in_more done)) = (_, _, some_exprs_rule in_e in_more, done)

-- a call, read after its opening bracket
call-finishes : {p : ProgramTree} {t opening : Lexeme} {ts : List Lexeme} (k : CallTree → ParserState)
    → t.kind ≡ token.Name → opening.kind ≡ token.Sign sign.OpenRound → Finishes p (call_of t k) ts
    → ReadsThen p (λ ts. ParsesCall (t ∷ opening ∷ ts)) k ts
call-finishes {t = t} k is opens (with_other h) =
    let w = some-finishes (token.Sign sign.CloseRound)
    (λ es. k (record { place = t.place; name = t.text; arguments = es })) h in
    (_, _, a_call is opens (some_arguments w.2), w.3)
call-finishes k is opens (with_either closes done) = (_, _, a_call is opens (no_arguments closes), done)

right-from-finishes : {p : ProgramTree} {t : Lexeme} {ts : List Lexeme} (k : RightTree → ParserState)
    → t.kind ≡ token.Name → Finishes p (right_from t k) ts → ReadsThen p (λ ts. ParsesRightSide (t ∷ ts)) k ts
right-from-finishes k is (with_other h) =
    let k' = λ (e : ExprTree). k (tree.computed e) in
    let w = whole-finishes 1 k' (named-finishes (λ e. more 1 11 e k') is h) in
    (_, _, a_value w.2, w.3)
right-from-finishes k is (with_either opens h) =
    let w = call-finishes (λ c. k (tree.called c)) is opens h in
    (_, _, a_call_value w.2, w.3)

right-finishes : {p : ProgramTree} {ts : List Lexeme} (k : RightTree → ParserState) → Finishes p (right k) ts
    → ReadsThen p ParsesRightSide k ts
right-finishes k (with_other (with_expr in_e done)) = (_, _, a_value in_e, done)
right-finishes k (with_either is h) = right-from-finishes k is h

-- a right side and the semicolon
right-end-finishes : {p : ProgramTree} {ts : List Lexeme} (k : RightTree → ParserState) → Finishes p (right_end k) ts
    → ReadsThen p (Ended ParsesRightSide (token.Sign sign.Semicolon)) k ts
right-end-finishes k h =
    ended-finishes ParsesRightSide (token.Sign sign.Semicolon) k
    (right-finishes (λ r. one (token.Sign sign.Semicolon) (λ _. k r)) h)

first-values-finishes : {p : ProgramTree} {ts : List Lexeme} (k : Option (List ExprTree) → ParserState)
    → Finishes p (first_values k) ts → ReadsThen p ParsesFirstValues k ts
first-values-finishes k (with_other done) = (_, _, no_values, done)
first-values-finishes k (with_either is (with_token opens h)) =
    let w = some-finishes (token.Sign sign.CloseCurly) (λ es. k (Some es)) h in
    (_, _, some_values is opens w.2, w.3)

-- a declaration, read after its type
declared-word-finishes : {p : ProgramTree} {start second : Lexeme} {list ts : List Lexeme} (label : Label)
    (mutable : Bool) (kind : Kind) (k : StatementTree → ParserState) → label_of start.kind ≡ Some label
    → ParsesMutable list mutable (second ∷ ts) → word_of second.kind ≡ Some kind
    → Finishes p (declared_word label mutable kind k) ts → ReadsThen p (λ _. ParsesStatement (start ∷ list)) k ts
declared-word-finishes label mutable kind k is is_mutable is_kind
    (with_token {t = t} is_name (with_token is_equals h)) =
    let w = right-end-finishes (λ v. k (tree.declaration t.place label mutable kind t.text v)) h in
    (_, _, a_declaration is is_mutable is_kind is_name is_equals w.2.1 w.2.2, w.3)

declared-array-finishes : {p : ProgramTree} {start : Lexeme} {list second ts : List Lexeme} (label : Label)
    (mutable : Bool) (kind : Kind) (n : ℕ) (k : StatementTree → ParserState) → label_of start.kind ≡ Some label
    → ParsesMutable list mutable second → ParsesArrayType second kind n ts
    → Finishes p (declared_array label mutable kind n k) ts → ReadsThen p (λ _. ParsesStatement (start ∷ list)) k ts
declared-array-finishes label mutable kind n k is is_mutable in_type (with_token {t = t} is_name h) =
    let k' = λ (vs : Option (List ExprTree)). k (tree.array t.place label mutable kind n t.text vs) in
    let w = ended-finishes ParsesFirstValues (token.Sign sign.Semicolon) k'
    (first-values-finishes (λ vs. one (token.Sign sign.Semicolon) (λ _. k' vs)) h) in
    (_, _, an_array is is_mutable in_type is_name w.2.1 w.2.2, w.3)

-- a declaration, read after its label and `mut`
declared-as-finishes : {p : ProgramTree} {start : Lexeme} {list ts : List Lexeme} (label : Label) (mutable : Bool)
    (k : StatementTree → ParserState) → label_of start.kind ≡ Some label → ParsesMutable list mutable ts
    → Finishes p (declared_as label mutable k) ts → ReadsThen p (λ _. ParsesStatement (start ∷ list)) k ts
declared-as-finishes label mutable k is is_mutable (with_kind {kind = kind} is_kind (with_other h)) =
    declared-word-finishes label mutable kind k is is_mutable is_kind h
declared-as-finishes label mutable k is is_mutable
    (with_kind {kind = kind} is_kind (with_either opens (with_length {n = n} is_length (with_token closes h)))) =
    declared-array-finishes label mutable kind n k is is_mutable (an_array_type is_kind opens is_length closes) h

declared-finishes : {p : ProgramTree} {start : Lexeme} {ts : List Lexeme} (label : Label)
    (k : StatementTree → ParserState)
    → label_of start.kind ≡ Some label → Finishes p (declared label k) ts
    → ReadsThen p (λ ts. ParsesStatement (start ∷ ts)) k ts
declared-finishes label k is (with_other h) = declared-as-finishes label false k is no_mut h
declared-finishes label k is (with_either is_mut h) = declared-as-finishes label true k is (a_mut is_mut) h

-- a statement that begins with a name
targeted-finishes : {p : ProgramTree} {t : Lexeme} {ts : List Lexeme} (k : StatementTree → ParserState)
    → t.kind ≡ token.Name → Finishes p (targeted t k) ts → ReadsThen p (λ ts. ParsesStatement (t ∷ ts)) k ts
targeted-finishes {t = t} k is (with_either {t = equals} is_equals h) =
    let w = right-end-finishes (λ v. k (tree.assignment equals.place t.place t.text v)) h in
    (_, _, an_assignment is is_equals w.2.1 w.2.2, w.3)
targeted-finishes {t = t} k is (with_other (with_either {t = opening} opens
    (with_expr {e = i} in_i (with_token closes (with_token {t = equals} is_equals h))))) =
    let w = right-end-finishes (λ v. k (tree.element_assignment equals.place opening.place t.place t.text i v)) h in
    (_, _, an_element_assignment is opens in_i closes is_equals w.2.1 w.2.2, w.3)
targeted-finishes {t = t} k is (with_other (with_other (with_token {t = opening} opens h))) =
    let k' = λ (c : CallTree). k (tree.call c) in
    let w = ended-finishes (λ ts. ParsesCall (t ∷ opening ∷ ts)) (token.Sign sign.Semicolon) k'
    (call-finishes (λ c. one (token.Sign sign.Semicolon) (λ _. k' c)) is opens h) in
    (_, _, a_call_statement w.2.1 w.2.2, w.3)

-- a conditional, read after its keyword
conditional-finishes : {p : ProgramTree} {t : Lexeme} {ts : List Lexeme} (k : StatementTree → ParserState)
    → t.kind ≡ token.Keyword If → Finishes p (conditioned t.place k) ts
    → ReadsThen p (λ ts. ParsesConditional (t ∷ ts)) k ts
conditional-finishes k is (with_token opens (with_expr in_condition (with_token closes
    (with_token opens' (with_statements in_arm (with_token closes' (with_otherwise in_others done))))))) =
    (_, _, a_conditional is opens in_condition closes (a_block opens' in_arm closes') in_others, done)

pub after-else-finishes : {p : ProgramTree} {t : Lexeme} {ts : List Lexeme} (k : BlockTree → ParserState)
    → t.kind ≡ token.Keyword Else → Finishes p (after_else k) ts → ReadsThen p (λ ts. ParsesOtherwise (t ∷ ts)) k ts
after-else-finishes k is (with_other (with_token opens (with_statements in_arm (with_token closes done)))) =
    (_, _, an_else is (a_block opens in_arm closes), done)
after-else-finishes k is (with_either is_if h) =
    let w = conditional-finishes (λ s. k (first s nothing)) is_if h in
    (_, _, an_else_if is w.2, w.3)

-- a statement, read after its first token
pub statement-finishes : {p : ProgramTree} {t : Lexeme} {ts : List Lexeme} (start : Start)
    (k : StatementTree → ParserState)
    → StartsBy t.kind start → Finishes p (statement start t k) ts → ReadsThen p (λ ts. ParsesStatement (t ∷ ts)) k ts
statement-finishes (by_label label) k is h = declared-finishes label k is h
statement-finishes by_target k is h = targeted-finishes k is h
statement-finishes by_if k is h = let w = conditional-finishes k is h in (_, _, a_conditional_statement w.2, w.3)
statement-finishes by_for k is (with_token opens (with_token is_word (with_token is_name (with_token is_from
    (with_expr in_low (with_token is_to (with_expr in_high (with_token closes
    (with_token opens' (with_statements in_body (with_token closes' done))))))))))) =
    let body = a_block opens' in_body closes' in
    (_, _, a_loop is opens is_word is_name is_from in_low is_to in_high closes body, done)
