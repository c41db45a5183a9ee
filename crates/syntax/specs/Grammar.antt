-- The grammar. `F tokens tree rest` says that some first tokens are the form F, with this tree, and that the rest
-- stands after them.
-- One constructor is one rule.
use Rattle.std.specs.Prelude.{◌≡◌, ℕ, ◌+◌, ◌≤◌, Bool, true, false, ◌&&◌, if◌then◌else◌, List, [], ◌∷◌, ◌++◌, Option}
use Rattle.std.specs.Prelude.{Some, None}
use Rattle.std.specs.Prelude.{nat_le}
use Rattle.syntax.specs.Below.{array, assignment, binary, BinaryOperator, BlockTree, Boolean, call, called, CallTree}
use Rattle.syntax.specs.Below.{computed, conditional, convert, declaration, element, element_assignment, ExprTree}
use Rattle.syntax.specs.Below.{first, FixedArray, Kind, Label, loop, most_elements, MutableArray, name, nothing, number}
use Rattle.syntax.specs.Below.{ParameterTree, Place, prefix, PrefixOperator, ProcedureTree, ProgramTree}
use Rattle.syntax.specs.Below.{Public as PublicLabel, ReturnTree, RightTree, rotate, Secret as SecretLabel, select}
use Rattle.syntax.specs.Below.{SingleWord, StatementTree, truth, Uint16 as Uint16Kind, Uint32 as Uint32Kind}
use Rattle.syntax.specs.Below.{Uint8 as Uint8Kind, WordType}
use Rattle.tokens.specs.declared.token.TokenKind.{TokenKind}
use Rattle.tokens.specs.declared.token.TokenKind.TheVariants as token
use Rattle.tokens.specs.declared.token.Keyword.TheVariants.{Export, Void, Public, Secret, Mut, Bool as BoolWord}
use Rattle.tokens.specs.declared.token.Keyword.TheVariants.{Uint8, Uint16, Uint32, True, False, If, Else, For, From}
use Rattle.tokens.specs.declared.token.Keyword.TheVariants.{To, Return, Select}
use Rattle.tokens.specs.declared.token.Sign.{Sign}
use Rattle.tokens.specs.declared.token.Sign.TheVariants.{RotateLeft}
use Rattle.tokens.specs.declared.token.Sign.TheVariants.{OpenRound, CloseRound, OpenCurly}
use Rattle.tokens.specs.declared.token.Sign.TheVariants.{CloseCurly, OpenSquare, CloseSquare, Comma, Semicolon}
use Rattle.tokens.specs.declared.token.Sign.TheVariants.{Assign}
use Rattle.tokens.specs.declared.token.Suffix.{Suffix}
use Rattle.tokens.specs.Lexeme.{Lexeme}
pub use Rattle.tokens.specs.Operators.{prefix_of, operator_of, level_of, left_level_of, rotation_level, prefix_level}
pub use Rattle.tokens.specs.Operators.{conversion_of, suffix_kind}

-- the token is of this kind
abbrev pub Is : TokenKind → Lexeme → Type 0
Is kind t = t.kind ≡ kind

-- the token is this sign
abbrev pub IsSign : Sign → Lexeme → Type 0
IsSign sign t = t.kind ≡ token.Sign sign

-- the label that a keyword names
abbrev pub label_of : TokenKind → Option Label
label_of (token.Keyword Public) = Some PublicLabel
label_of (token.Keyword Secret) = Some SecretLabel
label_of _ = None

-- the kind of word that a keyword names
abbrev pub word_of : TokenKind → Option Kind
word_of (token.Keyword BoolWord) = Some Boolean
word_of (token.Keyword Uint8) = Some Uint8Kind
word_of (token.Keyword Uint16) = Some Uint16Kind
word_of (token.Keyword Uint32) = Some Uint32Kind
word_of _ = None

-- the number that a token without a suffix writes
abbrev pub amount_of : TokenKind → Option ℕ
amount_of (token.Number value None) = Some value
amount_of _ = None

-- an array has 1 to so many elements
abbrev pub is_length : ℕ → Bool
is_length length = nat_le 1 length && nat_le length most_elements

-- the length that a token without a suffix writes
abbrev pub length_of : TokenKind → Option ℕ
length_of (token.Number value None) = if is_length value then Some value else None
length_of _ = None

-- an expression in which no sign between operands, outside all brackets, binds below the level
pub data ParsesExprAt : ℕ → List Lexeme → ExprTree → List Lexeme → Type 0 where
  a_number : {level : ℕ} {t : Lexeme} {value : ℕ} {suffix : Option Suffix} {rest : List Lexeme}
      → Is (token.Number value suffix) t → ParsesExprAt level (t ∷ rest)
      (number t.place value (suffix_kind suffix)) rest
  a_true : {level : ℕ} {t : Lexeme} {rest : List Lexeme} → Is (token.Keyword True) t
      → ParsesExprAt level (t ∷ rest) (truth t.place true) rest
  a_false : {level : ℕ} {t : Lexeme} {rest : List Lexeme} → Is (token.Keyword False) t
      → ParsesExprAt level (t ∷ rest) (truth t.place false) rest
  a_name : {level : ℕ} {t : Lexeme} {rest : List Lexeme} → Is token.Name t
      → ParsesExprAt level (t ∷ rest) (name t.place t.text) rest
  an_element : {level : ℕ} {t opening closing : Lexeme} {inner rest : List Lexeme} {index : ExprTree}
      → Is token.Name t → IsSign OpenSquare opening → ParsesExprAt 1 inner index (closing ∷ rest)
      → IsSign CloseSquare closing
      → ParsesExprAt level (t ∷ opening ∷ inner) (element opening.place t.place t.text index) rest
  in_brackets : {level : ℕ} {opening closing : Lexeme} {inner rest : List Lexeme} {tree : ExprTree}
      → IsSign OpenRound opening → ParsesExprAt 1 inner tree (closing ∷ rest) → IsSign CloseRound closing
      → ParsesExprAt level (opening ∷ inner) tree rest
  a_conversion : {level : ℕ} {t opening closing : Lexeme} {inner rest : List Lexeme} {kind : Kind} {tree : ExprTree}
      → conversion_of t.kind ≡ Some kind → IsSign OpenRound opening → ParsesExprAt 1 inner tree (closing ∷ rest)
      → IsSign CloseRound closing → ParsesExprAt level (t ∷ opening ∷ inner) (convert t.place kind tree) rest
  a_select : {level : ℕ} {t opening comma comma' closing : Lexeme} {start second third rest : List Lexeme}
      {condition accepted otherwise : ExprTree} → Is (token.Keyword Select) t → IsSign OpenRound opening
      → ParsesExprAt 1 start condition (comma ∷ second) → IsSign Comma comma → ParsesExprAt 1 second accepted
      (comma' ∷ third)
      → IsSign Comma comma' → ParsesExprAt 1 third otherwise (closing ∷ rest) → IsSign CloseRound closing
      → ParsesExprAt level (t ∷ opening ∷ start) (select t.place condition accepted otherwise) rest
  a_prefix : {level : ℕ} {t : Lexeme} {operator : PrefixOperator} {inner rest : List Lexeme} {operand : ExprTree}
      → prefix_of t.kind ≡ Some operator → ParsesExprAt prefix_level inner operand rest
      → ParsesExprAt level (t ∷ inner) (prefix t.place operator operand) rest
  a_rotation : {level : ℕ} {t number : Lexeme} {amount : ℕ} {start rest : List Lexeme} {operand : ExprTree}
      → IsSign RotateLeft t → level ≤ rotation_level → ParsesExprAt rotation_level start operand (t ∷ number ∷ rest)
      → amount_of number.kind ≡ Some amount → ParsesExprAt level start (rotate t.place operand amount) rest
  a_binary : {level : ℕ} {t : Lexeme} {operator : BinaryOperator} {start second rest : List Lexeme}
      {left right : ExprTree} → operator_of t.kind ≡ Some operator → level ≤ level_of operator
      → ParsesExprAt (left_level_of operator) start left (t ∷ second) → ParsesExprAt
      (level_of operator + 1) second right rest
      → ParsesExprAt level start (binary t.place operator left right) rest

-- an expression
abbrev pub ParsesExpr : List Lexeme → ExprTree → List Lexeme → Type 0
ParsesExpr = ParsesExprAt 1

-- what stands after an expression of a list: further ones, each after a comma, and the token that ends the list
pub data ParsesMoreExprs (end : TokenKind) : List Lexeme → List ExprTree → List Lexeme → Type 0 where
  no_more : {closing : Lexeme} {rest : List Lexeme} → Is end closing → ParsesMoreExprs end (closing ∷ rest) [] rest
  one_more : {comma : Lexeme} {list second rest : List Lexeme} {tree : ExprTree} {trees : List ExprTree}
      → IsSign Comma comma → ParsesExpr list tree second → ParsesMoreExprs end second trees rest
      → ParsesMoreExprs end (comma ∷ list) (tree ∷ trees) rest

-- expressions and the token that ends them
pub data ParsesSomeExprs (end : TokenKind) : List Lexeme → List ExprTree → List Lexeme → Type 0 where
  some_exprs : {list second rest : List Lexeme} {tree : ExprTree} {trees : List ExprTree} → ParsesExpr list tree second
      → ParsesMoreExprs end second trees rest → ParsesSomeExprs end list (tree ∷ trees) rest

-- arguments and the closing bracket
pub data ParsesArguments : List Lexeme → List ExprTree → List Lexeme → Type 0 where
  no_arguments : {closing : Lexeme} {rest : List Lexeme} → IsSign CloseRound closing
      → ParsesArguments (closing ∷ rest) [] rest
  some_arguments : {list rest : List Lexeme} {trees : List ExprTree}
      → ParsesSomeExprs (token.Sign CloseRound) list trees rest → ParsesArguments list trees rest

-- a call
pub data ParsesCall : List Lexeme → CallTree → List Lexeme → Type 0 where
  a_call : {t opening : Lexeme} {list rest : List Lexeme} {trees : List ExprTree} → Is token.Name t
      → IsSign OpenRound opening → ParsesArguments list trees rest
      → ParsesCall (t ∷ opening ∷ list) (record { place = t.place; name = t.text; arguments = trees }) rest

-- a right side
pub data ParsesRightSide : List Lexeme → RightTree → List Lexeme → Type 0 where
  a_call_value : {list rest : List Lexeme} {tree : CallTree} → ParsesCall list tree rest → ParsesRightSide list
      (called tree) rest
  a_value : {list rest : List Lexeme} {tree : ExprTree} → ParsesExpr list tree rest → ParsesRightSide list
      (computed tree) rest

-- `mut`, where it stands
pub data ParsesMutable : List Lexeme → Bool → List Lexeme → Type 0 where
  no_mut : {rest : List Lexeme} → ParsesMutable rest false rest
  a_mut : {t : Lexeme} {rest : List Lexeme} → Is (token.Keyword Mut) t → ParsesMutable (t ∷ rest) true rest

-- an array's kind and length, as `uint32[8]`
pub data ParsesArrayType : List Lexeme → Kind → ℕ → List Lexeme → Type 0 where
  an_array_type : {word opening number closing : Lexeme} {rest : List Lexeme} {kind : Kind} {length : ℕ}
      → word_of word.kind ≡ Some kind → IsSign OpenSquare opening → length_of number.kind ≡ Some length
      → IsSign CloseSquare closing → ParsesArrayType (word ∷ opening ∷ number ∷ closing ∷ rest) kind length rest

-- an array's first values, where they are written
pub data ParsesFirstValues : List Lexeme → Option (List ExprTree) → List Lexeme → Type 0 where
  no_values : {rest : List Lexeme} → ParsesFirstValues rest None rest
  some_values : {equals opening : Lexeme} {list rest : List Lexeme} {trees : List ExprTree} → IsSign Assign equals
      → IsSign OpenCurly opening → ParsesSomeExprs (token.Sign CloseCurly) list trees rest
      → ParsesFirstValues (equals ∷ opening ∷ list) (Some trees) rest

mutual
  -- a statement
  pub data ParsesStatement : List Lexeme → StatementTree → List Lexeme → Type 0 where
    a_declaration : {start second t equals semicolon : Lexeme} {list right rest : List Lexeme} {label : Label}
        {mutable : Bool} {kind : Kind} {tree : RightTree} → label_of start.kind ≡ Some label
        → ParsesMutable list mutable (second ∷ t ∷ equals ∷ right) → word_of second.kind ≡ Some kind → Is token.Name t
        → IsSign Assign equals → ParsesRightSide right tree (semicolon ∷ rest) → IsSign Semicolon semicolon
        → ParsesStatement (start ∷ list) (declaration t.place label mutable kind t.text tree) rest
    an_array : {start t semicolon : Lexeme} {list second values rest : List Lexeme} {label : Label} {mutable : Bool}
        {kind : Kind} {length : ℕ} {trees : Option (List ExprTree)} → label_of start.kind ≡ Some label
        → ParsesMutable list mutable second → ParsesArrayType second kind length (t ∷ values) → Is token.Name t
        → ParsesFirstValues values trees (semicolon ∷ rest) → IsSign Semicolon semicolon
        → ParsesStatement (start ∷ list) (array t.place label mutable kind length t.text trees) rest
    an_assignment : {t equals semicolon : Lexeme} {right rest : List Lexeme} {tree : RightTree} → Is token.Name t
        → IsSign Assign equals → ParsesRightSide right tree (semicolon ∷ rest) → IsSign Semicolon semicolon
        → ParsesStatement (t ∷ equals ∷ right) (assignment equals.place t.place t.text tree) rest
    an_element_assignment : {t opening closing equals semicolon : Lexeme} {inner right rest : List Lexeme}
        {index : ExprTree} {tree : RightTree} → Is token.Name t → IsSign OpenSquare opening
        → ParsesExpr inner index (closing ∷ equals ∷ right) → IsSign CloseSquare closing → IsSign Assign equals
        → ParsesRightSide right tree (semicolon ∷ rest) → IsSign Semicolon semicolon
        → ParsesStatement (t ∷ opening ∷ inner)
        (element_assignment equals.place opening.place t.place t.text index tree)
        rest
    a_call_statement : {semicolon : Lexeme} {list rest : List Lexeme} {tree : CallTree}
        → ParsesCall list tree (semicolon ∷ rest) → IsSign Semicolon semicolon → ParsesStatement list (call tree) rest
    a_conditional_statement : {list rest : List Lexeme} {tree : StatementTree} → ParsesConditional list tree rest
        → ParsesStatement list tree rest
    a_loop : {t opening word counter from to closing : Lexeme} {low high body rest : List Lexeme}
        {start end : ExprTree} {trees : BlockTree} → Is (token.Keyword For) t → IsSign OpenRound opening
        → Is (token.Keyword Uint32) word → Is token.Name counter → Is (token.Keyword From) from
        → ParsesExpr low start (to ∷ high) → Is (token.Keyword To) to → ParsesExpr high end (closing ∷ body)
        → IsSign CloseRound closing → ParsesBlock body trees rest
        → ParsesStatement (t ∷ opening ∷ word ∷ counter ∷ from ∷ low)
        (loop t.place counter.place counter.text start end trees) rest

  -- a conditional
  pub data ParsesConditional : List Lexeme → StatementTree → List Lexeme → Type 0 where
    a_conditional : {t opening closing : Lexeme} {list arm others rest : List Lexeme} {condition : ExprTree}
        {accepted otherwise : BlockTree} → Is (token.Keyword If) t → IsSign OpenRound opening
        → ParsesExpr list condition (closing ∷ arm) → IsSign CloseRound closing → ParsesBlock arm accepted others
        → ParsesOtherwise others otherwise rest
        → ParsesConditional (t ∷ opening ∷ list) (conditional t.place condition accepted otherwise) rest

  -- statements in their order
  pub data ParsesStatements : List Lexeme → BlockTree → List Lexeme → Type 0 where
    no_statement : {rest : List Lexeme} → ParsesStatements rest nothing rest
    one_statement : {list others rest : List Lexeme} {tree : StatementTree} {trees : BlockTree}
        → ParsesStatement list tree others → ParsesStatements others trees rest → ParsesStatements list
        (first tree trees) rest

  -- statements in curly brackets
  pub data ParsesBlock : List Lexeme → BlockTree → List Lexeme → Type 0 where
    a_block : {opening closing : Lexeme} {list rest : List Lexeme} {trees : BlockTree} → IsSign OpenCurly opening
        → ParsesStatements list trees (closing ∷ rest) → IsSign CloseCurly closing → ParsesBlock
        (opening ∷ list) trees rest

  -- the second arm, where there is one: a block, or one more conditional
  pub data ParsesOtherwise : List Lexeme → BlockTree → List Lexeme → Type 0 where
    no_else : {rest : List Lexeme} → ParsesOtherwise rest nothing rest
    an_else : {t : Lexeme} {arm rest : List Lexeme} {trees : BlockTree} → Is (token.Keyword Else) t
        → ParsesBlock arm trees rest → ParsesOtherwise (t ∷ arm) trees rest
    an_else_if : {t : Lexeme} {list rest : List Lexeme} {tree : StatementTree} → Is (token.Keyword Else) t
        → ParsesConditional list tree rest → ParsesOtherwise (t ∷ list) (first tree nothing) rest

-- a parameter
pub data ParsesParameter : List Lexeme → ParameterTree → List Lexeme → Type 0 where
  a_word : {start second t : Lexeme} {rest : List Lexeme} {label : Label} {kind : Kind}
      → label_of start.kind ≡ Some label → word_of second.kind ≡ Some kind → Is token.Name t
      → ParsesParameter (start ∷ second ∷ t ∷ rest)
      (record { label = label; kind = kind; form = SingleWord; length = 1; place = t.place; name = t.text }) rest
  a_fixed_array : {start t : Lexeme} {list rest : List Lexeme} {label : Label} {kind : Kind} {length : ℕ}
      → label_of start.kind ≡ Some label → ParsesArrayType list kind length (t ∷ rest) → Is token.Name t
      → ParsesParameter (start ∷ list) (record {
        label = label;
        kind = kind;
        form = FixedArray;
        length = length;
        place = t.place;
        name = t.text;
      }) rest
  a_mutable_array : {start word t : Lexeme} {list rest : List Lexeme} {label : Label} {kind : Kind} {length : ℕ}
      → label_of start.kind ≡ Some label → Is (token.Keyword Mut) word → ParsesArrayType list kind length (t ∷ rest)
      → Is token.Name t
      → ParsesParameter (start ∷ word ∷ list) (record {
        label = label;
        kind = kind;
        form = MutableArray;
        length = length;
        place = t.place;
        name = t.text;
      }) rest

-- what stands after a parameter: further ones, each after a comma, and the closing bracket
pub data ParsesMoreParameters : List Lexeme → List ParameterTree → List Lexeme → Type 0 where
  no_more_parameters : {closing : Lexeme} {rest : List Lexeme} → IsSign CloseRound closing
      → ParsesMoreParameters (closing ∷ rest) [] rest
  one_more_parameter : {comma : Lexeme} {list second rest : List Lexeme} {tree : ParameterTree}
      {trees : List ParameterTree} → IsSign Comma comma → ParsesParameter list tree second
      → ParsesMoreParameters second trees rest → ParsesMoreParameters (comma ∷ list) (tree ∷ trees) rest

-- parameters and the closing bracket
pub data ParsesParameters : List Lexeme → List ParameterTree → List Lexeme → Type 0 where
  no_parameters : {closing : Lexeme} {rest : List Lexeme} → IsSign CloseRound closing
      → ParsesParameters (closing ∷ rest) [] rest
  some_parameters : {list second rest : List Lexeme} {tree : ParameterTree} {trees : List ParameterTree}
      → ParsesParameter list tree second → ParsesMoreParameters second trees rest → ParsesParameters list
      (tree ∷ trees) rest

-- the type of a result, where there is one
pub data ParsesResultType : List Lexeme → Option WordType → List Lexeme → Type 0 where
  a_void : {t : Lexeme} {rest : List Lexeme} → Is (token.Keyword Void) t → ParsesResultType (t ∷ rest) None rest
  a_type : {start second : Lexeme} {rest : List Lexeme} {label : Label} {kind : Kind}
      → label_of start.kind ≡ Some label → word_of second.kind ≡ Some kind
      → ParsesResultType (start ∷ second ∷ rest) (Some (record { kind = kind; label = label })) rest

-- `return` and the closing bracket of a body
pub data ParsesBodyEnd : List Lexeme → Option ReturnTree → List Lexeme → Type 0 where
  no_return : {closing : Lexeme} {rest : List Lexeme} → IsSign CloseCurly closing → ParsesBodyEnd
      (closing ∷ rest) None rest
  a_return : {t semicolon closing : Lexeme} {list rest : List Lexeme} {tree : ExprTree} → Is (token.Keyword Return) t
      → ParsesExpr list tree (semicolon ∷ closing ∷ rest) → IsSign Semicolon semicolon → IsSign CloseCurly closing
      → ParsesBodyEnd (t ∷ list) (Some (record { place = t.place; value = tree })) rest

-- `export`, where it stands
pub data ParsesExported : List Lexeme → Option Place → List Lexeme → Type 0 where
  not_exported : {rest : List Lexeme} → ParsesExported rest None rest
  an_export : {t : Lexeme} {rest : List Lexeme} → Is (token.Keyword Export) t
      → ParsesExported (t ∷ rest) (Some t.place) rest

-- a procedure
pub data ParsesProcedure : List Lexeme → ProcedureTree → List Lexeme → Type 0 where
  a_procedure : {t opening opening' : Lexeme} {list signature parameters body end rest : List Lexeme}
      {export : Option Place} {result : Option WordType} {own : List ParameterTree} {trees : BlockTree}
      {returned : Option ReturnTree} → ParsesExported list export signature
      → ParsesResultType signature result (t ∷ opening ∷ parameters) → Is token.Name t → IsSign OpenRound opening
      → ParsesParameters parameters own (opening' ∷ body) → IsSign OpenCurly opening' → ParsesStatements body trees end
      → ParsesBodyEnd end returned rest
      → ParsesProcedure list (record {
        export = export;
        result = result;
        place = t.place;
        name = t.text;
        parameters = own;
        body = trees;
        returned = returned;
      }) rest

-- procedures in their order
pub data ParsesProcedures : List Lexeme → List ProcedureTree → Type 0 where
  no_procedure : ParsesProcedures [] []
  one_procedure : {list others : List Lexeme} {tree : ProcedureTree} {trees : List ProcedureTree}
      → ParsesProcedure list tree others → ParsesProcedures others trees → ParsesProcedures list (tree ∷ trees)

-- the tokens are a program
pub data IsProgram : List Lexeme → ProgramTree → Type 0 where
  a_program : {list : List Lexeme} {trees : List ProcedureTree} → ParsesProcedures list trees
      → IsProgram list (record { procedures = trees })

-- some program begins with the tokens
abbrev pub IsBeginning : List Lexeme → Type 0
IsBeginning tokens = (others : List Lexeme) × (tree : ProgramTree) × IsProgram (tokens ++ others) tree
