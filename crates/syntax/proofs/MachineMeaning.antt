-- What a state of the machine stands for: the tokens that finish the program from there on.
use Rattle.std.proofs.Common.{◌≡◌, ℕ, List, ◌∷◌, ◌++◌, Option, Some}
use Rattle.syntax.specs.Below.{BlockTree, ExprTree, Kind, Label, ParameterTree, Place, ProcedureTree, ProgramTree}
use Rattle.syntax.specs.Below.{ReturnTree, WordType}
use Rattle.tokens.specs.declared.token.TokenKind.{TokenKind}
use Rattle.syntax.specs.Grammar.{ParsesExprAt, ParsesMoreExprs, ParsesMoreParameters, ParsesStatements, ParsesOtherwise}
use Rattle.syntax.specs.Grammar.{ParsesProcedures, label_of, word_of, length_of, amount_of}
use Rattle.tokens.specs.Lexeme.{Lexeme}
use Rattle.syntax.specs.private.Machine.{ParserState, procedures, one, either, a_label, a_kind, a_length, an_amount}
use Rattle.syntax.specs.private.Machine.{more_parameters, expr, more, more_exprs, statements, otherwise}

-- an expression that ends at these tokens may go on and be the tree at the rest
abbrev pub Grows : ℕ → ℕ → ExprTree → List Lexeme → ExprTree → List Lexeme → Type 0
Grows level top left tokens tree rest = (start : List Lexeme) → ParsesExprAt top start left tokens
    → ParsesExprAt level start left tokens → ParsesExprAt level start tree rest

pub data Finishes (p : ProgramTree) : ParserState → List Lexeme → Type 0 where
  with_procedures : {ps qs : List ProcedureTree} {ts : List Lexeme} → ParsesProcedures ts qs → p.procedures ≡ ps ++ qs
      → Finishes p (procedures ps) ts
  with_token : {wanted : TokenKind} {k : Lexeme → ParserState} {t : Lexeme} {ts : List Lexeme} → t.kind ≡ wanted
      → Finishes p (k t) ts → Finishes p (one wanted k) (t ∷ ts)
  with_either : {wanted : TokenKind} {next : Lexeme → ParserState} {other : ParserState} {t : Lexeme} {ts : List Lexeme}
      → t.kind ≡ wanted → Finishes p (next t) ts → Finishes p (either wanted next other) (t ∷ ts)
  with_other : {wanted : TokenKind} {next : Lexeme → ParserState} {other : ParserState} {ts : List Lexeme}
      → Finishes p other ts
      → Finishes p (either wanted next other) ts
  with_label : {k : Label → ParserState} {t : Lexeme} {ts : List Lexeme} {label : Label} → label_of t.kind ≡ Some label
      → Finishes p (k label) ts → Finishes p (a_label k) (t ∷ ts)
  with_kind : {k : Kind → ParserState} {t : Lexeme} {ts : List Lexeme} {kind : Kind} → word_of t.kind ≡ Some kind
      → Finishes p (k kind) ts → Finishes p (a_kind k) (t ∷ ts)
  with_length : {k : ℕ → ParserState} {t : Lexeme} {ts : List Lexeme} {n : ℕ} → length_of t.kind ≡ Some n
      → Finishes p (k n) ts → Finishes p (a_length k) (t ∷ ts)
  with_amount : {k : ℕ → ParserState} {t : Lexeme} {ts : List Lexeme} {n : ℕ} → amount_of t.kind ≡ Some n
      → Finishes p (k n) ts → Finishes p (an_amount k) (t ∷ ts)
  with_parameters : {ps qs : List ParameterTree} {k : List ParameterTree → ParserState} {ts rest : List Lexeme}
      → ParsesMoreParameters ts qs rest → Finishes p (k (ps ++ qs)) rest → Finishes p (more_parameters ps k) ts
  with_expr : {level : ℕ} {k : ExprTree → ParserState} {e : ExprTree} {ts rest : List Lexeme}
      → ParsesExprAt level ts e rest
      → Finishes p (k e) rest → Finishes p (expr level k) ts
  with_more : {level top : ℕ} {left e : ExprTree} {k : ExprTree → ParserState} {ts rest : List Lexeme}
      → Grows level top left ts e rest → Finishes p (k e) rest → Finishes p (more level top left k) ts
  with_exprs : {end : TokenKind} {es fs : List ExprTree} {k : List ExprTree → ParserState} {ts rest : List Lexeme}
      → ParsesMoreExprs end ts fs rest → Finishes p (k (es ++ fs)) rest → Finishes p (more_exprs end es k) ts
  with_statements : {k : BlockTree → ParserState} {b : BlockTree} {ts rest : List Lexeme} → ParsesStatements ts b rest
      → Finishes p (k b) rest → Finishes p (statements k) ts
  with_otherwise : {k : BlockTree → ParserState} {b : BlockTree} {ts rest : List Lexeme} → ParsesOtherwise ts b rest
      → Finishes p (k b) rest → Finishes p (otherwise k) ts

-- a form with its tree, which stands first, and what finishes the program after it
abbrev pub ReadsThen : {T : Type 0} → ProgramTree → (List Lexeme → T → List Lexeme → Type 0) → (T → ParserState)
    → List Lexeme → Type 0
ReadsThen {T} p Form k ts = (tree : T) × (rest : List Lexeme) × Form ts tree rest × Finishes p (k tree) rest

-- a procedure, from its parts
abbrev pub procedure_of : Option Place → Option WordType → Lexeme → List ParameterTree → BlockTree
    → Option ReturnTree → ProcedureTree
procedure_of export result t ps b r = record {
  export = export;
  result = result;
  place = t.place;
  name = t.text;
  parameters = ps;
  body = b;
  returned = r;
}
