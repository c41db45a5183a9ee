-- What the machine reads is in the grammar, and each state can be finished.
use Rattle.std.proofs.Common.{◌≡◌, ℕ, ◌≤◌, Bool, true, false, ◌&&◌, List, [], ◌∷◌, ◌++◌, Option, Some, None, refl, sym}
use Rattle.std.proofs.Common.{inl, inr, subst, ap, ◌∙◌, arith, if◌then◌else◌, append_assoc}
use Rattle.std.proofs.lemmas.List.{append-nil}
use Rattle.std.proofs.lemmas.Bool.{cases_Bool}
use Rattle.std.proofs.lemmas.Bool.Decides.{nat_tests}
use Rattle.std.proofs.lemmas.Option.{same_Some}
use Rattle.std.specs.Prelude.{nat_le}
use Rattle.std.specs.Option.{option_map, option_and_then}
use Rattle.syntax.specs.Below.{BlockTree, Boolean, ExprTree, first, Label, nothing, origin, ParameterTree, Place}
use Rattle.syntax.specs.Below.{ProcedureTree, ProgramTree, Public as PublicLabel, ReturnTree, StatementTree, WordType}
use Rattle.tokens.specs.declared.token.TokenKind.{TokenKind}
use Rattle.tokens.specs.declared.token.TokenKind.TheVariants as token
use Rattle.tokens.specs.declared.token.Keyword.TheVariants.{Public, Bool as BoolWord}
use Rattle.tokens.specs.declared.token.Sign.TheVariants.{CloseRound}
use Rattle.syntax.specs.Grammar.{label_of, word_of, length_of, amount_of, ParsesExprAt, a_number, a_true, a_false}
use Rattle.syntax.specs.Grammar.{a_name, an_element, in_brackets, a_conversion, a_select, a_prefix, a_rotation}
use Rattle.syntax.specs.Grammar.{a_binary, no_more, one_more, an_array_type, no_statement, one_statement, no_else}
use Rattle.syntax.specs.Grammar.{ParsesStatement, ParsesMoreParameters, ParsesParameter, a_word, a_fixed_array}
use Rattle.syntax.specs.Grammar.{a_mutable_array, no_more_parameters, one_more_parameter, ParsesParameters}
use Rattle.syntax.specs.Grammar.{no_parameters, some_parameters, ParsesResultType, a_void, a_type, ParsesBodyEnd}
use Rattle.syntax.specs.Grammar.{no_return, a_return, ParsesExported, not_exported, an_export, ParsesProcedure}
use Rattle.syntax.specs.Grammar.{a_procedure, no_procedure, one_procedure, IsProgram, a_program, IsBeginning}
use Rattle.tokens.specs.Lexeme.{Lexeme}
use Rattle.language.specs.Tree as tree
use Rattle.tokens.specs.declared.operators.Link.{Link}
use Rattle.tokens.specs.declared.operators.Link.TheVariants.{Operator as by_operator, Rotation as by_rotation}
use Rattle.syntax.specs.declared.parser.statement.Start.{Start}
use Rattle.syntax.specs.private.Machine.{ParserState, procedures, one, either, a_label, a_kind, a_length, an_amount}
use Rattle.syntax.specs.private.Machine.{more_parameters, expr, more, more_exprs, statements, otherwise, fits}
use Rattle.syntax.specs.private.Machine.{begins_of, link_of, link_level, link_left_level, starts_with, operand}
use Rattle.syntax.specs.private.Machine.{linked, after_else, statement, labelled, parameter, parameters}
use Rattle.syntax.specs.private.Machine.{returned, procedure_from, result_type, procedure, program, started, within}
use Rattle.syntax.specs.private.Machine.{joined, step_result, step, at_end, run}
use Rattle.syntax.proofs.MachineKinds.{kind-fits, begins-by, LinksBy, links-by, starts-by}
use Rattle.syntax.proofs.MachineMeaning.{Grows, Finishes, ReadsThen, with_procedures, with_token, with_either}
use Rattle.syntax.proofs.MachineMeaning.{with_other, with_label, with_kind, with_length, with_amount, with_parameters}
use Rattle.syntax.proofs.MachineMeaning.{with_expr, with_more, with_exprs, with_statements, with_otherwise}
use Rattle.syntax.proofs.MachineMeaning.{procedure_of}
use Rattle.syntax.proofs.SoundStatements.{operand-finishes, whole-finishes, after-else-finishes, statement-finishes}
use Rattle.tokens.specs.declared.token.Keyword.TheVariants as keyword
use Rattle.tokens.specs.declared.token.Sign.TheVariants as sign

-- a parameter, read after its label
labelled-finishes : {p : ProgramTree} {start : Lexeme} {ts : List Lexeme} {label : Label}
    (k : ParameterTree → ParserState)
    → label_of start.kind ≡ Some label → Finishes p (labelled label k) ts
    → ReadsThen p (λ ts. ParsesParameter (start ∷ ts)) k ts
labelled-finishes k is (with_other (with_kind is_kind (with_other (with_token is_name done)))) =
    (_, _, a_word is is_kind is_name, done)
labelled-finishes k is (with_other (with_kind is_kind
    (with_either opens (with_length is_length (with_token closes (with_token is_name done)))))) =
    (_, _, a_fixed_array is (an_array_type is_kind opens is_length closes) is_name, done)
labelled-finishes k is (with_either is_mut (with_kind is_kind
    (with_token opens (with_length is_length (with_token closes (with_token is_name done)))))) =
    (_, _, a_mutable_array is is_mut (an_array_type is_kind opens is_length closes) is_name, done)

parameter-finishes : {p : ProgramTree} {ts : List Lexeme} (k : ParameterTree → ParserState) → Finishes p
    (parameter k) ts
    → ReadsThen p ParsesParameter k ts
parameter-finishes k (with_label is h) = labelled-finishes k is h

-- parameters, and what they are behind a comma
abbrev ParametersAfter : List Lexeme → List ParameterTree → List Lexeme → Type 0
ParametersAfter ts qs rest = ParsesParameters ts qs rest
    × ((comma : Lexeme) → comma.kind ≡ token.Sign sign.Comma → ParsesMoreParameters (comma ∷ ts) qs rest)

-- a parameter and further ones, after some
parameter-then : {p : ProgramTree} {ts : List Lexeme} (ps : List ParameterTree) (k : List ParameterTree → ParserState)
    → ReadsThen p ParsesParameter (λ q. more_parameters (ps ++ q ∷ []) k) ts
    → ReadsThen p ParametersAfter (λ qs. k (ps ++ qs)) ts
parameter-then ps k (q, _, in_one, with_parameters {qs = qs} in_more done) = (
  q ∷ qs,
  _,
  (some_parameters in_one in_more, λ comma is. one_more_parameter is in_one in_more),
  rw append_assoc at done,
)

parameters-finishes : {p : ProgramTree} {ts : List Lexeme} (k : List ParameterTree → ParserState)
    → Finishes p (parameters k) ts → ReadsThen p ParsesParameters k ts
parameters-finishes k (with_either closes done) = (_, _, no_parameters closes, done)
parameters-finishes k (with_other h) =
    let w = parameter-then [] k (parameter-finishes (λ q. more_parameters (q ∷ []) k) h) in
    (_, _, w.2.0, w.3)

-- the end of a body
returned-finishes : {p : ProgramTree} {ts : List Lexeme} (k : Option ReturnTree → ParserState) → Finishes p
    (returned k) ts
    → ReadsThen p ParsesBodyEnd k ts
returned-finishes k (with_other (with_token closes done)) = (_, _, no_return closes, done)
returned-finishes k (with_either is (with_expr in_e (with_token ends (with_token closes done)))) =
    (_, _, a_return is in_e ends closes, done)

result-finishes : {p : ProgramTree} {ts : List Lexeme} (k : Option WordType → ParserState) → Finishes p
    (result_type k) ts
    → ReadsThen p ParsesResultType k ts
result-finishes k (with_other (with_label is (with_kind is_kind done))) = (_, _, a_type is is_kind, done)
result-finishes k (with_either is done) = (_, _, a_void is, done)

-- what follows a procedure's parameters
abbrev body_then : (List ParameterTree → BlockTree → Option ReturnTree → ParserState) → List ParameterTree → ParserState
body_then k ps = one (token.Sign sign.OpenCurly) (λ _. statements (λ b. returned (k ps b)))

-- a procedure, read after its parameters
body-finishes : {p : ProgramTree} {t opening : Lexeme} {list signature ts : List Lexeme} (export : Option Place)
    (result : Option WordType) (k : ProcedureTree → ParserState) → ParsesExported list export signature
    → ParsesResultType signature result (t ∷ opening ∷ ts) → t.kind ≡ token.Name
    → opening.kind ≡ token.Sign sign.OpenRound
    → ReadsThen p ParsesParameters (body_then (λ ps b r. k (procedure_of export result t ps b r))) ts
    → ReadsThen p (λ _. ParsesProcedure list) k ts
body-finishes {t = t} export result k is_export is_result is_name opens
    (ps, _, in_list, with_token opens' (with_statements {b = b} in_body h)) =
    let w = returned-finishes (λ r. k (procedure_of export result t ps b r)) h in
    (_, _, a_procedure is_export is_result is_name opens in_list opens' in_body w.2, w.3)

-- a procedure, read after the type of its result
procedure-from-finishes : {p : ProgramTree} {list signature ts : List Lexeme} (export : Option Place)
    (result : Option WordType) (k : ProcedureTree → ParserState) → ParsesExported list export signature
    → ParsesResultType signature result ts → Finishes p (procedure_from export result k) ts
    → ReadsThen p (λ _. ParsesProcedure list) k ts
procedure-from-finishes export result k is_export is_result (with_token {t = t} is_name (with_token opens h)) =
    body-finishes export result k is_export is_result is_name opens
    (parameters-finishes (body_then (λ ps b r. k (procedure_of export result t ps b r))) h)

-- a state that a test of the token, or a table at its kind, led to
after-token : {G : Type 0} {p : ProgramTree} {next : ParserState} {ts : List Lexeme} (what : TokenKind) (t : Lexeme)
    (x : ParserState) (o : Option ParserState) → (if fits what t.kind then Some x else o) ≡ Some next
    → Finishes p next ts
    → (t.kind ≡ what → Finishes p x ts → G) → (o ≡ Some next → G) → G
after-token what t x o e h taken other = elim (cases_Bool (fits what t.kind)) [
  | inl is ↦ taken (kind-fits what t.kind is) (rw (same_Some _ _ (rw is at e)) h)
  | inr is ↦ other (rw is at e)
]

after-map : {A G : Type 0} {p : ProgramTree} {next : ParserState} {ts : List Lexeme} (f : A → ParserState)
    (o : Option A)
    → option_map f o ≡ Some next → Finishes p next ts → ((x : A) → o ≡ Some x → Finishes p (f x) ts → G) → G
after-map f None e h k = cc
after-map f (Some x) e h k = k x refl (rw (same_Some _ _ e) h)

-- the first token of a result's type
result-step : {p : ProgramTree} {ts : List Lexeme} (k : Option WordType → ParserState) (t : Lexeme) (next : ParserState)
    → step_result t.kind k ≡ Some next → Finishes p next ts → Finishes p (result_type k) (t ∷ ts)
result-step k t next e h =
    let f = λ (label : Label). a_kind (λ kind. k (Some (record { kind = kind; label = label }))) in
    after-token (token.Keyword keyword.Void) t (k None) (option_map f (label_of t.kind)) e h
    (λ is d. with_either is d)
    (λ n. after-map f (label_of t.kind) n h (λ _ is d. with_other (with_label is d)))

-- the first token of a procedure
procedure-step : {p : ProgramTree} {ts : List Lexeme} (k : ProcedureTree → ParserState) (t : Lexeme)
    (next : ParserState)
    → step (procedure k) t ≡ Some next → Finishes p next ts → ReadsThen p (λ ts. ParsesProcedure (t ∷ ts)) k ts
procedure-step k t next e h =
    let k' = λ (export : Option Place) (result : Option WordType). procedure_from export result k in
    after-token (token.Keyword keyword.Export) t (result_type (k' (Some t.place))) (step_result t.kind (k' None)) e h
    (λ is d.
    let r = result-finishes (k' (Some t.place)) d in
    procedure-from-finishes (Some t.place) r.0 k (an_export is) r.2 r.3)
    (λ n.
    let r = result-finishes (k' None) (result-step (k' None) t next n h) in
    procedure-from-finishes None r.0 k not_exported r.2 r.3)

after-start : {G : Type 0} {p : ProgramTree} {next : ParserState} {ts : List Lexeme} (o : Option Start) (t : Lexeme)
    (k : StatementTree → ParserState) (other : Option ParserState) → started o t k other ≡ Some next
    → Finishes p next ts
    → ((start : Start) → o ≡ Some start → Finishes p (statement start t k) ts → G) → (other ≡ Some next → G) → G
after-start None t k other e h taken left = left e
after-start (Some start) t k other e h taken left = taken start refl (rw (same_Some _ _ e) h)

after-joint : {G : Type 0} {p : ProgramTree} {next : ParserState} {ts : List Lexeme} (o : Option Link) (place : Place)
    (level : ℕ) (left : ExprTree) (k : ExprTree → ParserState) (other : Option ParserState)
    → joined o place level left k other ≡ Some next → Finishes p next ts
    → ((link : Link) → o ≡ Some link → Finishes p (linked link place level left k) ts → G)
    → (other ≡ Some next → G) → G
after-joint None place level left k other e h taken ends = ends e
after-joint (Some link) place level left k other e h taken ends = taken link refl (rw (same_Some _ _ e) h)

within_some : (level top : ℕ) (o : Option Link) (link : Link) → within level top o ≡ Some link
    → (o ≡ Some link) × (level ≤ link_level link) × (link_left_level link ≤ top)
within_some level top None link e = cc
within_some level top (Some found) link e = by (nat_le level (link_level found) && nat_le (link_left_level found) top)
    refl e
  where
    by : (b : Bool) → (nat_le level (link_level found) && nat_le (link_left_level found) top) ≡ b
        → (if b then Some found else None) ≡ Some link
        → (Some found ≡ Some link) × (level ≤ link_level link) × (link_left_level link ≤ top)
    by true is e =
        let same : found ≡ link = same_Some _ _ e in
        (e, rw (← same) (grind (arith, nat_tests)), rw (← same) (grind (arith, nat_tests)))
    by false is e = cc

-- an expression at a level is one at each weaker level
pub weaken : {strong level : ℕ} {ts rest : List Lexeme} {e : ExprTree} → level ≤ strong → ParsesExprAt strong ts e rest
    → ParsesExprAt level ts e rest
weaken le (a_number is) = a_number is
weaken le (a_true is) = a_true is
weaken le (a_false is) = a_false is
weaken le (a_name is) = a_name is
weaken le (an_element is opens in_i closes) = an_element is opens in_i closes
weaken le (in_brackets opens in_x closes) = in_brackets opens in_x closes
weaken le (a_conversion is opens in_x closes) = a_conversion is opens in_x closes
weaken le (a_select is opens in_a comma in_b comma' in_c closes) =
    a_select is opens in_a comma in_b comma' in_c closes
weaken le (a_prefix is in_x) = a_prefix is in_x
weaken le (a_rotation is at in_x is_amount) = a_rotation is (omega arith) in_x is_amount
weaken le (a_binary is at in_left in_right) = a_binary is (omega arith) in_left in_right

-- a sign, its right side, and what follows
link-finishes : {p : ProgramTree} {t : Lexeme} {ts : List Lexeme} {level top : ℕ} (link : Link) (left : ExprTree)
    (k : ExprTree → ParserState) → LinksBy t.kind link → level ≤ link_level link → link_left_level link ≤ top
    → Finishes p (linked link t.place level left k) ts → ReadsThen p (λ ts. Grows level top left (t ∷ ts)) k ts
link-finishes (by_operator o) left k is low high (with_expr in_right (with_more grows done)) = (
  _,
  _,
  λ start above here. grows start (a_binary is (omega arith) (weaken high above) in_right)
      (a_binary is low (weaken high above) in_right),
  done,
)
link-finishes by_rotation left k is low high (with_amount is_amount (with_more grows done)) = (
  _,
  _,
  λ start above here. grows start (a_rotation is (omega arith) (weaken high above) is_amount)
      (a_rotation is low (weaken high above) is_amount),
  done,
)

-- one more of a list, and the rest of it
another : {p : ProgramTree} {t : Lexeme} {ts : List Lexeme} (ps : List ProcedureTree)
    → ReadsThen p (λ ts. ParsesProcedure (t ∷ ts)) (λ q. procedures (ps ++ q ∷ [])) ts
    → Finishes p (procedures ps) (t ∷ ts)
another ps (q, _, in_one, with_procedures {qs = qs} in_more is) =
    with_procedures (one_procedure in_one in_more) (is ∙ append_assoc ps (q ∷ []) qs)

comma-then : {p : ProgramTree} {ts : List Lexeme} (end : TokenKind) (es : List ExprTree)
    (k : List ExprTree → ParserState)
    (t : Lexeme) → t.kind ≡ token.Sign sign.Comma → Finishes p (expr 1 (λ x. more_exprs end (es ++ x ∷ []) k)) ts
    → Finishes p (more_exprs end es k) (t ∷ ts)
comma-then end es k t is (with_expr in_e (with_exprs in_more done)) =
    with_exprs (one_more is in_e in_more) (rw append_assoc at done)

statement-then : {p : ProgramTree} {t : Lexeme} {ts : List Lexeme} (k : BlockTree → ParserState)
    → ReadsThen p (λ ts. ParsesStatement (t ∷ ts)) (λ s. statements (λ b. k (first s b))) ts
    → Finishes p (statements k) (t ∷ ts)
statement-then k (_, _, in_one, with_statements in_more done) = with_statements (one_statement in_one in_more) done

-- a state and a token that leads on from it
pub step-finishes : {p : ProgramTree} {ts : List Lexeme} (s : ParserState) (t : Lexeme) (next : ParserState)
    → step s t ≡ Some next → Finishes p next ts → Finishes p s (t ∷ ts)
step-finishes (procedures ps) t next e h = another ps (procedure-step (λ q. procedures (ps ++ q ∷ [])) t next e h)
step-finishes (one what k) t next e h =
    after-token what t (k t) None e h (λ is d. with_token is d) (λ n. cc)
step-finishes (either what after other) t next e h =
    after-token what t (after t) (step other t) e h (λ is d. with_either is d)
    (λ n. with_other (step-finishes other t next n h))
step-finishes (a_label k) t next e h = after-map k (label_of t.kind) e h (λ _ is d. with_label is d)
step-finishes (a_kind k) t next e h = after-map k (word_of t.kind) e h (λ _ is d. with_kind is d)
step-finishes (a_length k) t next e h = after-map k (length_of t.kind) e h (λ _ is d. with_length is d)
step-finishes (an_amount k) t next e h = after-map k (amount_of t.kind) e h (λ _ is d. with_amount is d)
step-finishes (more_parameters ps k) t next e h =
    let k' = λ (q : ParameterTree). more_parameters (ps ++ q ∷ []) k in
    after-token (token.Sign sign.Comma) t (parameter k')
    (if fits (token.Sign sign.CloseRound) t.kind then Some (k ps) else None) e h
    (λ is d. let w = parameter-then ps k (parameter-finishes k' d) in with_parameters (w.2.1 t is) w.3)
    (λ n. after-token (token.Sign sign.CloseRound) t (k ps) None n h
    (λ is d. with_parameters (no_more_parameters is) (rw append-nil d)) (λ n. cc))
step-finishes (expr level k) t next e h =
    let k' = λ (x : ExprTree). more level 11 x k in
    after-map (λ b. operand b t k') (begins_of t.kind) e h
    (λ b is d.
    let w = whole-finishes level k (operand-finishes b k' (begins-by t.kind b is) d) in
    with_expr w.2 w.3)
step-finishes (more level top left k) t next e h =
    after-joint (within level top (link_of t.kind)) t.place level left k (step (k left) t) e h
    (λ link is d.
    let v = within_some level top (link_of t.kind) link is in
    let w = link-finishes link left k (links-by t.kind link v.0) v.1 v.2 d in
    with_more w.2 w.3)
    (λ n. with_more (λ start above here. here) (step-finishes (k left) t next n h))
step-finishes (more_exprs end es k) t next e h =
    let k' = λ (x : ExprTree). more_exprs end (es ++ x ∷ []) k in
    after-token (token.Sign sign.Comma) t (expr 1 k') (if fits end t.kind then Some (k es) else None) e h
    (λ is d. comma-then end es k t is d)
    (λ n. after-token end t (k es) None n h (λ is d. with_exprs (no_more is) (rw append-nil d)) (λ n. cc))
step-finishes (statements k) t next e h =
    let k' = λ (s : StatementTree). statements (λ b. k (first s b)) in
    after-start (starts_with t.kind) t k' (step (k nothing) t) e h
    (λ start is d. statement-then k (statement-finishes start k' (starts-by t.kind start is) d))
    (λ n. with_statements no_statement (step-finishes (k nothing) t next n h))
step-finishes (otherwise k) t next e h =
    after-token (token.Keyword keyword.Else) t (after_else k) (step (k nothing) t) e h
    (λ is d. let w = after-else-finishes k is d in with_otherwise w.2 w.3)
    (λ n. with_otherwise no_else (step-finishes (k nothing) t next n h))

-- what finishes from the start is a program
program-finishes : {p : ProgramTree} {ts : List Lexeme} → Finishes p program ts → IsProgram ts p
program-finishes {p = p} {ts} (with_procedures {qs = qs} in_list is) =
    subst (λ xs. IsProgram ts (record { procedures = xs })) (sym is) (a_program in_list)

abbrev made : TokenKind → Lexeme
made kind = record { kind = kind; place = origin; text = [] }

-- each state can be finished
pub finish : (s : ParserState) → (ts : List Lexeme) × (p : ProgramTree) × Finishes p s ts
finish (procedures ps) = ([], record { procedures = ps ++ [] }, with_procedures no_procedure refl)
finish (one what k) = let f = finish (k (made what)) in (_, _, with_token {t = made what} refl f.2)
finish (either what next other) = let f = finish other in (_, _, with_other f.2)
finish (a_label k) = let f = finish (k PublicLabel) in
    (_, _, with_label {t = made (token.Keyword Public)} refl f.2)
finish (a_kind k) = let f = finish (k Boolean) in (_, _, with_kind {t = made (token.Keyword BoolWord)} refl f.2)
finish (a_length k) = let f = finish (k 1) in (_, _, with_length {t = made (token.Number 1 None)} refl f.2)
finish (an_amount k) = let f = finish (k 1) in (_, _, with_amount {t = made (token.Number 1 None)} refl f.2)
finish (more_parameters ps k) = let f = finish (k (ps ++ [])) in
    (_, _, with_parameters (no_more_parameters {closing = made (token.Sign CloseRound)} refl) f.2)
finish (expr level k) = let f = finish (k (tree.name origin [])) in
    (_, _, with_expr (a_name {t = made token.Name} refl) f.2)
finish (more level top left k) = let f = finish (k left) in (_, _, with_more (λ start above here. here) f.2)
finish (more_exprs end es k) = let f = finish (k (es ++ [])) in
    (_, _, with_exprs (no_more {closing = made end} refl) f.2)
finish (statements k) = let f = finish (k nothing) in (_, _, with_statements no_statement f.2)
finish (otherwise k) = let f = finish (k nothing) in (_, _, with_otherwise no_else f.2)

at_end-finishes : (s : ParserState) (p : ProgramTree) → at_end s ≡ Some p → Finishes p s []
at_end-finishes (procedures ps) p e =
    with_procedures no_procedure (ap (λ q. q.procedures) (sym (same_Some _ _ e)) ∙ sym (append-nil ps))
at_end-finishes (either what next other) p e = with_other (at_end-finishes other p e)
at_end-finishes (more level top left k) p e =
    with_more (λ start above here. here) (at_end-finishes (k left) p e)
at_end-finishes (statements k) p e = with_statements no_statement (at_end-finishes (k nothing) p e)
at_end-finishes (otherwise k) p e = with_otherwise no_else (at_end-finishes (k nothing) p e)
at_end-finishes _ p e = cc

pub and_then_some : {A B : Type 0} (f : A → Option B) (o : Option A) (y : B) → option_and_then f o ≡ Some y
    → (x : A) × (o ≡ Some x) × (f x ≡ Some y)
and_then_some f None y e = cc
and_then_some f (Some x) y e = (x, refl, e)

run-finishes : {p : ProgramTree} {ts : List Lexeme} (front : List Lexeme) (s next : ParserState)
    → run s front ≡ Some next
    → Finishes p next ts → Finishes p s (front ++ ts)
run-finishes [] s next e h = rw (same_Some _ _ e) h
run-finishes (t ∷ front) s next e h =
    let w = and_then_some (λ x. run x front) (step s t) next e in
    step-finishes s t w.0 w.1 (run-finishes front w.0 next w.2 h)

-- tokens that the machine takes begin a program
pub begins_by_run : (front : List Lexeme) (s : ParserState) → run program front ≡ Some s → IsBeginning front
begins_by_run front s e = let f = finish s in
    (f.0, f.1, program-finishes (run-finishes front program s e f.2))

-- tokens that the machine takes to an end are a program
pub program_by_run : (ts : List Lexeme) (s : ParserState) (p : ProgramTree) → run program ts ≡ Some s
    → at_end s ≡ Some p
    → IsProgram ts p
program_by_run ts s p e last =
    rw append-nil at (program-finishes (run-finishes ts program s e (at_end-finishes s p last)))
