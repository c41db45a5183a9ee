-- The machine reads each program, to its tree.
use Rattle.std.proofs.Common.{◌≡◌, ℕ, Bool, false, List, [], ◌∷◌, ◌++◌, Option, Some, None, refl, ap, ◌∙◌}
use Rattle.std.proofs.Common.{append_assoc}
use Rattle.std.proofs.lemmas.List.{append-nil}
use Rattle.std.specs.Option.{option_and_then}
use Rattle.syntax.specs.Below.{BlockTree, CallTree, first, Kind, Label, nothing, ParameterTree, Place, ProcedureTree}
use Rattle.syntax.specs.Below.{ProgramTree, ReturnTree, StatementTree, WordType}
use Rattle.syntax.specs.Grammar.{label_of, word_of, a_call, ParsesMutable, no_mut, a_mut, ParsesArrayType}
use Rattle.syntax.specs.Grammar.{an_array_type, ParsesStatement, a_declaration, an_array, an_assignment}
use Rattle.syntax.specs.Grammar.{an_element_assignment, a_call_statement, a_conditional_statement, a_loop}
use Rattle.syntax.specs.Grammar.{ParsesConditional, a_conditional, ParsesStatements, no_statement, one_statement}
use Rattle.syntax.specs.Grammar.{ParsesBlock, a_block, ParsesOtherwise, no_else, an_else, an_else_if, ParsesParameter}
use Rattle.syntax.specs.Grammar.{a_word, a_fixed_array, a_mutable_array, ParsesMoreParameters, no_more_parameters}
use Rattle.syntax.specs.Grammar.{one_more_parameter, ParsesParameters, no_parameters, some_parameters, ParsesResultType}
use Rattle.syntax.specs.Grammar.{a_void, a_type, ParsesBodyEnd, no_return, a_return, ParsesExported, not_exported}
use Rattle.syntax.specs.Grammar.{an_export, ParsesProcedure, a_procedure, ParsesProcedures, no_procedure, one_procedure}
use Rattle.syntax.specs.Grammar.{IsProgram, a_program, IsBeginning}
use Rattle.tokens.specs.Lexeme.{Lexeme}
use Rattle.language.specs.Tree as tree
use Rattle.syntax.specs.declared.parser.statement.Start.{Start}
use Rattle.syntax.specs.private.Machine.{ParserState, procedures, one, more_parameters, statements, otherwise, fits}
use Rattle.syntax.specs.private.Machine.{starts_with}
use Rattle.syntax.specs.private.Machine.{declared_array, declared_as, declared, block, conditioned}
use Rattle.syntax.specs.private.Machine.{statement, parameter, parameters, returned, procedure_from, result_type}
use Rattle.syntax.specs.private.Machine.{exported, procedure, program, started, step, at_end, run}
use Rattle.syntax.proofs.MachineKinds.{label-starts, unlike}
use Rattle.syntax.proofs.MachineMeaning.{procedure_of}
use Rattle.syntax.proofs.MachineSteps.{start-step, more_statements, after_parameters, before_else}
use Rattle.syntax.proofs.MachineSound.{and_then_some}
use Rattle.syntax.proofs.MachineExpressions.{ParserMoves, stays, step-moves, IsSome, alike-moves, Lacks, lacks-some}
use Rattle.syntax.proofs.MachineExpressions.{one-moves, either-moves, other-moves}
use Rattle.syntax.proofs.MachineExpressions.{label-moves, kind-moves, length-moves, expr-one-moves, arguments-moves}
use Rattle.syntax.proofs.MachineExpressions.{right-end-moves, values-moves}
use Rattle.tokens.specs.declared.token.TokenKind.TheVariants as token
use Rattle.tokens.specs.declared.token.Keyword.TheVariants as keyword
use Rattle.tokens.specs.declared.token.Sign.TheVariants as sign

mutable-moves : {list ts rest : List Lexeme} {last : ParserState} {label : Label} {mutable : Bool}
    (k : StatementTree → ParserState) → ParsesMutable list mutable ts → Lacks (token.Keyword keyword.Mut) ts
    → ParserMoves (declared_as label mutable k) ts last rest → ParserMoves (declared label k) list last rest
mutable-moves k no_mut lacks h = other-moves lacks h
mutable-moves k (a_mut is) lacks h = either-moves is h

array-lacks : {ts rest : List Lexeme} {kind : Kind} {n : ℕ} → ParsesArrayType ts kind n rest
    → Lacks (token.Keyword keyword.Mut) ts
array-lacks (an_array_type is opens is_length closes) = unlike word_of (token.Keyword keyword.Mut) refl is

array-moves : {ts tail rest : List Lexeme} {last : ParserState} {kind : Kind} {n : ℕ} {label : Label} {mutable : Bool}
    (k : StatementTree → ParserState) → ParsesArrayType ts kind n tail
    → ParserMoves (declared_array label mutable kind n k) tail last rest → ParserMoves
    (declared_as label mutable k) ts last rest
array-moves k (an_array_type is opens is_length closes) h =
    kind-moves is (either-moves opens (length-moves is_length (one-moves closes h)))

-- what stands next begins no statement, and is no `else`
abbrev Ends : List Lexeme → Type 0
Ends [] = ⊥
Ends (t ∷ ts) = (starts_with t.kind ≡ None) × (fits (token.Keyword keyword.Else) t.kind ≡ false)

ends-lacks : (ts : List Lexeme) → Ends ts → Lacks (token.Keyword keyword.Else) ts
ends-lacks [] h = absurd h
ends-lacks (t ∷ ts) h = h.1

conditional-lacks : {ts rest : List Lexeme} {s : StatementTree} → ParsesConditional ts s rest
    → Lacks (token.Keyword keyword.Else) ts
conditional-lacks (a_conditional is opens in_condition closes in_arm in_other) =
    ap (fits (token.Keyword keyword.Else)) is

statement-lacks : {ts rest : List Lexeme} {s : StatementTree} → ParsesStatement ts s rest
    → Lacks (token.Keyword keyword.Else) ts
statement-lacks (a_declaration is is_mutable is_kind is_name is_equals in_right ends) =
    unlike label_of (token.Keyword keyword.Else) refl is
statement-lacks (an_array is is_mutable in_type is_name in_list ends) =
    unlike label_of (token.Keyword keyword.Else) refl is
statement-lacks (an_assignment is is_equals in_right ends) = ap (fits (token.Keyword keyword.Else)) is
statement-lacks (an_element_assignment is opens in_i closes is_equals in_right ends) =
    ap (fits (token.Keyword keyword.Else)) is
statement-lacks (a_call_statement (a_call is opens in_list) ends) = ap (fits (token.Keyword keyword.Else)) is
statement-lacks (a_conditional_statement h) = conditional-lacks h
statement-lacks (a_loop is opens is_word is_name is_from in_low is_to in_high closes in_body) =
    ap (fits (token.Keyword keyword.Else)) is

statements-lacks : {ts rest : List Lexeme} {b : BlockTree} → ParsesStatements ts b rest
    → Lacks (token.Keyword keyword.Else) rest → Lacks (token.Keyword keyword.Else) ts
statements-lacks no_statement h = h
statements-lacks (one_statement in_one in_more) h = statement-lacks in_one

start-moves : {k : BlockTree → ParserState} {t : Lexeme} {ts rest : List Lexeme} {start : Start} {last : ParserState}
    → starts_with t.kind ≡ Some start → ParserMoves (statement start t (more_statements k)) ts last rest
    → ParserMoves (statements k) (t ∷ ts) last rest
start-moves {k} {t} {start = start} is h = step-moves (start-step k t start is) h

end-moves : {k : BlockTree → ParserState} {last : ParserState} {rest : List Lexeme} (ts : List Lexeme) → Ends ts
    → ParserMoves (k nothing) ts last rest → ParserMoves (statements k) ts last rest
end-moves [] ends h = absurd ends
end-moves {k} (t ∷ ts) ends h = record {
  same = ap (λ o. option_and_then (λ n. run n ts) (started o t (more_statements k) (step (k nothing) t))) ends.0
      ∙ h.same;
}

-- a block's first token is no `if`
block-lacks : {ts rest : List Lexeme} {b : BlockTree} → ParsesBlock ts b rest → Lacks (token.Keyword keyword.If) ts
block-lacks (a_block opens in_list closes) = ap (fits (token.Keyword keyword.If)) opens

mutual
  statement-moves : {ts tail rest : List Lexeme} {s : StatementTree} {k : BlockTree → ParserState} {last : ParserState}
      → ParsesStatement ts s tail → Lacks (token.Keyword keyword.Else) tail
      → ParserMoves (more_statements k s) tail last rest → ParserMoves (statements k) ts last rest
  statement-moves {k = k} (a_declaration {t = t} {label = label} {mutable} {kind} is is_mutable is_kind is_name
      is_equals in_right ends) lacks h =
      start-moves (label-starts _ _ is)
      (mutable-moves (more_statements k) is_mutable (unlike word_of (token.Keyword keyword.Mut) refl is_kind)
      (kind-moves is_kind
      (other-moves (ap (fits (token.Sign sign.OpenSquare)) is_name)
      (one-moves is_name (one-moves is_equals
      (right-end-moves (λ r. more_statements k (tree.declaration t.place label mutable kind t.text r)) in_right ends
      h))))))
  statement-moves {k = k} (an_array {t = t} {label = label} {mutable} {kind} {length} is is_mutable in_type is_name
      in_list ends) lacks h =
      start-moves (label-starts _ _ is)
      (mutable-moves (more_statements k) is_mutable (array-lacks in_type)
      (array-moves (more_statements k) in_type (one-moves is_name
      (values-moves (λ vs. more_statements k (tree.array t.place label mutable kind length t.text vs)) in_list ends
      h))))
  statement-moves {k = k} (an_assignment {t} {equals} is is_equals in_right ends) lacks h =
      start-moves (ap starts_with is)
      (either-moves is_equals
      (right-end-moves (λ r. more_statements k (tree.assignment equals.place t.place t.text r)) in_right ends h))
  statement-moves {k = k} (an_element_assignment {t} {opening} {equals = equals} {index = i} is opens in_i closes
      is_equals in_right ends) lacks h =
      start-moves (ap starts_with is)
      (other-moves (ap (fits (token.Sign sign.Assign)) opens)
      (either-moves opens (expr-one-moves ((refl, refl), refl) in_i closes
      (one-moves is_equals
      (right-end-moves
      (λ r. more_statements k (tree.element_assignment equals.place opening.place t.place t.text i r)) in_right ends
      h)))))
  statement-moves {k = k} (a_call_statement (a_call {t} is opens in_list) ends) lacks h =
      start-moves (ap starts_with is)
      (other-moves (ap (fits (token.Sign sign.Assign)) opens)
      (other-moves (ap (fits (token.Sign sign.OpenSquare)) opens)
      (one-moves opens
      (arguments-moves (λ es. one (token.Sign sign.Semicolon)
      (λ _. more_statements k (tree.call (record { place = t.place; name = t.text; arguments = es })))) in_list
      (one-moves ends h)))))
  statement-moves {k = k} (a_conditional_statement in_tree) lacks h =
      conditional-moves (more_statements k) in_tree lacks h (λ t ts is m. start-moves (ap starts_with is) m)
  statement-moves (a_loop is opens is_word is_name is_from in_low is_to in_high closes in_body) lacks h =
      start-moves (ap starts_with is)
      (one-moves opens (one-moves is_word (one-moves is_name (one-moves is_from
      (expr-one-moves ((refl, refl), refl) in_low is_to
      (expr-one-moves ((refl, refl), refl) in_high closes (block-moves in_body h)))))))

  -- a conditional, from a state that its keyword leads on from
  conditional-moves : {ts tail rest : List Lexeme} {s : StatementTree} {from last : ParserState}
      (k : StatementTree → ParserState) → ParsesConditional ts s tail → Lacks (token.Keyword keyword.Else) tail
      → ParserMoves (k s) tail last rest → ((t : Lexeme) (ts : List Lexeme) → t.kind ≡ token.Keyword keyword.If
      → ParserMoves (conditioned t.place k) ts last rest → ParserMoves from (t ∷ ts) last rest)
      → ParserMoves from ts last rest
  conditional-moves k (a_conditional is opens in_condition closes in_arm in_others) lacks h begun =
      begun _ _ is
      (one-moves opens (expr-one-moves ((refl, refl), refl) in_condition closes
      (block-moves in_arm (otherwise-moves in_others lacks h))))

  statements-moves : {ts rest : List Lexeme} {b : BlockTree} {k : BlockTree → ParserState} {last : ParserState}
      (tail : List Lexeme) → ParsesStatements ts b tail → Ends tail → ParserMoves (k b) tail last rest
      → ParserMoves (statements k) ts last rest
  statements-moves tail no_statement ends h = end-moves tail ends h
  statements-moves tail (one_statement in_one in_more) ends h =
      statement-moves in_one (statements-lacks in_more (ends-lacks tail ends)) (statements-moves tail in_more ends h)

  block-moves : {ts tail rest : List Lexeme} {b : BlockTree} {k : BlockTree → ParserState} {last : ParserState}
      → ParsesBlock ts b tail → ParserMoves (k b) tail last rest → ParserMoves (block k) ts last rest
  block-moves (a_block opens in_list closes) h =
      one-moves opens
      (statements-moves _ in_list (ap starts_with closes, ap (fits (token.Keyword keyword.Else)) closes)
      (one-moves closes h))

  otherwise-moves : {ts tail rest : List Lexeme} {b : BlockTree} {k : BlockTree → ParserState} {last : ParserState}
      → ParsesOtherwise ts b tail → Lacks (token.Keyword keyword.Else) tail → ParserMoves (k b) tail last rest
      → ParserMoves (otherwise k) ts last rest
  otherwise-moves {k = k} (no_else {rest}) lacks h =
      alike-moves (before_else k) rest (lacks-some (token.Keyword keyword.Else) rest lacks) (λ t. refl)
      (other-moves lacks h)
  otherwise-moves {k = k} (an_else is in_arm) lacks h =
      alike-moves (before_else k) _ tt (λ t. refl)
      (either-moves is (other-moves (block-lacks in_arm) (block-moves in_arm h)))
  otherwise-moves {k = k} (an_else_if is in_tree) lacks h =
      alike-moves (before_else k) _ tt (λ t. refl)
      (either-moves is
      (conditional-moves (λ s. k (first s nothing)) in_tree lacks h (λ t ts is_if m. either-moves is_if m)))

-- parameters
parameter-moves : {ts tail rest : List Lexeme} {q : ParameterTree} {last : ParserState}
    (k : ParameterTree → ParserState)
    → ParsesParameter ts q tail → ParserMoves (k q) tail last rest → ParserMoves (parameter k) ts last rest
parameter-moves k (a_word is is_kind is_name) h =
    label-moves is
    (other-moves (unlike word_of (token.Keyword keyword.Mut) refl is_kind)
    (kind-moves is_kind (other-moves (ap (fits (token.Sign sign.OpenSquare)) is_name) (one-moves is_name h))))
parameter-moves k (a_fixed_array is (an_array_type is_kind opens is_length closes) is_name) h =
    label-moves is
    (other-moves (unlike word_of (token.Keyword keyword.Mut) refl is_kind)
    (kind-moves is_kind
    (either-moves opens (length-moves is_length (one-moves closes (one-moves is_name h))))))
parameter-moves k (a_mutable_array is is_mut (an_array_type is_kind opens is_length closes) is_name) h =
    label-moves is
    (either-moves is_mut (kind-moves is_kind
    (one-moves opens (length-moves is_length (one-moves closes (one-moves is_name h))))))

more-parameters-moves : {ts tail rest : List Lexeme} {qs : List ParameterTree} {last : ParserState}
    (ps : List ParameterTree) (k : List ParameterTree → ParserState) → ParsesMoreParameters ts qs tail
    → ParserMoves (k (ps ++ qs)) tail last rest → ParserMoves (more_parameters ps k) ts last rest
more-parameters-moves ps k (no_more_parameters is) h =
    alike-moves (after_parameters ps k) _ tt (λ t. refl)
    (other-moves (ap (fits (token.Sign sign.Comma)) is) (one-moves is (rw append-nil at h)))
more-parameters-moves ps k (one_more_parameter {tree = q} is in_one in_more) h =
    alike-moves (after_parameters ps k) _ tt (λ t. refl)
    (either-moves is
    (parameter-moves (λ q. more_parameters (ps ++ q ∷ []) k) in_one
    (more-parameters-moves (ps ++ q ∷ []) k in_more (rw append_assoc h))))

parameter-lacks : {ts rest : List Lexeme} {q : ParameterTree} → ParsesParameter ts q rest
    → Lacks (token.Sign sign.CloseRound) ts
parameter-lacks (a_word is is_kind is_name) = unlike label_of (token.Sign sign.CloseRound) refl is
parameter-lacks (a_fixed_array is in_type is_name) = unlike label_of (token.Sign sign.CloseRound) refl is
parameter-lacks (a_mutable_array is is_mut in_type is_name) = unlike label_of (token.Sign sign.CloseRound) refl is

parameters-moves : {ts tail rest : List Lexeme} {qs : List ParameterTree} {last : ParserState}
    (k : List ParameterTree → ParserState) → ParsesParameters ts qs tail → ParserMoves (k qs) tail last rest
    → ParserMoves (parameters k) ts last rest
parameters-moves k (no_parameters is) h = either-moves is h
parameters-moves k (some_parameters {tree = q} in_one in_more) h =
    other-moves (parameter-lacks in_one)
    (parameter-moves (λ q. more_parameters (q ∷ []) k) in_one (more-parameters-moves (q ∷ []) k in_more h))

end-ends : {ts rest : List Lexeme} {r : Option ReturnTree} → ParsesBodyEnd ts r rest → Ends ts
end-ends (no_return is) = (ap starts_with is, ap (fits (token.Keyword keyword.Else)) is)
end-ends (a_return is in_e ends closes) = (ap starts_with is, ap (fits (token.Keyword keyword.Else)) is)

returned-moves : {ts tail rest : List Lexeme} {r : Option ReturnTree} {last : ParserState}
    (k : Option ReturnTree → ParserState)
    → ParsesBodyEnd ts r tail → ParserMoves (k r) tail last rest → ParserMoves (returned k) ts last rest
returned-moves k (no_return is) h = other-moves (ap (fits (token.Keyword keyword.Return)) is) (one-moves is h)
returned-moves k (a_return is in_e ends closes) h =
    either-moves is (expr-one-moves ((refl, refl), refl) in_e ends (one-moves closes h))

result-lacks : {ts rest : List Lexeme} {r : Option WordType} → ParsesResultType ts r rest
    → Lacks (token.Keyword keyword.Export) ts
result-lacks (a_void is) = ap (fits (token.Keyword keyword.Export)) is
result-lacks (a_type is is_kind) = unlike label_of (token.Keyword keyword.Export) refl is

result-moves : {ts tail rest : List Lexeme} {r : Option WordType} {last : ParserState}
    (k : Option WordType → ParserState)
    → ParsesResultType ts r tail → ParserMoves (k r) tail last rest → ParserMoves (result_type k) ts last rest
result-moves k (a_void is) h = either-moves is h
result-moves k (a_type is is_kind) h =
    other-moves (unlike label_of (token.Keyword keyword.Void) refl is) (label-moves is (kind-moves is_kind h))

exported-moves : {ts signature rest : List Lexeme} {export : Option Place} {last : ParserState}
    (k : Option Place → ParserState)
    → ParsesExported ts export signature → Lacks (token.Keyword keyword.Export) signature
    → ParserMoves (k export) signature last rest → ParserMoves (exported k) ts last rest
exported-moves k not_exported lacks h = other-moves lacks h
exported-moves k (an_export is) lacks h = either-moves is h

procedure-moves : {ts tail rest : List Lexeme} {q : ProcedureTree} {last : ParserState}
    (k : ProcedureTree → ParserState)
    → ParsesProcedure ts q tail → ParserMoves (k q) tail last rest → ParserMoves (procedure k) ts last rest
procedure-moves k (a_procedure {t} {export = export} {result} {own} {trees} is_export is_result is_name opens in_list
    opens' in_body in_end) h =
    let made = λ (ps : List ParameterTree) (b : BlockTree) (r : Option ReturnTree).
    k (procedure_of export result t ps b r) in
    exported-moves (λ export. result_type (λ result. procedure_from export result k)) is_export
    (result-lacks is_result)
    (result-moves (λ result. procedure_from export result k) is_result
    (one-moves is_name
    (one-moves opens
    (parameters-moves (λ ps. one (token.Sign sign.OpenCurly) (λ _. statements (λ b. returned (made ps b)))) in_list
    (one-moves opens'
    (statements-moves _ in_body (end-ends in_end) (returned-moves (made own trees) in_end h)))))))

exported-some : {ts rest : List Lexeme} {export : Option Place} → ParsesExported ts export rest → IsSome rest
    → IsSome ts
exported-some not_exported h = h
exported-some (an_export is) h = tt

procedure-some : {ts rest : List Lexeme} {q : ProcedureTree} → ParsesProcedure ts q rest → IsSome ts
procedure-some (a_procedure is_export is_result is_name opens in_list opens' in_body in_end) =
    exported-some is_export (lacks-some (token.Keyword keyword.Export) _ (result-lacks is_result))

procedures-move : {ts : List Lexeme} {qs : List ProcedureTree} (ps : List ProcedureTree) → ParsesProcedures ts qs
    → ParserMoves (procedures ps) ts (procedures (ps ++ qs)) []
procedures-move ps no_procedure = rw append-nil stays
procedures-move ps (one_procedure {list} {tree = q} in_one in_more) =
    alike-moves (procedure (λ q. procedures (ps ++ q ∷ []))) list (procedure-some in_one) (λ t. refl)
    (procedure-moves (λ q. procedures (ps ++ q ∷ [])) in_one
    (rw append_assoc at (procedures-move (ps ++ q ∷ []) in_more)))

-- the machine takes each program to its tree
pub run_program : (ts : List Lexeme) (p : ProgramTree) → IsProgram ts p
    → (s : ParserState) × (run program ts ≡ Some s) × (at_end s ≡ Some p)
run_program _ _ (a_program {trees = qs} h) = (procedures qs, (procedures-move [] h).same, refl)

pub run_front : (front ts : List Lexeme) (s last : ParserState) → run s (front ++ ts) ≡ Some last
    → (next : ParserState) × (run s front ≡ Some next)
run_front [] ts s last e = (s, refl)
run_front (t ∷ front) ts s last e =
    let w = and_then_some (λ x. run x (front ++ ts)) (step s t) last e in
    let v = run_front front ts w.0 last w.2 in
    (v.0, ap (option_and_then (λ x. run x front)) w.1 ∙ v.1)

-- the machine takes what begins a program
pub run_beginning : (front : List Lexeme) → IsBeginning front → (s : ParserState) × (run program front ≡ Some s)
run_beginning front (others, p, h) = let w = run_program (front ++ others) p h in
    run_front front others program w.0 w.1
