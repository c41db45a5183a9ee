use Rattle.std.proofs.Common.{List, sym, subst}
use Rattle.std.proofs.lemmas.Result.{err_from_is_err_and}
use Rattle.language.specs.declared.tree.Procedure.{Procedure}
use Rattle.syntax.specs.Below.{program_tree}
use Rattle.tokens.specs.Lexeme.{lexemes}
use Rattle.syntax.specs.Reading.{Reads, by_tokens, accepted}
use Rattle.tokens.specs.Tokens.{Lexes, ending}
use Rattle.syntax.proofs.AnswerLaws.{text-refused, lexer-refused, not-long}
use Rattle.syntax.proofs.GrammarLemmas.{read_text}
use Rattle.syntax.proofs.parser.parse.Goals as goal

pub returns-in_err-lexed-clause-refused : goal.returns-in_err-lexed-clause-refused
returns-in_err-lexed-clause-refused c =
    let p = err_from_is_err_and c.from_residual.result c.from_residual.ensures.1 in
    rw (p.1, p.2) (lexer-refused c.args.source.now c.in_err-lexed.field-0.0 c.in_err-lexed.ensures.too_long
    c.in_err-lexed.ensures.memory)

pub returns-in_err-procedures-clause-refused : goal.returns-in_err-procedures-clause-refused
returns-in_err-procedures-clause-refused c =
    let p = err_from_is_err_and c.from_residual-in_err-procedures.result
    c.from_residual-in_err-procedures.ensures.1 in
    let source = c.args.source.now in
    let end = ending c.in_ok-lexed.lexed.end in
    let lexes = subst (λ ts. Lexes source (lexemes ts) end) (sym c.as_slice.ensures.value)
    c.in_ok-lexed.ensures.tokens in
    rw (p.1, p.2) (text-refused source (lexemes c.as_slice.result.now) end c.in_err-procedures.field-0.0
    (not-long _ c.in_ok-lexed.ensures.too_long) lexes c.in_err-procedures.ensures.refused)

pub new-requires : goal.new-requires
new-requires c =
    let source = c.args.source.now in
    let end = ending c.in_ok-lexed.lexed.end in
    let lexes = subst (λ ts. Lexes source (lexemes ts) end) (sym c.as_slice.ensures.value)
    c.in_ok-lexed.ensures.tokens in
    let program = program_tree c.in_ok-procedures.procedures.items in
    read_text source program
    (by_tokens (not-long _ c.in_ok-lexed.ensures.too_long) lexes c.in_ok-procedures.ensures.accepted)

pub returns-clause-accepted : goal.returns-clause-accepted
returns-clause-accepted c =
    let source = c.args.source.now in
    let end = ending c.in_ok-lexed.lexed.end in
    let lexes = subst (λ ts. Lexes source (lexemes ts) end) (sym c.as_slice.ensures.value)
    c.in_ok-lexed.ensures.tokens in
    let program = program_tree c.in_ok-procedures.procedures.items in
    subst (λ (ps : List Procedure). Reads source (accepted (program_tree ps))) (sym c.new.ensures)
    (by_tokens (not-long _ c.in_ok-lexed.ensures.too_long) lexes c.in_ok-procedures.ensures.accepted)
