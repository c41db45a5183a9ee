use Rattle.std.proofs.Common.{List, ℕ, Result, Ok, Err, IfOk}
use Rattle.std.specs.List.{All}
use Rattle.tokens.specs.declared.lexer.Lexed.{Lexed}
use Rattle.tokens.specs.Below.{Refusal}
use Rattle.tokens.specs.Lexeme.{lexemes}
use Rattle.tokens.specs.Tokens.{Lexes, IsSliceOf, ending}
use Rattle.tokens.proofs.TokenSteps.{slices}
use Rattle.tokens.proofs.lexer.lex.Goals as goal

-- the tokens of an answer are slices, since the source spells them
slices_of : (source : List ℕ) (r : Result Lexed Refusal)
    → IfOk r (λ l. Lexes source (lexemes l.tokens.items) (ending l.end))
    → IfOk r (λ l. All (IsSliceOf source) (lexemes l.tokens.items))
slices_of source (Ok l) h = slices source _ _ h
slices_of source (Err e) h = tt

pub returns-clause-slices : goal.returns-clause-slices
returns-clause-slices c = slices_of c.args.source.now c.tokens_of.result c.tokens_of.ensures.tokens
