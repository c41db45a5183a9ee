use Rattle.std.proofs.Common.{refl, ◌∙◌}
use Rattle.commands.proofs.AnswerLemmas.{finds_answer, finds_converted, read_memory}
use Rattle.commands.proofs.performing.lines_of.Goals as goal

pub returns-in_err-lines-clause-finds : goal.returns-in_err-lines-clause-finds
returns-in_err-lines-clause-finds c = λ files. finds_converted _ c.from_residual.ensures.1 (λ e memory. (memory, refl))

pub returns-in_err-lines-clause-read : goal.returns-in_err-lines-clause-read
returns-in_err-lines-clause-read c = λ files. read_memory _ c.from_residual.ensures.1 refl

pub returns-clause-finds : goal.returns-clause-finds
returns-clause-finds c = λ files.
    finds_answer _ (c.of_text.ensures.text ∙ c.in_ok-lines.ensures.ok) c.of_text.ensures.status (refl, refl) refl
