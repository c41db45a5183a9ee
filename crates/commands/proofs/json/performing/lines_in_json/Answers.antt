use Rattle.commands.specs.json.Printed.{as_lines, same_fault}
use Rattle.language.proofs.Handed.{err_is}
use Rattle.commands.proofs.JsonLemmas.{no_line_found}
use Rattle.commands.proofs.json.performing.lines_in_json.Goals as goal

pub returns-in_err-answer : goal.returns-in_err-answer
returns-in_err-answer c = rw (err_is _ c.from_residual.ensures.1, c.in_err-answer.was) (same_fault _)

pub returns-in_err-in_lines : goal.returns-in_err-in_lines
returns-in_err-in_lines c =
    rw c.in_ok-answer.was (no_line_found c.in_ok-answer.answer _ c.from_residual-in_err-in_lines.ensures.1)

pub returns : goal.returns
returns c =
    rw c.in_ok-answer.was
    (as_lines c.in_ok-answer.answer _ c.in_ok-in_lines.ensures.text c.in_ok-in_lines.ensures.status)
