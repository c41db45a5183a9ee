use Rattle.std.proofs.Common.{List, ℕ, ◌∙◌, sym, subst}
use Rattle.commands.specs.json.Performed.{IsLineOf}
use Rattle.commands.proofs.JsonLemmas.{counts_of, is_memory_line}
use Rattle.commands.proofs.json.performing.tell.Goals as goal

pub returns-in-Ok-clause-told : goal.returns-in-Ok-clause-told
returns-in-Ok-clause-told g c = λ out err. (
  c.as_slice.result.now,
  c.in-Ok.answer.status,
  subst (λ (l : List ℕ). IsLineOf c.args.subject c.args.given l c.in-Ok.answer.status)
      (sym c.as_slice.ensures.value) c.in-Ok.ensures.said,
  c.print_line.ensures.printed out err,
)

pub returns-in-Ok-clause-counted : goal.returns-in-Ok-clause-counted
returns-in-Ok-clause-counted g c = counts_of c.in-Ok.ensures.said c.print_line.ensures.counted

pub returns-in-Err-clause-told : goal.returns-in-Err-clause-told
returns-in-Err-clause-told g c = λ out err. (
  c.as_bytes.result.now,
  4,
  is_memory_line c.in-Err.ensures.memory.1 (c.as_bytes.ensures.value ∙ c.no_memory_line-line.ensures),
  c.print_line-in-Err.ensures.printed out err,
)

pub returns-in-Err-clause-counted : goal.returns-in-Err-clause-counted
returns-in-Err-clause-counted g c =
    counts_of (is_memory_line {subject = c.args.subject} c.in-Err.ensures.memory.1
    (c.as_bytes.ensures.value ∙ c.no_memory_line-line.ensures)) c.print_line-in-Err.ensures.counted
