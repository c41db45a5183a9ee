use Rattle.std.proofs.Common.{ap}
use Rattle.commands.specs.Contents.{Store}
use Rattle.commands.specs.Judged.{no_sources}
use Rattle.commands.specs.Sources.{no_memory}
use Rattle.commands.specs.json.Performed.{answered_in_json}
use Rattle.commands.proofs.Counting.{counted_by}
use Rattle.commands.proofs.JsonLemmas.{answer_found, counts_fault, counts_memory, gives_fault, gives_memory, kept_fault}
use Rattle.commands.proofs.json.performing.check_in_json.Goals as goal

pub returns-in_err-check_text-clause-gives : goal.returns-in_err-check_text-clause-gives
returns-in_err-check_text-clause-gives g c = λ files.
    gives_fault _ _ c.from_residual.ensures.1
    (kept_fault _ _ (c.in_err-check_text.ensures.finds files) c.in_err-check_text.ensures.read)

pub returns-in_err-check_text-clause-counted : goal.returns-in_err-check_text-clause-counted
returns-in_err-check_text-clause-counted g c =
    counts_fault _ _ _ c.from_residual.ensures.1 (counted_by _ _ _ c.in_err-check_text.ensures.read)

pub returns-in_err-accepted-clause-gives : goal.returns-in_err-accepted-clause-gives
returns-in_err-accepted-clause-gives g c = λ files.
    gives_memory _ c.from_residual-in_err-accepted.ensures.1 (λ f memory. (
      no_sources (no_memory memory),
      ap (λ (s : Store). s.contents) c.in_ok-check_text.ensures.read,
    ))

pub returns-in_err-accepted-clause-counted : goal.returns-in_err-accepted-clause-counted
returns-in_err-accepted-clause-counted g c =
    counts_memory _ c.from_residual-in_err-accepted.ensures.1 c.in_ok-check_text.ensures.read

pub returns-clause-gives : goal.returns-clause-gives
returns-clause-gives g c = λ files.
    answered_in_json (
      (answer_found (c.in_ok-check_text.ensures.finds files)).0.0,
      c.in_ok-accepted.ensures.text,
      c.in_ok-accepted.ensures.status,
    ) (ap (λ (s : Store). s.contents) c.in_ok-check_text.ensures.read)

pub returns-clause-counted : goal.returns-clause-counted
returns-clause-counted g c = ap (λ (s : Store). s.failures) c.in_ok-check_text.ensures.read
