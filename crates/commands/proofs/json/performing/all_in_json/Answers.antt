use Rattle.std.proofs.Common.{◌∙◌, ap, ap₂}
use Rattle.commands.specs.Contents.{Store}
use Rattle.commands.specs.Sources.{no_memory}
use Rattle.commands.specs.Violations.{listing_status}
use Rattle.commands.specs.json.Answers.{listed_in_json}
use Rattle.commands.specs.json.Performed.{answered_in_json}
use Rattle.commands.proofs.Counting.{counted_by, kept_by}
use Rattle.commands.proofs.JsonLemmas.{counts_fault, gives_fault, gives_memory}
use Rattle.commands.proofs.json.performing.all_in_json.Goals as goal

pub returns-in_err-found-clause-gives : goal.returns-in_err-found-clause-gives
returns-in_err-found-clause-gives g c = λ files.
    gives_fault _ _ c.from_residual.ensures.1
    (c.in_err-found.ensures.refused files, kept_by _ _ _ c.in_err-found.ensures.counted)

pub returns-in_err-found-clause-counted : goal.returns-in_err-found-clause-counted
returns-in_err-found-clause-counted g c =
    counts_fault _ _ _ c.from_residual.ensures.1 (counted_by _ _ _ c.in_err-found.ensures.counted)

pub returns-in_err-listed-clause-gives : goal.returns-in_err-listed-clause-gives
returns-in_err-listed-clause-gives g c = λ files.
    gives_memory _ c.from_residual-in_err-listed.ensures.1
    (λ f memory. (no_memory memory, ap (λ (s : Store). s.contents) c.in_ok-found.ensures.calm))

pub returns-clause-gives : goal.returns-clause-gives
returns-clause-gives g c = λ files.
    answered_in_json (
      c.in_ok-found.found.items,
      c.in_ok-found.ensures.found files,
      c.in_ok-listed.ensures.text ∙ ap₂ listed_in_json c.of-subject.ensures c.as_slice.ensures.value,
      c.in_ok-listed.ensures.status ∙ ap listing_status c.as_slice.ensures.value,
    ) (ap (λ (s : Store). s.contents) c.in_ok-found.ensures.calm)
