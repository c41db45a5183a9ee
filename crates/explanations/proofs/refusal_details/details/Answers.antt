-- What is said is what the evidence says, and what is found beside it.
use Rattle.std.proofs.Common.{◌++◌, ap, ◌∙◌}
use Rattle.std.specs.String.{string_bytes}
use Rattle.explanations.specs.refusal_details.Details.{nowhere, somewhere}
use Rattle.explanations.proofs.refusal_details_lemmas.DetailLemmas.{where_ok}
use Rattle.explanations.proofs.refusal_details.details.Goals as goal

pub returns-in_default : goal.returns-in_default
returns-in_default c = record { said = nowhere c.in_default.is c.new.ensures.bytes }

pub returns : goal.returns
returns c =
    let found = string_bytes c.in_ok-found.found in
    record {
      said = where_ok c.format.result
          (λ lines is. somewhere found c.in-Some.is c.in_ok-found.ensures
          (is ∙ ap (λ evidence. evidence ++ found) c.in_ok-evidence.ensures))
          c.format.ensures.ok;
    }
