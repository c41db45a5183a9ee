use Rattle.std.proofs.Common.{List, ℕ, subst}
use Rattle.std.proofs.lemmas.Result.{IfErr-weaker, IfOk-weaker}
use Rattle.commands.specs.Below.{ListsViolations}
use Rattle.commands.specs.Sources.{no_memory}
use Rattle.commands.proofs.ViolationLemmas.{lists_source, told_as_lent}
use Rattle.language.proofs.Handed.{handed_on}
use Rattle.commands.proofs.violations.told_violations.Goals as goal

pub returns-clause-found : goal.returns-clause-found
returns-clause-found g c = λ tells.
    IfOk-weaker c.all_told.result _ _
    (λ faults told. lists_source c.in_ok-found.found.items faults.items (c.in_ok-joined.ensures.said tells)
    (subst (λ (t : List ℕ). ListsViolations c.args.profile t c.in_ok-found.found.items) c.as_str-text.ensures.value
    c.in_ok-found.ensures.found)
    (told_as_lent c.as_str-text.ensures.value c.as_slice-read.ensures.value c.as_slice.ensures.value told))
    c.all_told.ensures.told

pub returns-clause-refused : goal.returns-clause-refused
returns-clause-refused g c = λ tells.
    IfErr-weaker c.all_told.result _ _ (λ fault memory. no_memory memory) c.all_told.ensures.memory

pub returns-in_err-found-clause-refused : goal.returns-in_err-found-clause-refused
returns-in_err-found-clause-refused g c = λ tells.
    handed_on _ _ c.from_residual-in_err-found.ensures.1 (no_memory c.in_err-found.ensures.memory)
