use Rattle.std.proofs.Common.{[], List, subst, sym, take, ◌+◌}
use Rattle.commands.specs.Below.{numbered_of}
use Rattle.commands.specs.Violations.{AreToldBy, none_told}
use Rattle.commands.specs.declared.fault.Fault.{Fault}
use Rattle.commands.proofs.ViolationLemmas.{told_more}
use Rattle.commands.proofs.violations.all_told.Goals as goal

pub loop-violation-init : goal.loop-violation-init
loop-violation-init c =
    subst (λ (fs : List Fault). AreToldBy c.args.text.now (numbered_of c.args.libraries.now) c.args.explain [] fs)
    (sym c.new-faults.ensures.items) none_told

pub loop-violation-preserved : goal.loop-violation-preserved
loop-violation-preserved c =
    let i = c.loop-violation.violation-index in
    subst
    (λ (fs : List Fault).
    AreToldBy c.args.text.now (numbered_of c.args.libraries.now) c.args.explain (take (i + 1) c.args.found.now) fs)
    (sym c.in_ok-push.ensures.items)
    (told_more c.args.found.now i _ c.of-refusal.result c.loop-violation-test.true c.loop-violation.invariant
    (record {
      rule = c.of-refusal.ensures.rule;
      place = c.of-refusal.ensures.place;
      why = c.of-refusal.ensures.why;
    }) c.in_ok-told_by.ensures.told)
