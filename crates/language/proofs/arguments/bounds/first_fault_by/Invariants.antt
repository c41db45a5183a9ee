use Rattle.std.proofs.Common.{◌≡◌, drop}
use Rattle.language.specs.arguments.Faults.{JudgesBy, fault_from}
use Rattle.language.proofs.arguments.bounds.first_fault_by.Given as goal

-- the first fault is in what is left
abbrev pub invariant-loop-index : goal.invariant-loop-index
invariant-loop-index g l =
    (rule : _) → JudgesBy (goal.F-post g l.rule_at) rule
    → fault_from rule 0 l.params l.given ≡ fault_from rule l.index (drop l.index l.params) (drop l.index l.given)
