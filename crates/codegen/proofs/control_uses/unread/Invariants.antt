use Rattle.std.proofs.Common.{◌≡◌, ◌==◌, ◌++◌, map, drop}
use Rattle.codegen.proofs.control_uses.unread.Given as goal

-- those so far and those of what is left
abbrev pub invariant-loop-weight : goal.invariant-loop-weight
invariant-loop-weight l =
    l.unread.items ++ map (λ weight. weight == 0) (drop l.weight-index l.weights)
    ≡ map (λ weight. weight == 0) l.weights
