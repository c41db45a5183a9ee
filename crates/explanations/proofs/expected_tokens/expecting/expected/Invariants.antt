use Rattle.std.proofs.Common.{map, take}
use Rattle.explanations.specs.expected_tokens.Expected.{Expects}
use Rattle.explanations.proofs.expected_tokens.expecting.expected.Given as goal

abbrev pub invariant-loop-name : goal.invariant-loop-name
invariant-loop-name l = Expects l.front (map (λ both. (both.0.now, both.1.now)) (take l.name-index l.name-items))
    (map (λ name. name.now) l.names.items)
