use Rattle.std.proofs.Common.{◌≡◌, arith}
use Rattle.std.proofs.lemmas.Grind.{common_steps}
use Rattle.rv_machine.proofs.Pairs.{events-differ}
use Rattle.rv_machine.proofs.pairing.first_difference.Goals as goal

pub returns-else-is_same_event-clause-differ : goal.returns-else-is_same_event-clause-differ
returns-else-is_same_event-clause-differ c = λ ones others.
    let apart : c.args.one.now.event ≡ c.args.other.now.event → ⊥ = grind (arith, common_steps) in
    events-differ c.args.one.now c.args.other.now ones others c.if-one-other.false apart
