use Rattle.std.proofs.Common.{sym, arith}
use Rattle.std.proofs.lemmas.List.{length-map}
use Rattle.hepurita.specs.Below.{params_of, rule_of, Slot}
use Rattle.language.proofs.arguments_lemmas.FaultLemmas.{behind_fits}
use Rattle.hepurita.proofs.comparing.fault_of_both.Goals as goal

pub behind-requires : goal.behind-requires
behind-requires c =
    let image = c.args.image.now in
    let as_many = length-map image.slots (λ (slot : Slot). slot.param) in
    behind_fits rule_of (params_of image) c.args.other.now c.in_ok-fault.fault _ (sym c.in_ok-fault.ensures.first)
    (omega (arith, as_many, c.slots-count.ensures.allowed.count))
