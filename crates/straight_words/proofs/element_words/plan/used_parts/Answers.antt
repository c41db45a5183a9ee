use Rattle.std.proofs.Common.{length, ap, arith}
use Rattle.std.proofs.lemmas.List.{length-map, length-take}
use Rattle.straight_words.specs.Below.{declaration_of}
use Rattle.straight_words.proofs.element_words.plan.used_parts.Goals as goal

pub candidates-requires : goal.candidates-requires
candidates-requires c =
    let p = c.args.straight.now in
    let front = ap length c.body-body.ensures.kept.typed.parameters in
    let shorter = length-take (length p.parameters) p.declared in
    let same = length-map p.parameters declaration_of in
    let parameters = ap length c.parameters.ensures in
    let declared = ap length c.declared.ensures in
    omega (arith, front, shorter, same, parameters, declared)
