-- The calls in one procedure more.
use Rattle.std.proofs.Common.{map, refl}
use Rattle.explanations.specs.Below.{procedure_tree}
use Rattle.explanations.specs.call_places.CallPlaces.{call_places, calls_in_all}
use Rattle.explanations.proofs.call_places_lemmas.CallLemmas.{one_more}
use Rattle.explanations.proofs.call_places.call_places.Goals as goal

pub loop-procedure-preserved : goal.loop-procedure-preserved
loop-procedure-preserved c =
    let name = c.args.name.now in
    one_more (λ p. calls_in_all name (procedure_tree p).body) (λ ps. call_places name (map procedure_tree ps))
    (λ p ps. refl) c.procedures-procedures.result.now c.loop-procedure.procedure-index c.procedure-item.result
    c.loop-procedure.places.items _ _ c.loop-procedure-test.true c.procedure-item.is
    (rw c.as_slice.ensures.value at c.in_ok-push_calls.ensures) c.loop-procedure.invariant
