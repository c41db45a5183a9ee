use Rattle.std.proofs.Common.{◌≡◌, ◌++◌, drop, map}
use Rattle.explanations.specs.call_places.CallPlaces.{call_places}
use Rattle.explanations.specs.Below.{procedure_tree}
use Rattle.explanations.proofs.call_places.call_places.Given as goal

-- what is there so far, and the calls in the procedures that are left, are all
abbrev pub invariant-loop-procedure : goal.invariant-loop-procedure
invariant-loop-procedure l =
    l.places.items ++ call_places l.name (map procedure_tree (drop l.procedure-index l.procedures))
    ≡ call_places l.fn.name (map procedure_tree l.fn.program)
