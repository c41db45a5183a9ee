use Rattle.std.proofs.Common.{◌≡◌, drop, map}
use Rattle.std.specs.Option.{option_map, option_or}
use Rattle.explanations.specs.call_places.CallPlaces.{procedure_at}
use Rattle.explanations.specs.Below.{procedure_tree}
use Rattle.explanations.proofs.call_places.procedure_at.Given as goal

-- the last one among those that are left, or else the last so far, is the last of all
abbrev pub invariant-loop-procedure : goal.invariant-loop-procedure
invariant-loop-procedure l =
    option_or (procedure_at l.at (map procedure_tree (drop l.procedure-index l.procedures)))
    (option_map (λ found. procedure_tree found.now) l.last)
    ≡ procedure_at l.fn.at (map procedure_tree l.fn.program)
