use Rattle.std.proofs.Common.{◌≡◌, ◌++◌, drop}
use Rattle.explanations.specs.call_places.CallPlaces.{calls_in_all}
use Rattle.explanations.specs.Below.{block_tree}
use Rattle.explanations.proofs.call_places.+calls.Given as goal

-- what is there so far, and the calls in the statements that are left, are all
abbrev pub invariant-push_calls-loop-statement : goal.invariant-push_calls-loop-statement
invariant-push_calls-loop-statement l =
    l.places.items ++ calls_in_all l.name (block_tree (drop l.statement-index l.block)) ≡ l.fn.places.items
    ++ calls_in_all l.fn.name (block_tree l.fn.block)
