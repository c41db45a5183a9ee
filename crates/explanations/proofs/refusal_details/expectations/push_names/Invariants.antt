-- The names so far, and those that are left, are all.
use Rattle.std.proofs.Common.{◌≡◌, ◌++◌, map, drop}
use Rattle.std.specs.String.{string_bytes}
use Rattle.explanations.specs.refusal_details.ExpectedLines.{more_names}
use Rattle.explanations.proofs.refusal_details.expectations.push_names.Given as goal

abbrev pub invariant-loop-name : goal.invariant-loop-name
invariant-loop-name l =
    string_bytes l.text ++ more_names (map (λ name. name.now) (drop l.name-index l.names))
    ≡ string_bytes l.fn.text ++ more_names (map (λ name. name.now) l.fn.names)
