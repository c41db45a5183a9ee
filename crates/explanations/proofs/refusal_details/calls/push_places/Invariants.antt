-- The places so far, and those that are left, are all.
use Rattle.std.proofs.Common.{◌≡◌, ◌++◌, drop}
use Rattle.std.specs.String.{string_bytes}
use Rattle.explanations.specs.refusal_details.Details.{places_text}
use Rattle.explanations.proofs.refusal_details.calls.push_places.Given as goal

abbrev pub invariant-loop-place : goal.invariant-loop-place
invariant-loop-place l = string_bytes l.text ++ places_text (drop l.place-index l.places) ≡ string_bytes l.fn.text
    ++ places_text l.fn.places
