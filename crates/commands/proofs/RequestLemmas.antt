-- Bytes that were put, from what a sink answers.
use Rattle.std.proofs.Common.{◌≡◌, ◌⊎◌, inl, inr, ℕ, List, ◌++◌, Result, Ok, Err}
use Rattle.std.specs.Result.{OnOk, OnErr}
use Rattle.commands.specs.Below.{Collected, GainsPart, IsPut, one_more}

-- bytes that were put, whether or not a call failed
pub is_put : {A E : Type 0} (bytes : List ℕ) (before after : Collected) (answer : Result A E)
    → OnOk answer (after.bytes ≡ before.bytes ++ bytes) → OnOk answer (after.failures ≡ before.failures)
    → OnErr answer (GainsPart before.bytes after.bytes bytes) → OnErr answer (after.failures ≡ one_more before.failures)
    → IsPut bytes before after
is_put bytes before after (Ok done) whole calm part counts = inl (whole, calm)
is_put bytes before after (Err fault) whole calm part counts = inr (part, counts)

-- the count of failed calls after one put
pub counted_put : {A E One More : Type 0} (answer : Result A E) → OnOk answer One → OnErr answer More → One ⊎ More
counted_put (Ok done) calm counts = inl calm
counted_put (Err fault) calm counts = inr counts
