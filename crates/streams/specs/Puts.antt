-- How bytes went out to a sink: by what it has taken, and by the count of its calls that have failed.
use Rattle.std.specs.Prelude.{◌≡◌, ◌⊎◌, ◌++◌, ℕ, List}
use Rattle.streams.specs.Streams.{Collected, GainsPart}
use Rattle.word.specs.Counts.{one_more}

-- what a sink has taken, and how many of its calls have failed
abbrev pub collected : List ℕ → ℕ → Collected
collected bytes failures = record { bytes = bytes; failures = failures }

-- bytes went out to a sink, all of them, and no call of it failed
abbrev pub IsPutWhole : List ℕ → Collected → Collected → Type 0
IsPutWhole bytes before after = (after.bytes ≡ before.bytes ++ bytes) × (after.failures ≡ before.failures)

-- a beginning of bytes went out, and not all of them, and one more call failed
abbrev pub IsPutInPart : List ℕ → Collected → Collected → Type 0
IsPutInPart bytes before after = GainsPart before.bytes after.bytes bytes × (after.failures ≡ one_more before.failures)

-- bytes went out: all of them, or where a call failed a beginning of them
abbrev pub IsPut : List ℕ → Collected → Collected → Type 0
IsPut bytes before after = IsPutWhole bytes before after ⊎ IsPutInPart bytes before after
