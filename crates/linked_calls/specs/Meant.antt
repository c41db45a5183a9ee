-- What a raw word that a caller passes means.
use Rattle.std.specs.Prelude.{ℕ, ◌%◌, ◌^◌, ◌==◌, not}
use Rattle.linked_calls.specs.Below.{Boolean, Kind, Uint16, Uint32, Uint8}
use Rattle.word.specs.Operators.{word_of}

-- a bool is whether it is not 0, a number its low bits
abbrev pub meant : Kind → ℕ → ℕ
meant Boolean raw = word_of (not (raw == 0))
meant Uint8 raw = raw % 2 ^ 8
meant Uint16 raw = raw % 2 ^ 16
meant Uint32 raw = raw % 2 ^ 32
