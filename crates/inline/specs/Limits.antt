-- The greatest count of a body with numbered variables.
use Rattle.std.specs.Prelude.{ℕ}

-- bytes that its variables take
abbrev pub most_variable_bytes : ℕ
most_variable_bytes = 40768
