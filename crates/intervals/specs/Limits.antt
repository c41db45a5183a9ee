-- The most work.
use Rattle.std.specs.Prelude.{ℕ}

-- nodes that a run may evaluate, 2 ^ 32
abbrev pub most_work : ℕ
most_work = 4294967296
