-- How straight code is counted: a count stops at the greatest number of 64 bits.
use Rattle.std.specs.Prelude.{ℕ, ◌-◌, ◌^◌, min}

abbrev pub counted : ℕ → ℕ
counted n = min n (2 ^ 64 - 1)

-- what a count of work tells: half of a count that has stopped is in it, so that all beyond 63 bits are alike
abbrev pub told : ℕ → ℕ
told n = min n (2 ^ 63 - 1)
