-- Accesses that stay inside a frame.
use Rattle.std.specs.Prelude.{ℕ, ◌+◌, ◌≤◌, Option, Some, None}
use Rattle.expression_code.specs.Below.{byte_count, Event}
use Rattle.rv_machine.specs.declared.observation.Event.TheVariants.{Load, Store, Div, Mul}

-- a load or a store stays inside the frame
abbrev pub IsInside : ℕ → ℕ → Option Event → Type 0
IsInside base bytes None = Unit {0}
IsInside base bytes (Some (Load a n)) = (base ≤ a) × (a + byte_count n ≤ base + bytes)
IsInside base bytes (Some (Store a n)) = (base ≤ a) × (a + byte_count n ≤ base + bytes)
IsInside base bytes (Some (Div a b)) = Unit {0}
IsInside base bytes (Some (Mul a b)) = Unit {0}
