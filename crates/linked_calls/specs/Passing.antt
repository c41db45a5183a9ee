-- Arguments as they are passed, where x2 is the base of the frame.
use Rattle.std.specs.Prelude.{ℕ, ◌+◌, nat_lt, Option, Some, unwrap_or, if◌then◌else◌}
use Rattle.linked_calls.specs.Below.{Fields, number_at}
use Rattle.linked_calls.specs.Does.{Data}
use Rattle.linked_calls.specs.FunctionCode.{stacked_offset}

-- what a0 to a7 hold, or the word on the stack, if it is there
abbrev pub passed_in : Fields → ℕ → ℕ → Data → Option ℕ
passed_in image frame i s =
    if nat_lt i 8 then Some (s.regs (10 + i)) else number_at s.bytes 4 (frame + stacked_offset image i)

abbrev pub raw_in : Fields → ℕ → ℕ → Data → ℕ
raw_in image frame i s = unwrap_or (passed_in image frame i s) 0
