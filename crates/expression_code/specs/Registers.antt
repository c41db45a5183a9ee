-- The registers that code works with by their numbers.
use Rattle.std.specs.Prelude.{ℕ}

abbrev pub zero_register : ℕ
zero_register = 0

-- the frame's base
abbrev pub frame_register : ℕ
frame_register = 2

-- the first temporary, an expression's value
abbrev pub value_register : ℕ
value_register = 5

-- the second
abbrev pub second_register : ℕ
second_register = 6

-- the third
abbrev pub third_register : ℕ
third_register = 7

-- Registers that are never a temporary.

-- an address
abbrev pub address_register : ℕ
address_register = 28

-- an operand that lies in a slot: the first of them, the second and the third
abbrev pub first_spare : ℕ
first_spare = 29

abbrev pub second_spare : ℕ
second_spare = 30

abbrev pub third_spare : ℕ
third_spare = 31
