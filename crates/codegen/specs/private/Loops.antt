-- The instructions that are emitted for loops. A loop whose counter has a home, and whose body sets the counter
-- nowhere and is no longer than a branch reaches, counts there, and its test stands behind the body. In any other the
-- next number lies in the frame, and the test comes first.
use Rattle.std.specs.Prelude.{ℕ, ◌+◌, ◌-◌, ◌==◌, ◌&&◌, ◌||◌, Bool, false, not, nat_lt, List, [], ◌∷◌, ◌++◌, length}
use Rattle.std.specs.Prelude.{Option, None, Some, if◌then◌else◌}
use Rattle.codegen.specs.Below.{Addi, array, branch, first, Immediate, Instr, nothing, number, put}
use Rattle.codegen.specs.Below.{Register, repeats, set, Sltiu, Sltu, StraightBlock, StraightTree, take, TermTree}
use Rattle.codegen.specs.private.Jumps.{again_code, branch_code, loop_code}
use Rattle.codegen.specs.private.Words.{assign_code, put_word_code, read_code, read_register}
use Rattle.expression_code.specs.Layout.{Frame, next_offset, variable_location}
use Rattle.expression_code.specs.Registers.{value_register, second_register, zero_register}
use Rattle.expression_code.specs.TermCode.{is_near, load_code, lower_part, mirror_code, move_code, store_code}
use Rattle.expression_code.specs.declared.locations.Location.{Location}
use Rattle.expression_code.specs.declared.locations.Location.TheVariants.{InRegister, InSlot}

-- Which loops count.

abbrev mutual
  -- whether a statement sets a variable
  pub sets : ℕ → StraightTree → Bool
  sets y (set within x value) = x == y
  sets y (array x size values) = x == y
  sets y (put within place x size index value) = x == y
  sets y (take control within condition) = false
  sets y (branch condition accepted otherwise) = any_sets y accepted || any_sets y otherwise
  sets y (repeats x low high body) = (x == y) || any_sets y body

  -- whether one of them does
  pub any_sets : ℕ → StraightBlock → Bool
  any_sets y nothing = false
  any_sets y (first statement rest) = sets y statement || any_sets y rest

-- the home that a loop's counter is counted in, with the code of its body, where the body sets the counter or not
abbrev pub counting_home : Location → Bool → List Instr → Option ℕ
counting_home (InRegister home) is_set body =
    if not is_set && nat_lt (length body) 1000 then Some home else None
counting_home (InSlot offset) is_set body = None

-- Loops that count in a home.

-- a body, one more in the home, which its mirror follows, and a test whether that is below the bound: as long as it is,
-- the body again. In the end the counter is at the last number.
abbrev pub iterations_code : ℕ → List Instr → List Instr → List Instr → List Instr
iterations_code home mirror test body =
    again_code value_register (body ++ (Immediate Addi home home 1 ∷ (mirror ++ test)))
    ++ Immediate Addi home home 4095 ∷ mirror

-- the same from the number in a register on, where another is not 0
abbrev pub guarded_code : ℕ → ℕ → List Instr → ℕ → List Instr → List Instr → List Instr
guarded_code below home mirror start test body =
    branch_code below ((move_code home start ++ mirror) ++ iterations_code home mirror test body) []

-- a bound that an instruction holds
abbrev pub short_number : TermTree → Option ℕ
short_number (number value kind) = if is_near value then Some value else None
short_number e = None

-- a first number that is known to be below the bound
abbrev pub first_below : ℕ → TermTree → Option ℕ
first_below bound (number value kind) = if nat_lt value bound then Some value else None
first_below bound e = None

-- whether a register is below a number
abbrev pub below_number_code : ℕ → ℕ → ℕ → List Instr
below_number_code d register bound = Immediate Sltiu d register bound ∷ []

-- or below the bound in the loop's second word
abbrev pub below_word_code : ℕ → ℕ → List Instr
below_word_code home next =
    load_code value_register (next + 4) ++ Register Sltu value_register home value_register ∷ []

-- one less than the first number into a home
abbrev pub begin_code : ℕ → ℕ → List Instr
begin_code home first_number = Immediate Addi home zero_register (lower_part (first_number + 4095)) ∷ []

-- how much a home is above the last number, which is 0 at that one alone
abbrev pub last_number_code : ℕ → ℕ → ℕ → List Instr
last_number_code d home last = Immediate Addi d home (lower_part (4096 - last)) ∷ []

-- the next number into the home, which its mirror follows, and the body
abbrev pub iteration_code : ℕ → List Instr → ℕ → List Instr → List Instr
iteration_code home mirror last body =
    Immediate Addi home home 1 ∷ (mirror ++ (body ++ last_number_code value_register home last))

-- from a number up to another, again and again until the home has the last one
abbrev pub counted_code : ℕ → List Instr → ℕ → ℕ → List Instr → List Instr
counted_code home mirror first_number last body =
    begin_code home first_number ++ again_code value_register (iteration_code home mirror last body)

-- up to a number, from a number below it or from any
abbrev pub to_number_code : Frame → ℕ → List Instr → TermTree → ℕ → List Instr → Option ℕ → List Instr
to_number_code layout home mirror low bound body (Some first_number) =
    counted_code home mirror first_number (bound - 1) body
to_number_code layout home mirror low bound body None =
    read_code layout value_register 0 low
    ++ (below_number_code second_register (read_register layout.allocation value_register low) bound
    ++ guarded_code second_register home mirror (read_register layout.allocation value_register low)
    (below_number_code value_register home bound) body)

-- Bounds in the frame.

-- both bounds into the loop's words, the first one first
abbrev pub bounds_code : Frame → ℕ → TermTree → TermTree → List Instr
bounds_code layout next low high =
    assign_code layout low next ++ assign_code layout high (next + 4)

-- whether the next number is below the bound
abbrev pub test_code : ℕ → List Instr
test_code next =
    load_code second_register next ++ load_code value_register (next + 4)
    ++ Register Sltu value_register second_register value_register ∷ []

-- the next number into the counter, which its mirror follows, and one more for the iteration after this one
abbrev pub count_code : ℕ → Location → List Instr → List Instr
count_code next counter mirror =
    (put_word_code second_register counter ++ mirror) ++ Immediate Addi second_register second_register 1 ∷ []
    ++ store_code second_register next

-- up to the bound in the frame, counted in a home or not
abbrev pub to_word_code : ℕ → Location → List Instr → List Instr → Option ℕ → List Instr
to_word_code next counter mirror body None = loop_code (test_code next) (count_code next counter mirror ++ body)
to_word_code next counter mirror body (Some home) =
    test_code next
    ++ guarded_code value_register home mirror second_register (below_word_code home next) body

-- Loops.

abbrev pub loop_from : Frame → ℕ → Location → List Instr → TermTree → TermTree → List Instr → Option ℕ → Option ℕ
    → List Instr
loop_from layout next counter mirror low high body (Some home) (Some bound) =
    to_number_code layout home mirror low bound body (first_below bound low)
loop_from layout next counter mirror low high body home bound =
    bounds_code layout next low high ++ to_word_code next counter mirror body home

-- of a loop that so many others are around: its counter goes from one expression up to another, and its body, of which
-- this is the code, sets the counter or does not
abbrev pub repeat_code : Frame → ℕ → ℕ → TermTree → TermTree → Bool → List Instr → List Instr
repeat_code layout depth x low high is_set body =
    loop_from layout (next_offset layout depth) (variable_location layout.declared layout.allocation x)
    (mirror_code layout.allocation x) low high body
    (counting_home (variable_location layout.declared layout.allocation x) is_set body) (short_number high)
