-- Code that sets each variable but its parameters before it reads it. Seen forwards, with what was set; of what is set
-- in a part that may run or not nothing is known behind that part.
use Rattle.std.specs.Prelude.{ℕ, ◌-◌, ◌&&◌, Bool, true, false, List, [], ◌∷◌, ◌++◌, length, replicate, Option}
use Rattle.std.specs.Prelude.{None, Some, slice_get, slice_set, unwrap_or}
use Rattle.variable_room.specs.Below.{array, binary, branch, convert, element, first, nothing, number, prefix, put}
use Rattle.variable_room.specs.Below.{repeats, rotate, select, set, StraightBlock, StraightProgram, StraightTree, take}
use Rattle.variable_room.specs.Below.{TermTree, truth, variable}

-- which variables were set
abbrev pub Known : Type 0
Known = List Bool

abbrev pub is_known : Known → ℕ → Bool
is_known known x = unwrap_or (slice_get known x) false

abbrev pub with_known : Known → ℕ → Known
with_known known x = slice_set known x true

-- an expression reads only what was set
abbrev pub reads_known : Known → TermTree → Bool
reads_known known (number value kind) = true
reads_known known (truth value) = true
reads_known known (variable x) = is_known known x
reads_known known (prefix operator width operand) = reads_known known operand
reads_known known (binary place operator width left right) = reads_known known left && reads_known known right
reads_known known (rotate width operand amount) = reads_known known operand
reads_known known (convert kind operand) = reads_known known operand
reads_known known (select condition accepted otherwise) =
    reads_known known condition && reads_known known accepted && reads_known known otherwise
reads_known known (element place x size index) = is_known known x && reads_known known index

abbrev pub all_read_known : Known → List TermTree → Bool
all_read_known known [] = true
all_read_known known (e ∷ es) = reads_known known e && all_read_known known es

abbrev pub reads_any_known : Known → Option TermTree → Bool
reads_any_known known None = true
reads_any_known known (Some e) = reads_known known e

-- a variable that is set within a control value keeps what it holds where that is false
abbrev pub may_keep : Known → Option ℕ → ℕ → Bool
may_keep known None x = true
may_keep known (Some control) x = is_known known x

-- what was set once a statement has run
abbrev pub known_after : Known → StraightTree → Known
known_after known (set within x value) = with_known known x
known_after known (array x size values) = with_known known x
known_after known (put within place x size index value) = known
known_after known (take control within condition) = known
known_after known (branch condition accepted otherwise) = known
known_after known (repeats x low high body) = known

abbrev pub known_behind : Known → StraightBlock → Known
known_behind known nothing = known
known_behind known (first statement rest) = known_behind (known_after known statement) rest

abbrev mutual
  -- a statement reads only what was set before
  pub sets_first : Known → StraightTree → Bool
  sets_first known (set within x value) = may_keep known within x && reads_known known value
  sets_first known (array x size values) = all_read_known known values
  sets_first known (put within place x size index value) =
      is_known known x && reads_known known index && reads_known known value
  sets_first known (take control within condition) = reads_known known condition
  sets_first known (branch condition accepted otherwise) =
      reads_known known condition && all_set_first known accepted && all_set_first known otherwise
  sets_first known (repeats x low high body) =
      reads_known known low && reads_known known high && all_set_first (with_known known x) body

  -- and so do some statements
  pub all_set_first : Known → StraightBlock → Bool
  all_set_first known nothing = true
  all_set_first known (first statement rest) =
      sets_first known statement && all_set_first (known_after known statement) rest

-- of a program's variables the parameters, which come first
abbrev pub known_parameters : StraightProgram → Known
known_parameters p =
    replicate (length p.parameters) true ++ replicate (length p.declared - length p.parameters) false

-- so does a program
abbrev pub program_sets_first : StraightProgram → Bool
program_sets_first p =
    all_set_first (known_parameters p) p.body
    && reads_any_known (known_behind (known_parameters p) p.body) p.value
