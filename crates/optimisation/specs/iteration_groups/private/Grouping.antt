-- Code in which four iterations of a loop are one. A grouped loop counts groups: in each, the base is set to the number
-- of the group's first iteration, and then the body stands four times, with the base and what it is more in the place
-- of the counter. Behind the loop the base is set to the first number that is left, and the body stands once for each
-- that is; and the counter is set to the last number, where it is after the loop as it was.
use Rattle.std.specs.Prelude.{ℕ, zero, suc, ◌+◌, ◌-◌, ◌/◌, ◌%◌, ◌==◌, List, [], ◌∷◌, ◌++◌, length, map, nat_le}
use Rattle.std.specs.Prelude.{Option, None, Some, true, if◌then◌else◌}
use Rattle.std.specs.Option.{option_and_then, option_map}
use Rattle.word.specs.Places.{origin}
use Rattle.optimisation.specs.Below.{Add, array, binary, branch, chain, checked, first, FlatVariable, labelled}
use Rattle.optimisation.specs.Below.{nothing, number, Public, put, repeats, set, ShiftLeft, StraightBlock}
use Rattle.optimisation.specs.Below.{StraightProgram, StraightTree, take, TermTree, Uint32, variable, W32}
use Rattle.optimisation.specs.Below.{with_variables, word_as}
use Rattle.straight_words.specs.element_words.Limits.{most_variable_words}
use Rattle.straight_words.specs.element_words.private.Splitting.{single}
use Rattle.optimisation.specs.declared.constants.terms.CounterRange.{CounterRange}
use Rattle.optimisation.specs.declared.iteration_groups.terms.Shift.{Shift}
use Rattle.optimisation.specs.iteration_groups.private.Choice.{grouped_range}
use Rattle.straight_words.specs.private.Rewriting.{rewritten}

-- the number of a counter: the base and an offset
abbrev pub counter_at : Shift → TermTree
counter_at shift = binary origin Add W32 (variable shift.base) (number shift.offset Uint32)

abbrev pub variable_at : Option Shift → ℕ → TermTree
variable_at None y = variable y
variable_at (Some shift) y = if shift.counter == y then counter_at shift else variable y

-- it stands in the place of a variable
abbrev pub counter_instead : Option Shift → TermTree → Option TermTree
counter_instead shift (variable y) = Some (variable_at shift y)
counter_instead shift _ = None

-- an expression, with the number of the counter in its place
abbrev pub shifted : Option Shift → TermTree → TermTree
shifted shift = rewritten (counter_instead shift)

-- a word is set to a number
abbrev pub number_set : ℕ → ℕ → StraightTree
number_set x value = set None x (number value Uint32)

-- the number of the first iteration of a group, four times the group's more than the first of all
abbrev pub first_of_group : ℕ → ℕ → TermTree
first_of_group x low =
    binary origin Add W32 (binary origin ShiftLeft W32 (variable x) (number 2 Uint32)) (number low Uint32)

-- so many copies of a body, the first at this offset
abbrev pub copies : (ℕ → StraightBlock) → ℕ → ℕ → StraightBlock
copies body zero offset = nothing
copies body (suc count) offset = chain (body offset) (copies body count (offset + 1))

-- how many iterations are one
abbrev pub group : ℕ
group = 4

-- how many groups the iterations for these numbers make, and how many are left
abbrev pub groups_in : CounterRange → ℕ
groups_in range = (range.high - range.low) / group

abbrev pub left_in : CounterRange → ℕ
left_in range = (range.high - range.low) % group

-- an iteration of a loop over groups: the base of a group, and the body at each of its offsets
abbrev pub group_code : ℕ → ℕ → ℕ → (ℕ → StraightBlock) → StraightBlock
group_code x base low body = first (set None base (first_of_group x low)) (copies body group 0)

-- a loop with this counter over groups with this base, of the body at each offset
abbrev pub grouped_loop : ℕ → ℕ → CounterRange → (ℕ → StraightBlock) → StraightBlock
grouped_loop x base range body =
    first (repeats x (number 0 Uint32) (number (groups_in range) Uint32) (group_code x base range.low body))
    (first (number_set base (range.high - left_in range))
    (chain (copies body (left_in range) 0) (single (number_set x (range.high - 1)))))

abbrev pub shift_to : ℕ → ℕ → ℕ → Shift
shift_to x base offset = record { counter = x; base = base; offset = offset }

-- the numbers of a counter, where its loop stands in no group and is grouped
abbrev pub range_at : Option Shift → ℕ → TermTree → TermTree → StraightBlock → Option CounterRange
range_at None x low high body = grouped_range [] x low high body
range_at (Some shift) x low high body = None

-- a loop over groups, where there are some, else as it is
abbrev pub loop_by : Option CounterRange → (CounterRange → StraightBlock) → StraightBlock → StraightBlock
loop_by None by_groups as_loop = as_loop
loop_by (Some range) by_groups as_loop = by_groups range

abbrev mutual
  -- a statement, with the number of a group's counter in its place, and with groups of this base
  pub grouped : Option Shift → ℕ → StraightTree → StraightBlock
  grouped shift base (set within x value) = single (set within x (shifted shift value))
  grouped shift base (array x size values) = single (array x size (map (shifted shift) values))
  grouped shift base (put within place x size index value) =
      single (put within place x size (shifted shift index) (shifted shift value))
  grouped shift base (take control within condition) = single (take control within (shifted shift condition))
  grouped shift base (branch condition accepted otherwise) =
      single (branch (shifted shift condition) (grouped_all shift base accepted) (grouped_all shift base otherwise))
  grouped shift base (repeats x low high body) =
      loop_by (range_at shift x low high body)
      (λ range. grouped_loop x base range (λ offset. grouped_all (Some (shift_to x base offset)) base body))
      (single (repeats x (shifted shift low) (shifted shift high) (grouped_all shift base body)))

  -- statements, one after the other
  pub grouped_all : Option Shift → ℕ → StraightBlock → StraightBlock
  grouped_all shift base nothing = nothing
  grouped_all shift base (first statement rest) = chain (grouped shift base statement) (grouped_all shift base rest)

-- What the groups of a program's loops need: all variables, the base behind the others; and which it is, where they are
-- not too many.
pub record GroupPlan : Type 0 where
  pub declared : List FlatVariable
  pub base : Option ℕ

abbrev pub base_type : FlatVariable
base_type = word_as (labelled Uint32 Public) true

-- the variable behind so many, where they are not too many
abbrev pub base_behind : ℕ → Option ℕ
base_behind count = if nat_le count most_variable_words then Some count else None

abbrev pub plan_of : StraightProgram → GroupPlan
plan_of p = record { declared = p.declared ++ base_type ∷ []; base = base_behind (length p.declared) }

-- a program in which loops are over groups with this base
abbrev pub grouped_by : List FlatVariable → StraightProgram → ℕ → StraightProgram
grouped_by declared p base =
    with_variables p declared (grouped_all None base p.body) (option_map (shifted None) p.value)

abbrev pub made_by : GroupPlan → StraightProgram → Option StraightProgram
made_by plan p = option_and_then (λ base. checked (grouped_by plan.declared p base)) plan.base
