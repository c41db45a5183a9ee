-- About how many instructions statements take: each operator, load and store is one, and words are in registers. An
-- element takes more for its address, but not where its index is a word, or differs from one by a number. Where
-- counters are numbers addresses take nothing, and arrays that might become words have no loads and stores; where they
-- are not, each of these counts for far more than an instruction.
use Rattle.std.specs.Prelude.{ℕ, ◌+◌, ◌*◌, ◌&&◌, ◌||◌, Bool, true, false, List, [], ◌∷◌, if◌then◌else◌, max, nat_le}
use Rattle.std.specs.Prelude.{None, Option, slice_index, Some}
use Rattle.optimisation.specs.Below.{array, binary, branch, convert, element, first, nothing, number, prefix, put}
use Rattle.optimisation.specs.Below.{repeats, rotate, select, set, StraightBlock, StraightTree, take, TermTree, truth}
use Rattle.optimisation.specs.Below.{variable}
use Rattle.straight_words.specs.declared.element_words.parts.SplitArray.{SplitArray}
use Rattle.straight_words.specs.element_words.private.Parts.{part_of, Parts}
use Rattle.optimisation.specs.iteration_groups.private.Losses.{is_near}
use Rattle.optimisation.specs.private.Nodes.{counted}

-- of a load or store, where counters are numbers or not
abbrev pub access_cost : Bool → Option SplitArray → ℕ
access_cost known None = 1
access_cost known (Some part) = if known then 0 else 1024

-- of an address, by its index and what that takes
abbrev pub address_cost : Bool → TermTree → ℕ → ℕ
address_cost known index n = if known || is_near index then 0 else 2 + n

-- of an expression
abbrev pub cost : Parts → Bool → TermTree → ℕ
cost arrays known (number value kind) = 0
cost arrays known (truth value) = 0
cost arrays known (variable x) = 0
cost arrays known (convert kind operand) = cost arrays known operand
cost arrays known (prefix operator width operand) = 1 + cost arrays known operand
cost arrays known (rotate width operand amount) = 3 + cost arrays known operand
cost arrays known (binary place operator width left right) = 1 + cost arrays known left + cost arrays known right
cost arrays known (select condition accepted otherwise) =
    3 + cost arrays known condition + cost arrays known accepted + cost arrays known otherwise
cost arrays known (element place x size index) =
    access_cost known (part_of arrays x) + address_cost known index (cost arrays known index)

-- of a load or store with its index
abbrev pub cost_at : Parts → Bool → ℕ → TermTree → ℕ
cost_at arrays known x index = access_cost known (part_of arrays x) + address_cost known index (cost arrays known index)

-- of expressions
abbrev pub all_cost : Parts → Bool → List TermTree → ℕ
all_cost arrays known [] = 0
all_cost arrays known (e ∷ es) = cost arrays known e + all_cost arrays known es

-- of a loop of so many iterations, or of one where none count, by what the body takes: an iteration takes three more
abbrev pub loop_cost : ℕ → ℕ → ℕ
loop_cost iterations body = counted (counted (body + 3) * max iterations 1)

-- counters are numbers in a loop that becomes so many iterations, but not where it stays
abbrev pub stays_known : Bool → ℕ → Bool
stays_known known iterations = known && nat_le 1 iterations

abbrev mutual
  -- of a statement, where the loop of each counter has so many iterations
  pub cost_by : Parts → List ℕ → Bool → StraightTree → ℕ
  cost_by arrays limits known (set within x value) = cost arrays known value
  cost_by arrays limits known (array x size values) = all_cost arrays known values
  cost_by arrays limits known (put within place x size index value) =
      cost_at arrays known x index + cost arrays known value
  cost_by arrays limits known (take control within condition) = 1 + cost arrays known condition
  cost_by arrays limits known (branch condition accepted otherwise) =
      1 + cost arrays known condition + cost_by_all arrays limits known accepted
      + cost_by_all arrays limits known otherwise
  cost_by arrays limits known (repeats x low high body) =
      loop_cost (slice_index limits x)
      (counted (cost_by_all arrays limits (stays_known known (slice_index limits x)) body))

  -- of statements, one after the other
  pub cost_by_all : Parts → List ℕ → Bool → StraightBlock → ℕ
  cost_by_all arrays limits known nothing = 0
  cost_by_all arrays limits known (first statement rest) =
      cost_by arrays limits known statement + cost_by_all arrays limits known rest
