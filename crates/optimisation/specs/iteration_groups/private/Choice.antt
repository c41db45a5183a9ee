-- Which loops are grouped: those between two numbers that make at least sixteen iterations, whose body has few nodes
-- and no loop, sets the counter nowhere, and loses nothing in a group.
use Rattle.std.specs.Prelude.{ℕ, ◌+◌, ◌-◌, ◌/◌, ◌==◌, ◌&&◌, Bool, true, false, not, nat_le}
use Rattle.std.specs.Prelude.{Option, None, Some, if◌then◌else◌}
use Rattle.std.specs.Option.{option_and_then}
use Rattle.optimisation.specs.Below.{array, branch, first, nothing, number, put, repeats, set, StraightBlock}
use Rattle.optimisation.specs.Below.{StraightTree, take, TermTree}
use Rattle.optimisation.specs.declared.constants.terms.CounterRange.{CounterRange}
use Rattle.straight_words.specs.element_words.private.Parts.{Parts}
use Rattle.optimisation.specs.iteration_groups.private.Losses.{lost_by_all}
use Rattle.optimisation.specs.private.Nodes.{counted, term_size, terms_size}

abbrev mutual
  -- a statement that has no loop, and does not set this variable
  pub is_plain : ℕ → StraightTree → Bool
  is_plain y (set within x value) = not (x == y)
  is_plain y (array x size values) = not (x == y)
  is_plain y (put within place x size index value) = not (x == y)
  is_plain y (take control within condition) = true
  is_plain y (branch condition accepted otherwise) = are_plain y accepted && are_plain y otherwise
  is_plain y (repeats x low high body) = false

  -- so are all of these
  pub are_plain : ℕ → StraightBlock → Bool
  are_plain y nothing = true
  are_plain y (first statement rest) = is_plain y statement && are_plain y rest

abbrev mutual
  -- the nodes of a statement, of indices a quarter
  pub statement_size : StraightTree → ℕ
  statement_size (set within x value) = 1 + term_size value
  statement_size (array x size values) = 1 + terms_size values
  statement_size (put within place x size index value) = 1 + counted (term_size index) / 4 + term_size value
  statement_size (take control within condition) = 1 + term_size condition
  statement_size (branch condition accepted otherwise) =
      1 + term_size condition + body_size accepted + body_size otherwise
  statement_size (repeats x low high body) = 1 + term_size low + term_size high + body_size body

  -- those of statements
  pub body_size : StraightBlock → ℕ
  body_size nothing = 0
  body_size (first statement rest) = statement_size statement + body_size rest

abbrev pub least_iterations : ℕ
least_iterations = 16

-- how many nodes an iteration may have
abbrev pub most_nodes : ℕ
most_nodes = 24

abbrev pub number_in : TermTree → Option ℕ
number_in (number value kind) = Some value
number_in _ = None

-- the numbers from one up to the last before another, where there are enough of them
abbrev pub range_between : ℕ → ℕ → Option CounterRange
range_between low high =
    if nat_le least_iterations (high - low) then Some (record { low = low; high = high }) else None

-- an iteration has few nodes, and loses nothing
abbrev pub is_short : Parts → ℕ → StraightBlock → Bool
is_short arrays x body =
    nat_le (counted (body_size body)) most_nodes && counted (lost_by_all arrays x body) == 0

-- a loop with this counter and body may be grouped, where these arrays might become words
abbrev pub is_groupable : Parts → ℕ → StraightBlock → Bool
is_groupable arrays x body = are_plain x body && is_short arrays x body

-- the numbers of a counter, where its loop is grouped
abbrev pub grouped_range : Parts → ℕ → TermTree → TermTree → StraightBlock → Option CounterRange
grouped_range arrays x low high body = if is_groupable arrays x body
    then option_and_then (λ a. option_and_then (range_between a) (number_in high)) (number_in low)
    else None
