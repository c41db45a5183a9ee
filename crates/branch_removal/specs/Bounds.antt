-- How large straight code is and how much work it is, and the bounds that it keeps.
use Rattle.std.specs.Prelude.{ℕ, ◌+◌, ◌-◌, ◌*◌, ◌/◌, ◌≤◌, List, map, min, slice_index}
use Rattle.std.specs.List.{AllByRecursion}
use Rattle.branch_removal.specs.Below.{declaration_of, declared_words, HasLength, most_declared_bytes, most_nodes}
use Rattle.branch_removal.specs.Below.{most_variable_bytes, most_work, number, Param, term_nodes, terms_nodes, TermTree}
use Rattle.branch_removal.specs.Below.{value_nodes}
use Rattle.branch_removal.specs.Heights.{depth_in_all, program_height}
use Rattle.branch_removal.specs.Straight.{StraightTree, set, array, put, take, branch, repeats}
use Rattle.branch_removal.specs.Straight.{StraightBlock, nothing, first, StraightProgram}

abbrev mutual
  -- the nodes of a statement, itself among them; an element that is set is one too
  pub statement_nodes : StraightTree → ℕ
  statement_nodes (set within x value) = 1 + term_nodes value
  statement_nodes (array x size values) = 1 + terms_nodes values
  statement_nodes (put within place x size index value) = 1 + (1 + term_nodes index) + term_nodes value
  statement_nodes (take control within condition) = 1 + term_nodes condition
  statement_nodes (branch condition accepted otherwise) =
      1 + term_nodes condition + block_nodes accepted + block_nodes otherwise
  statement_nodes (repeats x low high body) = 1 + term_nodes low + term_nodes high + block_nodes body

  pub block_nodes : StraightBlock → ℕ
  block_nodes nothing = 0
  block_nodes (first statement rest) = statement_nodes statement + block_nodes rest

-- A run takes at most 32 steps for a unit of work, and at most 16 for a node of an expression.

-- the work of what evaluates so many nodes: half a unit for each, and one for what is made of their values
abbrev pub nodes_work : ℕ → ℕ
nodes_work nodes = 1 + nodes / 2

-- how many iterations are counted for a loop: those of its counter, and no more than lie between two numbers
abbrev pub iterations_counted : List ℕ → ℕ → TermTree → TermTree → ℕ
iterations_counted iterations x (number low kind) (number high other) = min (high - low) (slice_index iterations x)
iterations_counted iterations x low high = slice_index iterations x

abbrev mutual
  -- the work of a statement, with the iterations that are counted for each counter: an array is as much as its elements
  pub statement_work : List ℕ → StraightTree → ℕ
  statement_work iterations (set within x value) = nodes_work (term_nodes value)
  statement_work iterations (array x size values) = 1 + size + terms_nodes values
  statement_work iterations (put within place x size index value) = nodes_work (term_nodes index + term_nodes value)
  statement_work iterations (take control within condition) = nodes_work (term_nodes condition)
  statement_work iterations (branch condition accepted otherwise) =
      nodes_work (term_nodes condition) + block_work iterations accepted + block_work iterations otherwise
  statement_work iterations (repeats x low high body) =
      term_nodes low + term_nodes high
      + (iterations_counted iterations x low high + 1) * (1 + block_work iterations body)

  pub block_work : List ℕ → StraightBlock → ℕ
  block_work iterations nothing = 0
  block_work iterations (first statement rest) = statement_work iterations statement + block_work iterations rest

-- a program within the limits on size
pub record IsBounded (p : StraightProgram) : Type 0 where
  pub lengths : AllByRecursion (λ (parameter : Param). HasLength parameter.form parameter.length) p.parameters
  pub parameters : 4 * declared_words (map declaration_of p.parameters) ≤ most_declared_bytes
  pub declared : 4 * declared_words p.declared ≤ most_variable_bytes
  -- the source's nodes are within the limit, and the code is no more work than the source
  pub nodes : p.nodes ≤ most_nodes
  pub worked : block_work p.iterations p.body + value_nodes p.value ≤ p.work
  pub work_fits : p.work ≤ most_work
  -- a frame has no more words behind the variables than the source has nodes: the control values, two words for each
  -- level of loops, and the values that are needed at once
  pub framed : p.controls + 2 * depth_in_all p.body + program_height p ≤ p.nodes

-- a program of no more nodes than the source
abbrev pub IsCounted : StraightProgram → Type 0
IsCounted p = block_nodes p.body + value_nodes p.value ≤ p.nodes
