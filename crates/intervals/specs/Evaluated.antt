-- How many nodes a run of a body evaluates: of a branch one arm, of a loop the iterations that it makes. It is counted
-- where the body is run as it means, without a fault.
use Rattle.std.specs.Prelude.{ℕ, zero, suc, ◌+◌, ◌-◌, ◌==◌, [], ◌∷◌, List, if◌then◌else◌}
use Rattle.intervals.specs.Below.{after, after_all, Arg, array, assign, branch, declare, first, FlatBlock, FlatProgram}
use Rattle.intervals.specs.Below.{FlatTree, given, hold, loop, nothing, put, skip, term_nodes, terms_nodes, value_in}
use Rattle.intervals.specs.Below.{value_nodes, Values, with_value}

-- of so many iterations, the first at this number: what each makes of a state, and how many nodes each evaluates beside
-- its own
abbrev pub evaluated_in_iterations : {S : Type 0} → ℕ → ℕ → (ℕ → S → S) → (ℕ → S → ℕ) → S → ℕ
evaluated_in_iterations zero i iteration count s = 0
evaluated_in_iterations (suc n) i iteration count s = 1 + count i s + evaluated_in_iterations n (i + 1) iteration count
    (iteration i s)

abbrev mutual
  pub evaluated : Values → FlatTree → ℕ
  evaluated m (declare x word mutable value) = 1 + term_nodes value
  evaluated m (array x word mutable size values) = 1 + terms_nodes values
  evaluated m (assign x value) = 1 + term_nodes value
  evaluated m (put place x size index value) = 1 + (1 + term_nodes index) + term_nodes value
  evaluated m (hold x place size index) = 1 + term_nodes index
  evaluated m skip = 1
  evaluated m (branch label condition accepted otherwise) =
      1 + term_nodes condition + (if value_in m condition == 0 then evaluated_all m otherwise
      else evaluated_all m accepted)
  evaluated m (loop x low high body) =
      1 + term_nodes low + term_nodes high
      + evaluated_in_iterations (value_in m high - value_in m low) (value_in m low)
      (λ i t. after_all (with_value t x (i ∷ [])) body)
      (λ i t. evaluated_all (with_value t x (i ∷ [])) body) m

  pub evaluated_all : Values → FlatBlock → ℕ
  evaluated_all m nothing = 0
  evaluated_all m (first statement rest) = evaluated m statement + evaluated_all (after m statement) rest

-- of a program on arguments
abbrev pub evaluated_by : FlatProgram → List Arg → ℕ
evaluated_by p args = evaluated_all (given p.declared args) p.body + value_nodes p.value
