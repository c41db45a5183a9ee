-- Work: how many nodes a run evaluates at most, and the limit on it.
use Rattle.std.specs.Prelude.{◌≡◌, ◌⊎◌, ℕ, zero, suc, ◌+◌, ◌*◌, nat_lt, List, [], ◌∷◌, ◌++◌, length, Option, None, Some}
use Rattle.std.specs.Prelude.{slice_index}
use Rattle.intervals.specs.Below.{array, assign, because, branch, cost_of, declare, excess, first, FlatBlock}
use Rattle.intervals.specs.Below.{FlatProgram, FlatTree, hold, IsRefusedFor, IsToldOf, loop, nothing, Place, put}
use Rattle.intervals.specs.Below.{Share, skip, Stretch, term_nodes, terms_nodes, TermTree, TooMuch, TooMuchWork}
use Rattle.intervals.specs.Below.{value_nodes, Violation, when}
use Rattle.language.specs.declared.cost.Cost.{Cost}
use Rattle.language.specs.declared.why.Counted.TheVariants as counted
use Rattle.language.specs.declared.why.Excess.{Excess}
use Rattle.intervals.specs.Ranged.{RangedProgram}
use Rattle.intervals.specs.Ranges.{range_violations, iterations_of}
use Rattle.language.specs.declared.refusal.Refusal.{Refusal}
use Rattle.intervals.specs.Limits.{most_work}
use Rattle.language.specs.declared.rule.Rule.{Rule}

abbrev mutual
  -- the work of a statement, with the iterations that are counted for each counter: an array is as much as its elements
  pub tree_work : List ℕ → FlatTree → ℕ
  tree_work iterations (declare x word mutable value) = 1 + term_nodes value
  tree_work iterations (array x word mutable size values) = 1 + size + terms_nodes values
  tree_work iterations (assign x value) = 1 + term_nodes value
  tree_work iterations (put place x size index value) = 1 + (1 + term_nodes index) + term_nodes value
  tree_work iterations (hold x place size index) = 1 + term_nodes index
  tree_work iterations skip = 1
  tree_work iterations (branch label condition accepted otherwise) =
      1 + term_nodes condition + body_work iterations accepted + body_work iterations otherwise
  tree_work iterations (loop x low high body) =
      term_nodes low + term_nodes high + (slice_index iterations x + 1) * (1 + body_work iterations body)

  pub body_work : List ℕ → FlatBlock → ℕ
  body_work iterations nothing = 0
  body_work iterations (first statement rest) = tree_work iterations statement + body_work iterations rest

-- the work of a program
abbrev pub work_of : FlatProgram → ℕ
work_of p = body_work (iterations_of p) p.body + value_nodes p.value

-- the first statements of a body, so many, and those behind them
abbrev pub first_of : ℕ → FlatBlock → FlatBlock
first_of zero body = nothing
first_of (suc n) nothing = nothing
first_of (suc n) (first statement rest) = first statement (first_of n rest)

abbrev pub behind : ℕ → FlatBlock → FlatBlock
behind zero body = body
behind (suc n) nothing = nothing
behind (suc n) (first statement rest) = behind n rest

-- The parts of a source, each with its work: its statements, those inside others aside, with what they became, and
-- its `return`.

abbrev pub stretch_shares : List ℕ → List Stretch → FlatBlock → List Share
stretch_shares iterations [] body = []
stretch_shares iterations (s ∷ later) body =
    record { place = s.place; count = body_work iterations (first_of s.statements body) }
    ∷ stretch_shares iterations later (behind s.statements body)

abbrev pub value_shares : Option Place → Option TermTree → List Share
value_shares None value = []
value_shares (Some place) value = record { place = place; count = value_nodes value } ∷ []

abbrev pub shares_by : List ℕ → FlatProgram → List Share
shares_by iterations p = stretch_shares iterations p.stretches p.body ++ value_shares p.return_place p.value

-- what is counted of the work for these iterations, and the part that has most of it
abbrev pub cost_by : List ℕ → FlatProgram → Cost
cost_by iterations p = cost_of (body_work iterations p.body + value_nodes p.value) (shares_by iterations p)

-- what there is too much of where the work is too much
abbrev pub work_excess : FlatProgram → Excess
work_excess p = excess counted.Work (cost_by (iterations_of p) p)

-- the limit on work, at the name of the export, with what there is too much of
abbrev pub work_violations : FlatProgram → List Violation
work_violations p = because (TooMuch (work_excess p)) p.place (when (nat_lt most_work (work_of p)) TooMuchWork)

-- the refusal is for a range, or else, where all ranges are kept, for the work
abbrev pub IsRefusedByRanges : FlatProgram → Rule → Option Place → Type 0
IsRefusedByRanges p rule place =
    IsRefusedFor (range_violations p) rule place
    ⊎ ((length (range_violations p) ≡ 0) × IsRefusedFor (work_violations p) rule place)

-- it tells of the range, or else of the work
abbrev pub IsToldByRanges : FlatProgram → Refusal → Type 0
IsToldByRanges p refusal =
    IsToldOf (range_violations p) refusal
    ⊎ ((length (range_violations p) ≡ 0) × IsToldOf (work_violations p) refusal)

-- a body with what is counted for it
abbrev pub ranged : FlatProgram → RangedProgram
ranged p = record { flat = p; iterations = iterations_of p; work = work_of p }
