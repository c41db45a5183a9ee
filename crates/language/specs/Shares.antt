-- Parts of a source, each with how much it has of what is counted, and the part that has most.
use Rattle.std.specs.Prelude.{◌≡◌, ◌<◌, ◌≤◌, ℕ, ◌+◌, ◌-◌, ◌^◌, nat_lt, fold, List, [], ◌∷◌, ◌++◌, map, max, min}
use Rattle.std.specs.Prelude.{Option, None, Some, if◌then◌else◌}
use Rattle.std.specs.List.{AllByRecursion}
use Rattle.language.specs.declared.cost.Cost.{Cost}
use Rattle.language.specs.declared.why.Counted.{Counted}
use Rattle.language.specs.declared.why.Excess.{Excess}
use Rattle.language.specs.declared.why.Share.{Share}
use Rattle.language.specs.Tree.{StatementTree, BlockTree, nothing, first, place_of}

-- the greatest number of 64 bits stands for those above it too
abbrev pub most_counted : ℕ
most_counted = 2 ^ 64 - 1

-- what is counted of so many things
abbrev pub counted : ℕ → ℕ
counted n = min n most_counted

-- the statements of a block, those inside others aside, each with so much
abbrev pub statement_shares : (StatementTree → ℕ) → BlockTree → List Share
statement_shares count nothing = []
statement_shares count (first s rest) = record { place = place_of s; count = count s } ∷ statement_shares count rest

-- of two parts the first, unless the other has more
abbrev pub larger : Option Share → Share → Option Share
larger None q = Some q
larger (Some p) q = if nat_lt p.count q.count then Some q else Some p

-- the first of the parts that have most
abbrev pub largest : List Share → Option Share
largest ps = fold larger None ps

-- a part as it is counted
abbrev pub counted_share : Share → Share
counted_share p = record { place = p.place; count = counted p.count }

-- what is counted of so much that these parts have
abbrev pub cost_of : ℕ → List Share → Cost
cost_of whole parts = record { whole = counted whole; largest = largest (map counted_share parts) }

-- there is too much of it
abbrev pub excess : Counted → Cost → Excess
excess what cost = record { counted = what; whole = cost.whole; largest = cost.largest }

-- it is a part, none before it has as much, and none behind it has more
pub record IsFirstOfGreatest (ps : List Share) (p : Share) : Type 0 where
  pub before : List Share
  pub behind : List Share
  pub split : ps ≡ before ++ p ∷ behind
  pub first : AllByRecursion (λ (q : Share). q.count < p.count) before
  pub greatest : AllByRecursion (λ (q : Share). q.count ≤ p.count) behind

-- what parts have together, and the most that one of them has
abbrev pub sum_of : List Share → ℕ
sum_of [] = 0
sum_of (p ∷ ps) = p.count + sum_of ps

abbrev pub greatest_of : List Share → ℕ
greatest_of [] = 0
greatest_of (p ∷ ps) = max p.count (greatest_of ps)
