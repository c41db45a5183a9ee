-- How much each word variable of a program is used: the sum of 8 to the number of loops around, over the places in
-- which it is read, set or a loop's counter. No weight goes beyond the greatest number of 64 bits.
use Rattle.std.specs.Prelude.{ℕ, ◌+◌, ◌-◌, ◌*◌, ◌^◌, List, [], ◌∷◌, Option, None, Some, length, min}
use Rattle.std.specs.Prelude.{replicate, slice_index, slice_set}
use Rattle.branch_removal.specs.Straight.{StraightTree, set, array, put, take, branch, repeats}
use Rattle.branch_removal.specs.Straight.{StraightBlock, nothing, first, StraightProgram}
use Rattle.branch_removal.specs.Below.{binary, convert, element, number, prefix, rotate, select, TermTree, truth}
use Rattle.branch_removal.specs.Below.{variable}

abbrev pub greatest_weight : ℕ
greatest_weight = 2 ^ 64 - 1

-- what a use in a loop counts, where one outside it counts so much
abbrev pub weight_inside : ℕ → ℕ
weight_inside weight = min (weight * 8) greatest_weight

-- the weights of variables with one more use of a variable, which counts so much
abbrev pub used : ℕ → ℕ → List ℕ → List ℕ
used weight x weights = slice_set weights x (min (slice_index weights x + weight) greatest_weight)

-- with those in an expression
abbrev pub used_in : ℕ → TermTree → List ℕ → List ℕ
used_in weight (number value kind) weights = weights
used_in weight (truth value) weights = weights
used_in weight (variable x) weights = used weight x weights
used_in weight (prefix operator width e) weights = used_in weight e weights
used_in weight (binary place operator width left right) weights = used_in weight right (used_in weight left weights)
used_in weight (rotate width e amount) weights = used_in weight e weights
used_in weight (convert kind e) weights = used_in weight e weights
used_in weight (select condition accepted otherwise) weights =
    used_in weight otherwise (used_in weight accepted (used_in weight condition weights))
used_in weight (element place x size index) weights = used_in weight index weights

abbrev pub used_in_terms : ℕ → List TermTree → List ℕ → List ℕ
used_in_terms weight [] weights = weights
used_in_terms weight (e ∷ es) weights = used_in_terms weight es (used_in weight e weights)

abbrev mutual
  -- with those in a statement
  pub used_by : ℕ → StraightTree → List ℕ → List ℕ
  used_by weight (set within x value) weights = used weight x (used_in weight value weights)
  used_by weight (array x size values) weights = used_in_terms weight values weights
  used_by weight (put within place x size index value) weights =
      used_in weight value (used_in weight index weights)
  used_by weight (take control within condition) weights = used_in weight condition weights
  used_by weight (branch condition accepted otherwise) weights =
      used_by_all weight otherwise (used_by_all weight accepted (used_in weight condition weights))
  used_by weight (repeats x low high body) weights =
      used_by_all (weight_inside weight) body
      (used (weight_inside weight) x (used_in weight high (used_in weight low weights)))

  -- with those in statements, one after the other
  pub used_by_all : ℕ → StraightBlock → List ℕ → List ℕ
  used_by_all weight nothing weights = weights
  used_by_all weight (first statement rest) weights = used_by_all weight rest (used_by weight statement weights)

-- with those in a result, where there is one
abbrev pub used_in_result : Option TermTree → List ℕ → List ℕ
used_in_result None weights = weights
used_in_result (Some value) weights = used_in 1 value weights

-- the weights of a program's variables, by their numbers
abbrev pub weights_of : StraightProgram → List ℕ
weights_of p = used_in_result p.value (used_by_all 1 p.body (replicate (length p.declared) 0))
