-- Code that is made anew by a rule: what the rule gives for an expression stands in its place, and any other expression
-- has its parts made anew.
use Rattle.std.specs.Prelude.{map, Option, None, Some}
use Rattle.straight_words.specs.Below.{array, binary, branch, convert, element, first, nothing, number, prefix, put}
use Rattle.straight_words.specs.Below.{repeats, rotate, select, set, StraightBlock, StraightTree, take, TermTree, truth}
use Rattle.straight_words.specs.Below.{variable}

-- what stands in the place of an expression, where that is given
abbrev pub instead_or : Option TermTree → TermTree → TermTree
instead_or None e = e
instead_or (Some made) e = made

-- an expression whose parts are made anew
abbrev pub rebuilt : (TermTree → Option TermTree) → TermTree → TermTree
rebuilt rule (number value kind) = number value kind
rebuilt rule (truth value) = truth value
rebuilt rule (variable x) = variable x
rebuilt rule (prefix operator width operand) =
    prefix operator width (instead_or (rule operand) (rebuilt rule operand))
rebuilt rule (binary place operator width left right) =
    binary place operator width (instead_or (rule left) (rebuilt rule left))
    (instead_or (rule right) (rebuilt rule right))
rebuilt rule (rotate width operand amount) =
    rotate width (instead_or (rule operand) (rebuilt rule operand)) amount
rebuilt rule (convert kind operand) = convert kind (instead_or (rule operand) (rebuilt rule operand))
rebuilt rule (select condition accepted otherwise) =
    select (instead_or (rule condition) (rebuilt rule condition)) (instead_or (rule accepted) (rebuilt rule accepted))
    (instead_or (rule otherwise) (rebuilt rule otherwise))
rebuilt rule (element place x size index) = element place x size (instead_or (rule index) (rebuilt rule index))

abbrev pub rewritten : (TermTree → Option TermTree) → TermTree → TermTree
rewritten rule e = instead_or (rule e) (rebuilt rule e)

abbrev mutual
  -- a statement whose expressions are
  pub rewritten_in : (TermTree → Option TermTree) → StraightTree → StraightTree
  rewritten_in rule (set within x value) = set within x (rewritten rule value)
  rewritten_in rule (array x size values) = array x size (map (rewritten rule) values)
  rewritten_in rule (put within place x size index value) =
      put within place x size (rewritten rule index) (rewritten rule value)
  rewritten_in rule (take control within condition) = take control within (rewritten rule condition)
  rewritten_in rule (branch condition accepted otherwise) =
      branch (rewritten rule condition) (rewritten_all rule accepted) (rewritten_all rule otherwise)
  rewritten_in rule (repeats x low high body) =
      repeats x (rewritten rule low) (rewritten rule high) (rewritten_all rule body)

  -- a block whose statements are
  pub rewritten_all : (TermTree → Option TermTree) → StraightBlock → StraightBlock
  rewritten_all rule nothing = nothing
  rewritten_all rule (first statement rest) = first (rewritten_in rule statement) (rewritten_all rule rest)
