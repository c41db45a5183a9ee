-- About the nodes that expressions will have once counters are numbers: an index is mostly made of counters and
-- numbers, so a quarter of its nodes counts.
use Rattle.std.specs.Prelude.{ℕ, ◌+◌, ◌-◌, ◌/◌, ◌^◌, List, [], ◌∷◌, min}
use Rattle.optimisation.specs.Below.{binary, convert, element, number, prefix, rotate, select, TermTree, truth}
use Rattle.optimisation.specs.Below.{variable}

-- a count stops at the greatest number of 64 bits
abbrev pub counted : ℕ → ℕ
counted n = min n (2 ^ 64 - 1)

-- the nodes of an expression, of indices a quarter
abbrev pub term_size : TermTree → ℕ
term_size (number value kind) = 1
term_size (truth value) = 1
term_size (variable x) = 1
term_size (prefix operator width operand) = 1 + term_size operand
term_size (binary place operator width left right) = 1 + term_size left + term_size right
term_size (rotate width operand amount) = 1 + term_size operand
term_size (convert kind operand) = 1 + term_size operand
term_size (select condition accepted otherwise) =
    1 + term_size condition + term_size accepted + term_size otherwise
term_size (element place x size index) = 1 + counted (term_size index) / 4

-- of expressions
abbrev pub terms_size : List TermTree → ℕ
terms_size [] = 0
terms_size (e ∷ es) = term_size e + terms_size es
