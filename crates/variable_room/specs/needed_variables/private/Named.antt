-- Which variables a program names, and the variables of which only those take words.
use Rattle.std.specs.Prelude.{ℕ, ◌+◌, Bool, true, false, List, [], ◌∷◌, Option, None, Some, if◌then◌else◌}
use Rattle.std.specs.Prelude.{slice_get, slice_set, unwrap_or}
use Rattle.variable_room.specs.Below.{array, binary, branch, convert, element, first, FlatVariable, nothing, number}
use Rattle.variable_room.specs.Below.{prefix, put, repeats, rotate, select, set, StraightBlock, StraightProgram}
use Rattle.variable_room.specs.Below.{StraightTree, take, TermTree, truth, variable}
use Rattle.variable_room.specs.set_first.Order.{known_parameters, program_sets_first}

-- which variables are named
abbrev pub Named : Type 0
Named = List Bool

abbrev pub with_name : ℕ → Named → Named
with_name x named = slice_set named x true

-- with those in an expression
abbrev pub named_in : TermTree → Named → Named
named_in (number value kind) named = named
named_in (truth value) named = named
named_in (variable x) named = with_name x named
named_in (prefix operator width operand) named = named_in operand named
named_in (binary place operator width left right) named = named_in right (named_in left named)
named_in (rotate width operand amount) named = named_in operand named
named_in (convert kind operand) named = named_in operand named
named_in (select condition accepted otherwise) named =
    named_in otherwise (named_in accepted (named_in condition named))
named_in (element place x size index) named = named_in index (with_name x named)

abbrev pub named_in_terms : List TermTree → Named → Named
named_in_terms [] named = named
named_in_terms (e ∷ es) named = named_in_terms es (named_in e named)

abbrev pub named_in_result : Option TermTree → Named → Named
named_in_result None named = named
named_in_result (Some value) named = named_in value named

abbrev mutual
  -- with those in a statement
  pub named_by : StraightTree → Named → Named
  named_by (set within x value) named = named_in value (with_name x named)
  named_by (array x size values) named = named_in_terms values (with_name x named)
  named_by (put within place x size index value) named = named_in value (named_in index (with_name x named))
  named_by (take control within condition) named = named_in condition named
  named_by (branch condition accepted otherwise) named =
      named_by_all otherwise (named_by_all accepted (named_in condition named))
  named_by (repeats x low high body) named =
      named_by_all body (named_in high (named_in low (with_name x named)))

  -- with those in statements, one after the other
  pub named_by_all : StraightBlock → Named → Named
  named_by_all nothing named = named
  named_by_all (first statement rest) named = named_by_all rest (named_by statement named)

-- the variables that a program names, and its parameters
abbrev pub named_of : StraightProgram → Named
named_of p = named_in_result p.value (named_by_all p.body (known_parameters p))

-- a variable as it is, or without elements, which takes no words
abbrev pub kept_where : Bool → FlatVariable → FlatVariable
kept_where named d = if named then d else record { word = d.word; mutable = d.mutable; elements = Some 0 }

-- variables, the first at this number, of which those that are not named take no words
abbrev pub needed_from : Named → ℕ → List FlatVariable → List FlatVariable
needed_from named x [] = []
needed_from named x (d ∷ ds) = kept_where (unwrap_or (slice_get named x) false) d ∷ needed_from named (x + 1) ds

-- those of a program, where it sets each variable before it reads it: then none is asked for what it holds at first
abbrev pub needed_by : StraightProgram → List FlatVariable
needed_by p = if program_sets_first p then needed_from (named_of p) 0 p.declared else p.declared
