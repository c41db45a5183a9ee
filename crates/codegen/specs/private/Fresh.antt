-- Which variables need not hold anything at first: what reads one comes behind a statement that sets it, and in a
-- branch or a loop behind one of the same arm or the same iteration.
use Rattle.std.specs.Prelude.{ℕ, ◌+◌, ◌==◌, ◌&&◌, ◌||◌, Bool, false, not, nat_lt, List, [], ◌∷◌, length}
use Rattle.std.specs.Prelude.{Option, None, Some, is_none, if◌then◌else◌}
use Rattle.codegen.specs.Below.{array, binary, branch, convert, element, first, nothing, number, prefix, put, repeats}
use Rattle.codegen.specs.Below.{rotate, select, set, StraightBlock, StraightProgram, StraightTree, take, TermTree}
use Rattle.codegen.specs.Below.{truth, variable}
use Rattle.expression_code.specs.NearElements.{is_near}

-- whether an expression names a variable
abbrev pub names_in : ℕ → TermTree → Bool
names_in y (number value kind) = false
names_in y (truth value) = false
names_in y (variable x) = x == y
names_in y (prefix operator width e) = names_in y e
names_in y (binary place operator width left right) = names_in y left || names_in y right
names_in y (rotate width e amount) = names_in y e
names_in y (convert kind e) = names_in y e
names_in y (select condition accepted otherwise) =
    names_in y condition || (names_in y accepted || names_in y otherwise)
names_in y (element place x size index) = (x == y) || names_in y index

-- whether one of some expressions does
abbrev pub names_in_any : ℕ → List TermTree → Bool
names_in_any y [] = false
names_in_any y (e ∷ es) = names_in y e || names_in_any y es

-- whether a result does, where there is one
abbrev pub names_in_result : ℕ → Option TermTree → Bool
names_in_result y None = false
names_in_result y (Some value) = names_in y value

-- whether a loop is certain to make an iteration: it goes from a number up to a larger one that an instruction holds
abbrev pub is_certain : TermTree → TermTree → Bool
is_certain (number low kind) (number high other) = nat_lt low high && is_near high
is_certain low high = false

-- whether a statement sets a variable and reads what it held before nowhere; a loop's counter is set where an iteration
-- is certain
abbrev pub sets_fresh : ℕ → StraightTree → Bool
sets_fresh y (set within x value) = is_none within && ((x == y) && not (names_in y value))
sets_fresh y (repeats x low high body) = (x == y) && is_certain low high
sets_fresh y statement = false

abbrev mutual
  -- whether a statement reads nowhere what a variable held before it; it may set it, but only within an arm or a loop
  pub passes : ℕ → StraightTree → Bool
  passes y (set within x value) = not ((x == y) || names_in y value)
  passes y (array x size values) = not ((x == y) || names_in_any y values)
  passes y (put within place x size index value) = not ((x == y) || (names_in y index || names_in y value))
  passes y (take control within condition) = not (names_in y condition)
  passes y (branch condition accepted otherwise) =
      not (names_in y condition) && (is_fresh y accepted None && is_fresh y otherwise None)
  passes y (repeats x low high body) =
      not ((x == y) || (names_in y low || names_in y high)) && is_fresh y body None

  -- whether some statements and the result behind them read nowhere what a variable held before
  pub is_fresh : ℕ → StraightBlock → Option TermTree → Bool
  is_fresh y nothing value = not (names_in_result y value)
  is_fresh y (first statement rest) value = sets_fresh y statement || (passes y statement && is_fresh y rest value)

-- whether the word of a home is such a variable, and no parameter: it is not loaded at the start
abbrev pub starts_fresh : StraightProgram → ℕ → Bool
starts_fresh p y =
    not (nat_lt y (length p.parameters)) && (nat_lt y (length p.declared) && is_fresh y p.body p.value)

-- the homes of the word x and those behind it but those of some words
abbrev pub homes_but : (ℕ → Bool) → ℕ → List (Option ℕ) → List (Option ℕ)
homes_but left_out x [] = []
homes_but left_out x (None ∷ homes) = None ∷ homes_but left_out (x + 1) homes
homes_but left_out x (Some home ∷ homes) =
    (if left_out x then None else Some home) ∷ homes_but left_out (x + 1) homes
