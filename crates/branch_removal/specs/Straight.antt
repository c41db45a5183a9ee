-- Straight code as values, without where it lies in memory: branches and loops are left only where what decides them
-- is public.
use Rattle.std.specs.Option.{option_map}
use Rattle.std.specs.Prelude.{ℕ, List, [], ◌∷◌, map, Option}
use Rattle.branch_removal.specs.declared.straight.StraightStatement.{StraightStatement, Set, Array, Put, Take}
use Rattle.branch_removal.specs.declared.straight.StraightStatement.{Branch', Repeat'}
use Rattle.branch_removal.specs.declared.straight.StraightStatement.{Row_of-StraightStatement}
use Rattle.branch_removal.specs.declared.straight.StraightStatement.{end_of-StraightStatement}
use Rattle.branch_removal.specs.declared.straight.StraightStatement.{more_of-StraightStatement}
use Rattle.branch_removal.specs.Below.{FlatVariable, Param, Place, Profile, Term, term_tree, TermTree, WordType}

mutual
  pub data StraightTree : Type 0 where
    -- a variable is set; within a control value where that is true, and kept where it is not
    set : (within : Option ℕ) (variable : ℕ) (value : TermTree) → StraightTree
    -- an array of so many elements gets its first values, one for each element, or zeros where none are given
    array : (variable size : ℕ) (values : List TermTree) → StraightTree
    -- an element of an array of so many is set; within a control value where that is true, and kept where it is not
    put : (within : Option ℕ) (place : Place) (variable size : ℕ) (index value : TermTree) → StraightTree
    -- a condition is taken once, within an enclosing control value or none: this control value is for
    -- where it is true, the next for where it is not
    take : (control : ℕ) (within : Option ℕ) (condition : TermTree) → StraightTree
    -- one of two blocks runs, by a public condition
    branch : (condition : TermTree) (accepted otherwise : StraightBlock) → StraightTree
    -- a block runs for each number of a counter, from the first up to the last before the second
    repeats : (counter : ℕ) (low high : TermTree) (body : StraightBlock) → StraightTree

  pub data StraightBlock : Type 0 where
    nothing : StraightBlock
    first : (statement : StraightTree) (rest : StraightBlock) → StraightBlock

-- a block, and another behind it
abbrev pub chain : StraightBlock → StraightBlock → StraightBlock
chain nothing next = next
chain (first statement rest) next = first statement (chain rest next)

pub record StraightProgram : Type 0 where
  -- for which observer it is
  pub profile : Profile
  pub parameters : List Param
  -- the type of its result, where it has one
  pub returned : Option WordType
  -- how many nodes the source has, its work, and how many iterations are counted for the loop of each counter
  pub nodes : ℕ
  pub work : ℕ
  pub iterations : List ℕ
  -- its variables, each at its number, the parameters first
  pub declared : List FlatVariable
  -- how many control values there are
  pub controls : ℕ
  pub body : StraightBlock
  -- the result, where there is one
  pub value : Option TermTree

-- the same program with another body and another result
abbrev pub with_body : StraightProgram → StraightBlock → Option TermTree → StraightProgram
with_body p body value = record {
  profile = p.profile;
  parameters = p.parameters;
  returned = p.returned;
  nodes = p.nodes;
  work = p.work;
  iterations = p.iterations;
  declared = p.declared;
  controls = p.controls;
  body = body;
  value = value;
}

-- the same program with other variables, another body and another result
abbrev pub with_variables : StraightProgram → List FlatVariable → StraightBlock → Option TermTree → StraightProgram
with_variables p declared body value = record {
  profile = p.profile;
  parameters = p.parameters;
  returned = p.returned;
  nodes = p.nodes;
  work = p.work;
  iterations = p.iterations;
  declared = declared;
  controls = p.controls;
  body = body;
  value = value;
}

abbrev mutual
  pub straight_tree : StraightStatement → StraightTree
  straight_tree (Set within x value) = set within x (term_tree value)
  straight_tree (Array x size values) = array x size (map term_tree values.items)
  straight_tree (Put within place x size index value) =
      put within place x size (term_tree index) (term_tree value)
  straight_tree (Take c within condition) = take c within (term_tree condition)
  straight_tree (Branch' condition shape accepted shape' otherwise) =
      branch (term_tree condition) (straight_row accepted) (straight_row otherwise)
  straight_tree (Repeat' x low high shape body) = repeats x (term_tree low) (term_tree high) (straight_row body)

  -- the statements of an arm or a loop
  pub straight_row : {m : _} → Row_of-StraightStatement m → StraightBlock
  straight_row end_of-StraightStatement = nothing
  straight_row (more_of-StraightStatement statement rest) = first (straight_tree statement) (straight_row rest)

-- a list of statements
abbrev pub straight_block : List StraightStatement → StraightBlock
straight_block [] = nothing
straight_block (statement ∷ rest) = first (straight_tree statement) (straight_block rest)

-- the program of parts that lie in memory
abbrev pub straight_program : Profile → List Param → Option WordType → ℕ → ℕ → List ℕ → List FlatVariable → ℕ
    → List StraightStatement → Option Term → StraightProgram
straight_program profile parameters returned nodes work iterations declared controls body value = record {
  profile = profile;
  parameters = parameters;
  returned = returned;
  nodes = nodes;
  work = work;
  iterations = iterations;
  declared = declared;
  controls = controls;
  body = straight_block body;
  value = option_map term_tree value;
}
