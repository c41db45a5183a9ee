-- How branches on secrets are removed: each condition is taken into control values, and both arms follow. Branches on
-- what is public stay, and loops do: what they go by is public.
use Rattle.std.specs.Prelude.{ℕ, ◌+◌, Option, None, Some, max}
use Rattle.branch_removal.specs.Straight.{StraightTree, set, take, repeats}
use Rattle.branch_removal.specs.Straight.{StraightBlock, nothing, first, chain, StraightProgram}
use Rattle.branch_removal.specs.Straight as straight
use Rattle.branch_removal.specs.Below.{assign, branch, declare, FlatBlock, FlatProgram, FlatTree, hold, Label, loop}
use Rattle.branch_removal.specs.Below.{Public, RangedProgram, Secret, skip, TermTree}
use Rattle.inline.specs.Flat as flat

-- the block of one statement
abbrev pub single : StraightTree → StraightBlock
single statement = first statement nothing

-- the condition of a branch on a secret, within the enclosing control value
abbrev pub take_within : Option ℕ → ℕ → TermTree → StraightTree
take_within within control condition = take control within condition

abbrev mutual
  -- a statement within an enclosing control value; its own control values are from `control` on.
  -- What it declares is set in any case, counters and indices that are held are too.
  pub removed : Option ℕ → ℕ → FlatTree → StraightBlock
  removed within control (declare x word mutable value) = single (set None x value)
  removed within control (flat.array x word mutable size values) = single (straight.array x size values)
  removed within control (assign x value) = single (set within x value)
  removed within control (flat.put place x size index value) = single (straight.put within place x size index value)
  removed within control (hold x place size index) = single (set None x index)
  removed within control skip = nothing
  removed within control (branch Secret condition accepted otherwise) =
      first (take_within within control condition)
      (chain (removed_all (Some control) (control + 2) accepted)
      (removed_all (Some (control + 1)) (control + 2) otherwise))
  removed within control (branch Public condition accepted otherwise) =
      single (straight.branch condition (removed_all within control accepted) (removed_all within control otherwise))
  removed within control (loop x low high body) = single (repeats x low high (removed_all within control body))

  pub removed_all : Option ℕ → ℕ → FlatBlock → StraightBlock
  removed_all within control flat.nothing = nothing
  removed_all within control (flat.first statement rest) =
      chain (removed within control statement) (removed_all within control rest)

-- how many control values a conditional takes by itself
abbrev pub own_controls : Label → ℕ
own_controls Public = 0
own_controls Secret = 2

abbrev mutual
  -- how many control values a statement takes
  pub controls_in : FlatTree → ℕ
  controls_in (declare x word mutable value) = 0
  controls_in (flat.array x word mutable size values) = 0
  controls_in (assign x value) = 0
  controls_in (flat.put place x size index value) = 0
  controls_in (hold x place size index) = 0
  controls_in skip = 0
  controls_in (branch label condition accepted otherwise) =
      own_controls label + max (controls_in_all accepted) (controls_in_all otherwise)
  controls_in (loop x low high body) = controls_in_all body

  pub controls_in_all : FlatBlock → ℕ
  controls_in_all flat.nothing = 0
  controls_in_all (flat.first statement rest) = max (controls_in statement) (controls_in_all rest)

abbrev pub straightened : RangedProgram → StraightProgram
straightened ranged = record {
  profile = ranged.flat.profile;
  parameters = ranged.flat.parameters;
  returned = ranged.flat.returned;
  nodes = ranged.flat.nodes;
  work = ranged.work;
  iterations = ranged.iterations;
  declared = ranged.flat.declared;
  controls = controls_in_all ranged.flat.body;
  body = removed_all None 0 ranged.flat.body;
  value = ranged.flat.value;
}
