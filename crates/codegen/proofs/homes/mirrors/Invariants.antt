use Rattle.std.proofs.Common.{◌≡◌, ◌++◌, drop}
use Rattle.codegen.specs.private.Homes.{mirrors_from}
use Rattle.codegen.proofs.homes.mirrors.Given as goal

-- the mirrors so far and those in the registers that are left are all mirrors
abbrev pub invariant-loop-variable : goal.invariant-loop-variable
invariant-loop-variable l =
    l.mirrors.items ++ mirrors_from l.uses l.variable (drop l.variable l.registers) ≡ mirrors_from l.uses 0 l.registers
