use Rattle.std.proofs.Common.{◌≡◌, drop, max}
use Rattle.branch_removal.specs.Below.{flat_block}
use Rattle.branch_removal.specs.private.Removal.{controls_in_all}
use Rattle.branch_removal.proofs.controls.+controls.Given as goal

-- the most so far and what is left give what all statements take
abbrev pub invariant-controls_in_all-loop-statement : goal.invariant-controls_in_all-loop-statement
invariant-controls_in_all-loop-statement l =
    max l.most (controls_in_all (flat_block (drop l.statement-index l.body))) ≡ controls_in_all (flat_block l.fn.body)
