use Rattle.std.proofs.Common.{◌≡◌, None, drop, fold, map}
use Rattle.intervals.specs.Below.{counted_share, flat_block, larger}
use Rattle.intervals.specs.Work.{stretch_shares}
use Rattle.intervals.proofs.costs.largest_stretch.Given as goal

-- what is kept so far and the stretches left give what all give
abbrev pub invariant-loop-stretch : goal.invariant-loop-stretch
invariant-loop-stretch l =
    fold larger l.most
    (map counted_share (stretch_shares l.iterations (drop l.stretch-index l.stretches) (flat_block l.left)))
    ≡ fold larger None (map counted_share (stretch_shares l.iterations l.stretches (flat_block l.body)))
