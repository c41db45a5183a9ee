use Rattle.std.proofs.Common.{◌≡◌, drop}
use Rattle.intervals.specs.Narrowing.{met_all}
use Rattle.intervals.specs.Undoing.{CameFrom}
use Rattle.intervals.proofs.known.KnownBounds.meet_all.Given as goal

-- what is left of what is said leads to the same as all of it
abbrev pub invariant-loop-said : goal.invariant-loop-said
invariant-loop-said l = record {
  bounds : met_all l.self.bounds.items (drop l.said-index l.told) ≡ met_all l.fn.self.bounds.items l.fn.told;
  from : CameFrom l.fn.self l.self;
}
