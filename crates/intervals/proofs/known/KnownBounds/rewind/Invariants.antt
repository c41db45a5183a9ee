use Rattle.std.proofs.Common.{◌≡◌, drop, length, take}
use Rattle.intervals.specs.Undoing.{rewound}
use Rattle.intervals.proofs.known.KnownBounds.rewind.Given as goal

-- what is left to be taken back leads to the same as all of it
abbrev pub invariant-loop-self : goal.invariant-loop-self
invariant-loop-self l = record {
  mark : l.mark ≡ l.fn.mark;
  bounds : rewound (drop l.mark l.self.changes.items) l.self.bounds.items
      ≡ rewound (drop l.fn.mark l.fn.self.changes.items) l.fn.self.bounds.items;
  changes : take l.mark l.self.changes.items ≡ take l.fn.mark l.fn.self.changes.items;
}

abbrev pub decreases-loop-self : goal.decreases-loop-self
decreases-loop-self l = length l.self.changes.items
