-- What was learned of variables can be taken back: each change keeps what was known before it.
use Rattle.std.specs.Prelude.{◌≡◌, List, [], ◌∷◌, ◌++◌, slice_set}
use Rattle.intervals.specs.Intervals.{Bounds}
use Rattle.intervals.specs.declared.known.BoundChange.{BoundChange}
use Rattle.intervals.specs.declared.known.KnownBounds.{KnownBounds}

-- what was known before some changes, of which the last is taken back first
abbrev pub rewound : List BoundChange → Bounds → Bounds
rewound [] bounds = bounds
rewound (change ∷ later) bounds = slice_set (rewound later bounds) change.variable change.before

-- the one came from the other by changes that lead back to it
pub record CameFrom (before now : KnownBounds) : Type 0 where
  pub changes : List BoundChange
  pub kept : now.changes.items ≡ before.changes.items ++ changes
  pub rewound : rewound changes now.bounds.items ≡ before.bounds.items
