use Rattle.std.proofs.Common.{◌≡◌, ◌-◌, ◌++◌, List}
use Rattle.image.specs.Format.{Format}
use Rattle.image.specs.Reading.{slots_format}
use Rattle.image.specs.private.Following.{ahead}
use Rattle.image.proofs.reading.Reader.slots.Given as goal
use Rattle.image.specs.Below.{Slot}

abbrev pub invariant-slots : goal.invariant-slots
invariant-slots l =
    (next : List Slot → Format)
    → ahead (slots_format l.count 0 next) l.fn.self
    ≡ ahead (slots_format (l.count - l.counter) l.low (λ slots. next (l.slots.items ++ slots))) l.self
