use Rattle.std.proofs.Common.{◌≡◌, drop}
use Rattle.optimisation.specs.constants.private.Known.{source_in}
use Rattle.optimisation.proofs.constants.known.KnownWords.source_of.Given as goal

-- the copies that are left say what all say
abbrev pub invariant-loop-copy : goal.invariant-loop-copy
invariant-loop-copy l =
    source_in (drop l.copy-index l.self.copies.items) l.variable ≡ source_in l.fn.self.copies.items l.fn.variable
