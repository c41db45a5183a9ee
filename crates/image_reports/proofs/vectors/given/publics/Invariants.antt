use Rattle.std.proofs.Common.{◌≡◌, ◌++◌, drop}
use Rattle.image_reports.specs.vectors.Spelled.{publics}
use Rattle.image_reports.proofs.vectors.given.publics.Given as goal

-- the public arguments so far, and those that are left, are all
abbrev pub invariant-loop-index : goal.invariant-loop-index
invariant-loop-index l = l.given.items ++ publics (drop l.index l.params) (drop l.index l.args)
    ≡ publics l.params l.args
