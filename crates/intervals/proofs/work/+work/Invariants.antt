use Rattle.std.proofs.Common.{◌≡◌, ◌≤◌, ◌+◌, drop}
use Rattle.intervals.specs.Below.{counted, flat_block, most_counted}
use Rattle.intervals.specs.Work.{body_work}
use Rattle.intervals.proofs.work.+work.Given as goal

-- the sum is a count, and with the work of the statements left it is the count of all
abbrev pub invariant-work_of_all-loop-statement : goal.invariant-work_of_all-loop-statement
invariant-work_of_all-loop-statement l =
    (l.sum ≤ most_counted)
    × (counted (l.sum + body_work l.iterations (flat_block (drop l.statement-index l.body)))
    ≡ counted (body_work l.iterations (flat_block l.body)))
