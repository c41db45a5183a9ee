-- The lines so far, and those of the harts that are left, are all.
use Rattle.std.proofs.Common.{◌≡◌, ◌++◌, drop, map}
use Rattle.commands.specs.Below.{job_of}
use Rattle.commands.specs.HartsText.{ends_text}
use Rattle.commands.proofs.side_by_side.push_ends.Given as goal

abbrev pub invariant-loop-hart : goal.invariant-loop-hart
invariant-loop-hart l = l.text.items ++ ends_text l.hart (map job_of (drop l.hart l.jobs)) (drop l.hart l.ends)
    ≡ l.fn.text.items ++ ends_text 0 (map job_of l.jobs) l.ends
