-- Space for the outcomes so far.
use Rattle.std.proofs.Common.{take, map}
use Rattle.std.specs.List.{AllZip}
use Rattle.harts.specs.EndSpace.{HasSpace}
use Rattle.harts.specs.Frames.{job_of}
use Rattle.harts.proofs.ends.end_space.Given as goal

abbrev pub invariant-loop-job : goal.invariant-loop-job
invariant-loop-job l = AllZip HasSpace (take l.job-index (map job_of l.jobs)) l.each.items
