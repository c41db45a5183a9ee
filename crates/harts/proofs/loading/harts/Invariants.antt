-- The harts so far.
use Rattle.std.proofs.Common.{◌≡◌, take, map}
use Rattle.harts.specs.Below.{member_now}
use Rattle.harts.specs.Frames.{job_of, each_from}
use Rattle.harts.specs.SideBySide.{member_of}
use Rattle.harts.proofs.loading.harts.Given as goal

abbrev pub invariant-loop-number : goal.invariant-loop-number
invariant-loop-number l = map member_now l.harts.items ≡ each_from member_of 0 (take l.number (map job_of l.jobs))
