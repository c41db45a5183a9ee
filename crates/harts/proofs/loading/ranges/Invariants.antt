-- The frames so far, whose images are allowed.
use Rattle.std.proofs.Common.{◌≡◌, take, map, All}
use Rattle.harts.specs.Frames.{job_of, each_from, HasImage, frame_of}
use Rattle.harts.proofs.loading.ranges.Given as goal

abbrev pub invariant-loop-number : goal.invariant-loop-number
invariant-loop-number l = record {
  frames : l.ranges.items ≡ each_from frame_of 0 (take l.number (map job_of l.jobs));
  allowed : All HasImage (take l.number (map job_of l.jobs));
}
