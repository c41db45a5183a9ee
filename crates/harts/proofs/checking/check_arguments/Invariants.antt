-- No hart so far has a fault in its arguments.
use Rattle.std.proofs.Common.{take, map, All}
use Rattle.harts.specs.Frames.{job_of, IsRunnable}
use Rattle.harts.specs.Refused.{HasNoFault}
use Rattle.harts.proofs.checking.check_arguments.Given as goal

abbrev pub invariant-loop-hart : goal.invariant-loop-hart
invariant-loop-hart l = record {
  faultless : All HasNoFault (take l.hart (map job_of l.jobs));
  within : All IsRunnable (take l.hart (map job_of l.jobs));
}
