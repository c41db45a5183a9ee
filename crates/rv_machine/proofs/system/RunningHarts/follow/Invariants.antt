-- The schedule was followed so far, and the recorder refused nothing.
use Rattle.std.proofs.Common.{◌≡◌, take, length}
use Rattle.rv_machine.specs.RunningHarts.{system_now, Followed}
use Rattle.rv_machine.proofs.system.RunningHarts.follow.Given as goal

abbrev pub invariant-loop-number : goal.invariant-loop-number
invariant-loop-number g l = record {
  followed : Followed g.R.HartRecorder.KEEPS (take l.number-index l.schedule)
      (system_now l.fn.self.harts.items (g.M.Memory.bytes l.fn.self.memory)) (g.R.HartRecorder.list l.fn.recorder)
      (system_now l.self.harts.items (g.M.Memory.bytes l.self.memory)) (g.R.HartRecorder.list l.recorder);
  calm : g.R.HartRecorder.refusals l.recorder ≡ g.R.HartRecorder.refusals l.fn.recorder;
  count : length l.self.harts.items ≡ length l.fn.self.harts.items;
}
