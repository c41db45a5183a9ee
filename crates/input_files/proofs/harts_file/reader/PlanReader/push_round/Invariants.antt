use Rattle.std.proofs.Common.{◌≡◌, ◌+◌, ◌++◌, vec_len}
use Rattle.std.specs.List.{range_with_len}
use Rattle.input_files.proofs.harts_file.reader.PlanReader.push_round.Given as goal

-- each hart so far has had a turn
abbrev pub invariant-loop-hart : goal.invariant-loop-hart
invariant-loop-hart l = record {
  jobs : l.self.jobs ≡ l.fn.self.jobs;
  begun : l.self.has_turns ≡ l.fn.self.has_turns;
  turns : l.self.schedule.items ≡ l.fn.self.schedule.items ++ range_with_len 0 l.hart;
  room : vec_len l.self.schedule ≡ vec_len l.fn.self.schedule + l.hart;
}
