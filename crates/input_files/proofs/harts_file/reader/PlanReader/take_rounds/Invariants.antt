use Rattle.std.proofs.Common.{◌≡◌, ◌+◌, ◌*◌, ◌++◌, true, vec_len}
use Rattle.std.specs.List.{range_with_len, repeat}
use Rattle.input_files.proofs.harts_file.reader.PlanReader.take_rounds.Given as goal

-- so many rounds were put behind the turns
abbrev pub invariant-loop : goal.invariant-loop
invariant-loop l = record {
  jobs : l.self.jobs ≡ l.fn.self.jobs;
  harts : vec_len l.self.jobs ≡ l.harts;
  begun : l.self.has_turns ≡ true;
  turns : l.self.schedule.items ≡ l.fn.self.schedule.items ++ repeat l.counter (range_with_len 0 l.harts);
  room : vec_len l.self.schedule ≡ vec_len l.fn.self.schedule + l.counter * l.harts;
}
