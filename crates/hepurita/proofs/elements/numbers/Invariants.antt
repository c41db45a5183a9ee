use Rattle.std.proofs.Common.{◌≡◌, ◌≤◌, vec_len, vec_capacity}
use Rattle.hepurita.specs.Below.{byte_count, numbers_at}
use Rattle.hepurita.proofs.elements.numbers.Given as goal

abbrev pub invariant-loop-index : goal.invariant-loop-index
invariant-loop-index g l = record {
  so_far : l.room.items ≡ numbers_at (g.M.Memory.bytes l.memory) (byte_count l.size) l.at l.index;
  len : vec_len l.room ≡ l.index;
  enough : l.count ≤ vec_capacity l.room;
}
