use Rattle.std.proofs.Common.{◌≡◌, ℕ, ◌+◌, ◌*◌, drop, is_some}
use Rattle.hepurita.specs.Below.{byte_count, with_numbers}
use Rattle.hepurita.proofs.elements.put_numbers.Given as goal

-- what is left of the numbers leads to the same bytes as all of them, and the data is where it was
abbrev pub invariant-loop-index : goal.invariant-loop-index
invariant-loop-index g l =
    let bytes = g.M.Memory.bytes in
    let size = byte_count l.size in
    record {
      rest : with_numbers (bytes l.memory) size (l.at + size * l.index) (drop l.index l.numbers)
          ≡ with_numbers (bytes l.fn.memory) size l.at l.numbers;
      data_there : (x : ℕ) → is_some (bytes l.memory x) ≡ is_some (bytes l.fn.memory x);
    }
