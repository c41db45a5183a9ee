-- What is left of the arguments leads to the same bytes as all of them, and the data is where it was.
use Rattle.std.proofs.Common.{◌≡◌, ℕ, drop, map, is_some}
use Rattle.harts.specs.Frames.{job_of, with_all_arguments}
use Rattle.harts.proofs.loading.put_all.Given as goal

abbrev pub invariant-loop-number : goal.invariant-loop-number
invariant-loop-number g l =
    let bytes = g.M.Memory.bytes in
    record {
      rest : with_all_arguments l.number (drop l.number (map job_of l.jobs)) (bytes l.memory)
          ≡ with_all_arguments 0 (map job_of l.jobs) (bytes l.fn.memory);
      data_there : (x : ℕ) → is_some (bytes l.memory x) ≡ is_some (bytes l.fn.memory x);
    }
