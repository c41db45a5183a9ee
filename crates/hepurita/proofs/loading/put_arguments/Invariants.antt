use Rattle.std.proofs.Common.{◌≡◌, ℕ, drop, is_some}
use Rattle.hepurita.specs.Below.{with_arguments}
use Rattle.hepurita.proofs.loading.put_arguments.Given as goal

-- what is left of the arguments leads to the same bytes as all of them, and the data is where it was
abbrev pub invariant-loop-index : goal.invariant-loop-index
invariant-loop-index g l =
    let bytes = g.M.Memory.bytes in
    record {
      rest : with_arguments l.frame (bytes l.memory) (drop l.index l.slots) (drop l.index l.args)
          ≡ with_arguments l.frame (bytes l.fn.memory) l.slots l.args;
      data_there : (x : ℕ) → is_some (bytes l.memory x) ≡ is_some (bytes l.fn.memory x);
    }
