use Rattle.std.proofs.Common.{◌≡◌, ◌+◌, ◌≤◌, ◌++◌, All, length, map, vec_len, vec_capacity}
use Rattle.std.specs.Vec.Iter.{into_iter_items, into_iter_len}
use Rattle.hepurita.specs.Below.{arrays_in}
use Rattle.hepurita.specs.Frames.{HasSpace, elements_in}
use Rattle.hepurita.proofs.results.arrays.Given as goal

-- the arrays so far, and those of the spaces that are left
abbrev pub invariant-loop-one : goal.invariant-loop-one
invariant-loop-one g l =
    let bytes = g.M.Memory.bytes l.memory in
    record {
      rest : l.arrays.items ++ map (λ one. elements_in l.frame bytes one.slot) (into_iter_items l.one-iterator)
          ≡ arrays_in l.frame bytes l.image.slots;
      each : All (HasSpace l.image.frame_bytes) (into_iter_items l.one-iterator);
      len : into_iter_len l.one-iterator ≡ length (into_iter_items l.one-iterator);
      enough : vec_len l.arrays + into_iter_len l.one-iterator ≤ vec_capacity l.arrays;
    }
