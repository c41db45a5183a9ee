-- The ends so far, and the spaces that are left.
use Rattle.std.proofs.Common.{◌≡◌, ◌+◌, ◌≤◌, length, take, drop, map, vec_len, vec_capacity}
use Rattle.std.specs.List.{AllZip}
use Rattle.std.specs.Vec.Iter.{into_iter_items, into_iter_len}
use Rattle.harts.specs.Below.{member_now, paged_bytes}
use Rattle.harts.specs.EndSpace.{HasSpace}
use Rattle.harts.specs.Ends.{ends_from}
use Rattle.harts.specs.Frames.{job_of}
use Rattle.harts.proofs.ends.ends.Given as goal

abbrev pub invariant-loop-space : goal.invariant-loop-space
invariant-loop-space l =
    let n = vec_len l.ends in
    record {
      so_far : l.ends.items ≡ ends_from 0 (take n (map job_of l.jobs)) (take n (map member_now l.running.harts.items))
          (paged_bytes l.running.memory);
      each : AllZip HasSpace (drop n (map job_of l.jobs)) (into_iter_items l.space-iterator);
      len : into_iter_len l.space-iterator ≡ length (into_iter_items l.space-iterator);
      enough : vec_len l.ends + into_iter_len l.space-iterator ≤ vec_capacity l.ends;
    }
