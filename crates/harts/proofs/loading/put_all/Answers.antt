-- The arguments of one more are put.
use Rattle.std.proofs.Common.{◌≡◌, ◌+◌, length, map, drop, is_some, sym, ap, ◌∙◌}
use Rattle.std.proofs.lemmas.List.{length-map}
use Rattle.harts.specs.Below.{ByteMap, params_of, Slot, with_arguments}
use Rattle.harts.proofs.Below.{length-within}
use Rattle.harts.specs.Frames.{job_of, IsRunnable, with_all_arguments}
use Rattle.harts.specs.SideBySide.{frame_base_of}
use Rattle.harts.proofs.Numbering.{many, job_there, job_got, at_job}
use Rattle.harts.proofs.SharedFrames.{all_held, still_there, with_all-next}
use Rattle.harts.proofs.loading.put_all.Goals as goal

pub put_arguments-requires-clause-count : goal.put_arguments-requires-clause-count
put_arguments-requires-clause-count g c =
    let one = c.index-jobs-number.result in
    let within = at_job job_of c.args.jobs.now c.loop-number.number one c.loop-number-test.true c.index-jobs-number.is
    IsRunnable c.requires.within in
    ap length c.as_slice.ensures ∙ (length-within (params_of one.0) one.1 within
    ∙ (length-map one.0.slots (λ (slot : Slot). slot.param) ∙ ap length (sym c.slots.ensures.slots)))

pub put_arguments-requires-clause-within : goal.put_arguments-requires-clause-within
put_arguments-requires-clause-within g c =
    let one = c.index-jobs-number.result in
    let within = at_job job_of c.args.jobs.now c.loop-number.number one c.loop-number-test.true c.index-jobs-number.is
    IsRunnable c.requires.within in
    rw (c.slots.ensures.slots, c.as_slice.ensures) within

pub put_arguments-requires-clause-data : goal.put_arguments-requires-clause-data
put_arguments-requires-clause-data g c =
    let one = c.index-jobs-number.result in
    let i = c.loop-number.number in
    let old = g.M.Memory.bytes c.args.memory.now in
    let now = g.M.Memory.bytes c.loop-number.memory in
    let begun =
    c.requires.data i (job_of one)
    (job_got job_of c.args.jobs.now i one c.loop-number-test.true c.index-jobs-number.is) in
    rw (c.frame_base.ensures, c.slots.ensures.slots)
    (all_held (frame_base_of i) old now one.0.slots c.loop-number.invariant.data_there begun)

pub loop-number-preserved : goal.loop-number-preserved
loop-number-preserved g c =
    let jobs = c.args.jobs.now in
    let all = map job_of jobs in
    let one = c.index-jobs-number.result in
    let i = c.loop-number.number in
    let inside = c.loop-number-test.true in
    let is = c.index-jobs-number.is in
    let old = g.M.Memory.bytes c.args.memory.now in
    let now = g.M.Memory.bytes c.loop-number.memory in
    let new = g.M.Memory.bytes c.put_arguments.new.memory in
    let within = at_job job_of jobs i one inside is IsRunnable c.requires.within in
    let held = all_held (frame_base_of i) old now one.0.slots c.loop-number.invariant.data_there
    (c.requires.data i (job_of one) (job_got job_of jobs i one inside is)) in
    let written : new ≡ with_arguments (frame_base_of i) now one.0.slots one.1 =
    rw (c.frame_base.ensures, c.slots.ensures.slots, c.as_slice.ensures) at c.put_arguments.ensures in
    record {
      rest =
          ap (with_all_arguments (i + 1) (drop (i + 1) all)) written
          ∙ (sym (with_all-next all i (job_of one) now (many job_of jobs i one inside is)
          (job_there job_of jobs i one inside is (job_of one))) ∙ c.loop-number.invariant.rest);
      data_there = λ x. ap (λ (b : ByteMap). is_some (b x)) written
          ∙ (still_there (frame_base_of i) now one.0.slots one.1 held within x
          ∙ c.loop-number.invariant.data_there x);
    }
