-- The frames of all of them in one memory.
use Rattle.std.proofs.Common.{◌≡◌, ◌≤◌, length, map, ap, ◌∙◌, arith}
use Rattle.std.proofs.lemmas.List.{length-map}
use Rattle.harts.specs.Below.{paged_bytes, zeros_in}
use Rattle.harts.specs.Frames.{job_of, each_from, frame_of}
use Rattle.harts.proofs.SharedFrames.{frames_below, frames_held, frames_loaded}
use Rattle.harts.proofs.loading.frames.Goals as goal

pub new-requires : goal.new-requires
new-requires c =
    let jobs = map job_of c.args.jobs.now in
    let few : length jobs ≤ 8 = omega (arith, length-map c.args.jobs.now job_of, c.requires.few) in
    let is = c.as_slice.ensures.value ∙ c.in_ok-ranges.ensures.frames in
    rw is (frames_below 0 jobs (omega (arith, few)) c.in_ok-ranges.ensures.allowed)

pub put_all-requires-clause-data : goal.put_all-requires-clause-data
put_all-requires-clause-data c =
    let jobs = map job_of c.args.jobs.now in
    let few : length jobs ≤ 8 = omega (arith, length-map c.args.jobs.now job_of, c.requires.few) in
    let is : paged_bytes c.in_ok-memory.memory ≡ zeros_in (each_from frame_of 0 jobs) = c.in_ok-memory.ensures
    ∙ ap zeros_in (c.as_slice.ensures.value ∙ c.in_ok-ranges.ensures.frames) in
    frames_held jobs (paged_bytes c.in_ok-memory.memory) is few c.in_ok-ranges.ensures.allowed

pub returns-clause-bytes : goal.returns-clause-bytes
returns-clause-bytes c =
    let jobs = map job_of c.args.jobs.now in
    let few : length jobs ≤ 8 = omega (arith, length-map c.args.jobs.now job_of, c.requires.few) in
    let is : paged_bytes c.in_ok-memory.memory ≡ zeros_in (each_from frame_of 0 jobs) = c.in_ok-memory.ensures
    ∙ ap zeros_in (c.as_slice.ensures.value ∙ c.in_ok-ranges.ensures.frames) in
    c.put_all.ensures ∙ frames_loaded jobs (paged_bytes c.in_ok-memory.memory) is few c.in_ok-ranges.ensures.allowed
    c.requires.within
