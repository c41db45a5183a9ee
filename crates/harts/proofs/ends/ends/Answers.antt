-- The end of one hart more.
use Rattle.std.proofs.Common.{◌≡◌, ◌<◌, ◌≤◌, [], Some, length, map, refl, sym, ap, subst, ◌∙◌, vec_len, arith}
use Rattle.std.specs.Prelude.{slice_get}
use Rattle.std.specs.Option.{option_map}
use Rattle.std.specs.Vec.Iter.{into_iter_items}
use Rattle.std.proofs.lemmas.List.{length-map, nil_from_length, take_all}
use Rattle.std.proofs.lemmas.Option.{slice_get-map, slice_get_read}
use Rattle.harts.specs.Below.{member_now, paged_bytes}
use Rattle.harts.specs.Frames.{job_of, HasImage}
use Rattle.harts.proofs.EndSpaceLemmas.{number_within, space_for, spaces_left, no_space, one_end_more}
use Rattle.harts.proofs.Numbering.{at_job, job_got}
use Rattle.harts.proofs.ends.ends.Goals as goal

pub end-requires-clause-allowed : goal.end-requires-clause-allowed
end-requires-clause-allowed c =
    let jobs = c.args.jobs.now in
    let all = map job_of jobs in
    let within = number_within all c.len-number.ensures c.loop-space.invariant.each c.in-Some.ensures.steps.0 in
    at_job job_of jobs c.len-number.result c.index-jobs-number.result (omega (arith, within, length-map jobs job_of))
    c.index-jobs-number.is HasImage c.requires.allowed

pub end-requires-clause-space : goal.end-requires-clause-space
end-requires-clause-space c =
    let jobs = c.args.jobs.now in
    let all = map job_of jobs in
    let number = c.len-number.result in
    let one = c.index-jobs-number.result in
    let within = number_within all c.len-number.ensures c.loop-space.invariant.each c.in-Some.ensures.steps.0 in
    space_for all c.len-number.ensures c.loop-space.invariant.each c.in-Some.ensures.steps.0 (job_of one)
    (job_got job_of jobs number one (omega (arith, within, length-map jobs job_of)) c.index-jobs-number.is)

pub loop-space-preserved : goal.loop-space-preserved
loop-space-preserved c =
    let at = c.loop-space in
    let jobs = c.args.jobs.now in
    let all = map job_of jobs in
    let harts = c.args.running.now.harts.items in
    let bytes = paged_bytes c.args.running.now.memory in
    let n = vec_len at.ends in
    let number = c.len-number.result in
    let one = c.index-jobs-number.result in
    let got = c.index.result.now in
    let gone = c.in-Some.ensures.steps.1 in
    let short = ap length c.in-Some.ensures.steps.0 in
    let within = number_within all c.len-number.ensures at.invariant.each c.in-Some.ensures.steps.0 in
    let inside : number < length jobs = omega (arith, within, length-map jobs job_of) in
    let hart : number < length harts = subst (λ k. number < k) (sym c.requires.count) inside in
    let found : slice_get harts number ≡ Some got =
    slice_get_read harts (length harts) number got refl hart c.index.ensures in
    let there : slice_get (map member_now harts) number ≡ Some (member_now got) =
    slice_get-map member_now harts number ∙ ap (option_map member_now) found in
    let here = job_got job_of jobs number one inside c.index-jobs-number.is in
    record {
      so_far = one_end_more all (map member_now harts) bytes n number (vec_len c.push_reserved.new.self) (job_of one)
          (member_now got) c.end.result at.ends.items c.push_reserved.new.self.items
          c.len-number.ensures c.push_reserved.ensures.len here there (c.end.ensures one.1) at.invariant.so_far
          c.push_reserved.ensures.items;
      each = spaces_left all c.len-number.ensures at.invariant.each c.in-Some.ensures.steps.0
          (vec_len c.push_reserved.new.self) c.push_reserved.ensures.len;
      len = omega (arith, at.invariant.len, gone, short);
      enough = omega (
        arith,
        at.invariant.enough,
        gone,
        c.push_reserved.ensures.len,
        c.push_reserved.ensures.capacity,
      );
    }

pub returns : goal.returns
returns c =
    let at = c.loop-space in
    let jobs = c.args.jobs.now in
    let all = map job_of jobs in
    let members = map member_now c.args.running.now.harts.items in
    let n = vec_len at.ends in
    let left = into_iter_items at.space-iterator in
    let none : left ≡ [] = nil_from_length left (sym at.invariant.len ∙ c.in-None.ensures.steps.0) in
    let past : length all ≤ n = no_space all n (rw none at at.invariant.each) in
    let past' : length members ≤ n =
    omega (
      arith,
      past,
      length-map jobs job_of,
      length-map c.args.running.now.harts.items member_now,
      c.requires.count,
    ) in
    rw (take_all n all past, take_all n members past') at at.invariant.so_far
