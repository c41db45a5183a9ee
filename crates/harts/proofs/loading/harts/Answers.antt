-- One hart more.
use Rattle.std.proofs.Common.{List, ◌∷◌, [], ◌++◌, map, take, sym, ap, ◌∙◌}
use Rattle.std.proofs.lemmas.List.{map_push}
use Rattle.harts.specs.Below.{Member, member_now}
use Rattle.harts.specs.Frames.{job_of, each_from}
use Rattle.harts.specs.SideBySide.{member_of}
use Rattle.harts.proofs.Numbering.{each_more, all_taken, members_from-each}
use Rattle.harts.proofs.loading.harts.Goals as goal

pub loop-number-preserved : goal.loop-number-preserved
loop-number-preserved c =
    let jobs = c.args.jobs.now in
    let i = c.loop-number.number in
    let one = c.index-jobs-number.result in
    let before = each_from member_of 0 (take i (map job_of jobs)) in
    ap (map member_now) c.in_ok-push.ensures.items
    ∙ (map_push member_now c.loop-number.harts.items c.in_ok-hart.field-0
    ∙ (ap (λ (xs : List Member). xs ++ member_now c.in_ok-hart.field-0 ∷ []) c.loop-number.invariant
    ∙ (ap (λ (m : Member). before ++ m ∷ []) (c.in_ok-hart.ensures one.1)
    ∙ sym (each_more job_of jobs i one c.loop-number-test.true c.index-jobs-number.is member_of))))

pub returns : goal.returns
returns c =
    let jobs = c.args.jobs.now in
    c.loop-number.invariant
    ∙ (ap (each_from member_of 0) (all_taken job_of jobs c.loop-number.number c.loop-number-test.false)
    ∙ members_from-each 0 (map job_of jobs))
