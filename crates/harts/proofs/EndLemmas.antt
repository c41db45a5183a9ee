-- The ends of a run of accepted texts' images under a schedule, and what its recorder takes.
use Rattle.std.specs.Prelude.{◌⊎◌, slice_get}
use Rattle.std.proofs.Common.{◌≡◌, ℕ, zero, suc, ◌+◌, ◌≤◌, Bool, List, [], ◌∷◌, Some, Ok, sym, ap, ◌∙◌, inl, inr, arith}
use Rattle.std.proofs.lemmas.Option.{none-some, same_Some}
use Rattle.std.specs.List.{AllByRecursion}
use Rattle.harts.specs.Below.{ByteMap, Ecall, HartObservation, Means, Member, Results, results_in, System, steps_of}
use Rattle.harts.proofs.EveryScheduleLemmas.{each_is_alone, one_list}
use Rattle.harts.specs.Ends.{end_of, ends_from, ends_of, still_going, ended_with}
use Rattle.harts.specs.EverySchedule.{IsFromSource, AllAgree}
use Rattle.harts.specs.RunHarts.{RunsHarts, ran}
use Rattle.harts.specs.SideBySide.{Job, frame_base_of}
use Rattle.harts.specs.declared.ends.HartEnd.{HartEnd}
use Rattle.rv_machine.specs.HartRecording.{kept_of}

-- the end of the hart with a number
end_at : (base : ℕ) (jobs : List Job) (members : List Member) (bytes : ByteMap) (k : ℕ) (job : Job) (m : Member)
    → slice_get jobs k ≡ Some job → slice_get members k ≡ Some m
    → slice_get (ends_from base jobs members bytes) k ≡ Some (end_of (base + k) job m.stop bytes)
end_at base [] members bytes k job m at at' = absurd (none-some job at)
end_at base (first ∷ jobs) [] bytes k job m at at' = absurd (none-some m at')
end_at base (first ∷ jobs) (other ∷ members) bytes zero job m at at' =
    let place : base ≡ base + 0 = omega arith in
    ap (λ (j : Job). Some (end_of base j other.stop bytes)) (same_Some first job at)
    ∙ ap (λ (it : Member). Some (end_of base job it.stop bytes)) (same_Some other m at')
    ∙ ap (λ i. Some (end_of i job m.stop bytes)) place
end_at base (first ∷ jobs) (other ∷ members) bytes (suc k) job m at at' =
    let place : suc base + k ≡ base + suc k = omega arith in
    end_at (suc base) jobs members bytes k job m at at' ∙ ap (λ i. Some (end_of i job m.stop bytes)) place

-- and of the hart of a job
end_of_job : (jobs : List Job) (ends : List HartEnd) (end : System) (k : ℕ) (job : Job) (m : Member)
    → ends ≡ ends_of jobs end → slice_get jobs k ≡ Some job → slice_get end.members k ≡ Some m
    → slice_get ends k ≡ Some (end_of k job m.stop end.bytes)
end_of_job jobs ends end k job m are at at' =
    let place : 0 + k ≡ k = omega arith in
    ap (λ (those : List HartEnd). slice_get those k) are ∙ end_at 0 jobs end.members end.bytes k job m at at'
    ∙ ap (λ i. Some (end_of i job m.stop end.bytes)) place

-- a hart that was given its steps has ended with what its program means
pub ends_as_meant : (jobs : List Job) (schedule : List ℕ) (keeps : Bool) (list list' : List HartObservation)
    (ends : List HartEnd) (k : ℕ) (job : Job) (from : IsFromSource job) → AllByRecursion IsFromSource jobs
    → RunsHarts jobs schedule keeps list (Ok ends) list' → slice_get jobs k ≡ Some job
    → job.image.max_steps ≤ steps_of k schedule
    → (results : Results) × Means from.built.program job.args results
    × (slice_get ends k ≡ Some (record { stop = Some Ecall; outcome = Some results }))
ends_as_meant jobs schedule keeps list list' ends k job from all (ran {end = end} allowed followed answered)
    at enough =
    let it = each_is_alone jobs schedule followed.0 end k job from allowed.few.1 all followed.1 at in
    let finished = it.finished enough in (
      results_in (frame_base_of k) job.image end.bytes,
      finished.1,
      end_of_job jobs ends end k job it.member (cc) at it.there
          ∙ ap (λ stop. Some (end_of k job stop end.bytes)) finished.0,
    )

-- however few its steps, it is still going, or has ended so
pub ends_so_far : (jobs : List Job) (schedule : List ℕ) (keeps : Bool) (list list' : List HartObservation)
    (ends : List HartEnd) (k : ℕ) (job : Job) (from : IsFromSource job) → AllByRecursion IsFromSource jobs
    → RunsHarts jobs schedule keeps list (Ok ends) list' → slice_get jobs k ≡ Some job
    → (slice_get ends k ≡ Some still_going)
    ⊎ ((results : Results) × Means from.built.program job.args results
    × (slice_get ends k ≡ Some (ended_with results)))
ends_so_far jobs schedule keeps list list' ends k job from all (ran {end = end} allowed followed answered) at =
    let it = each_is_alone jobs schedule followed.0 end k job from allowed.few.1 all followed.1 at in
    let there = end_of_job jobs ends end k job it.member (cc) at it.there in
    elim (it.so_far) [
      | inl none ↦ inl (there ∙ ap (λ stop. Some (end_of k job stop end.bytes)) none)
      | inr ended ↦ inr (
        results_in (frame_base_of k) job.image end.bytes,
        ended.1,
        there ∙ ap (λ stop. Some (end_of k job stop end.bytes)) ended.0,
      )
    ]

-- two runs whose arguments agree record one list
pub one_record : (one other : List Job) (schedule : List ℕ) (keeps : Bool) (list after after' : List HartObservation)
    (ends ends' : List HartEnd) → AllByRecursion IsFromSource one → AllAgree one other
    → RunsHarts one schedule keeps list (Ok ends) after → RunsHarts other schedule keeps list (Ok ends') after'
    → after ≡ after'
one_record one other schedule keeps list after after' ends ends' all agree (ran {end = end} allowed followed answered)
    (ran {end = end'} allowed' followed' answered') =
    let same = one_list one other schedule followed.0 followed'.0 end end' allowed.few.1 all agree followed.1
    followed'.1 in
    followed.2 ∙ ap (kept_of keeps list) same ∙ sym followed'.2
