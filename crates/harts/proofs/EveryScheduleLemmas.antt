-- Every schedule: each hart is what it is alone, and argument lists that agree show one list.
use Rattle.std.specs.Prelude.{◌⊎◌, slice_get, take}
use Rattle.std.proofs.Common.{◌≡◌, ℕ, zero, suc, ◌+◌, ◌<◌, ◌≤◌, List, [], ◌∷◌, ◌++◌, length, Option, Some, None, All}
use Rattle.std.proofs.Common.{refl, sym, ap, subst, ◌∙◌, inl, inr, arith}
use Rattle.std.proofs.lemmas.List.Elements.{All-take}
use Rattle.std.proofs.lemmas.Option.{none-some, same_Some, slice_get_within}
use Rattle.std.specs.List.{AllByRecursion}
use Rattle.harts.specs.Below.{ByteMap, code_at, Ecall, FollowsSchedule, HartObservation, IsAsAlone, IsInside, loaded_at}
use Rattle.harts.specs.Below.{HartMakes, Means, Member, most_images, none, Observation, one_more, Results, results_in}
use Rattle.harts.specs.Below.{ShowTheSame, Stop, System, steps_of}
use Rattle.harts.proofs.FrameLemmas.{frame_there, outcome_same}
use Rattle.harts.proofs.Resting.{rests_on}
use Rattle.harts.proofs.SystemLemmas.{IsFitJob, fit_of, all_fit, fit_at, run_of, member_at, job_at, own_of, own_is}
use Rattle.harts.proofs.SystemLemmas.{jobs_apart}
use Rattle.harts.specs.EverySchedule.{IsFromSource, IsAlone, JobsAgree, AllAgree}
use Rattle.harts.specs.SideBySide.{code_base_of, frame_base_of, Job, loaded_alone, member_of, members_from, system_of}
use Rattle.harts.proofs.Below.{alone, shown_the_same, shown_alone, stopped_alone, MemberStep-determined}
use Rattle.rv_machine.specs.Leakage.{Halts}

-- What a hart is alone after so many steps is one thing.

pub one_alone : (n : ℕ) (own bytes bytes' : ByteMap) (m after after' : Member) (seen seen' : List Observation)
    → HartMakes n own m seen bytes after → HartMakes n own m seen' bytes' after'
    → (seen ≡ seen') × (bytes ≡ bytes') × (after ≡ after')
one_alone zero own bytes bytes' m after after' seen seen' none none = (refl, refl, refl)
one_alone (suc n) own bytes bytes' m after after' seen seen'
    (one_more {between = between} {after = next} {seen = first} {rest = rest} step more is)
    (one_more {between = between'} {after = next'} {seen = first'} {rest = rest'} step' more' is') =
    let same = MemberStep-determined step step' in
    let then = one_alone n between bytes bytes' next after after' rest rest' more (rw (same.1, same.2) more') in
    (is ∙ ap (λ xs. xs ++ rest) same.0 ∙ ap (λ xs. first' ++ xs) then.0 ∙ sym is', then.1, then.2)

-- Each is what it is alone.

module _ (k : ℕ) (below : k < most_images) (job : Job) (fit : IsFitJob job) (schedule : List ℕ)
    (list : List HartObservation) (end : System)
    (it : IsAsAlone k (steps_of k schedule) (loaded_alone k job).bytes (member_of k job) list end) where
  same_frame : (a : ℕ) → frame_base_of k ≤ a → a < frame_base_of k + job.image.frame_bytes → end.bytes a ≡ it.bytes a
  same_frame a low high =
      it.bytes_there a (it.extent a
      ∙ frame_there (code_base_of k) (frame_base_of k) job.image fit.allowed job.args fit.within a low high)

  stays_within : All (λ (o : Observation). IsInside (frame_base_of k) job.image.frame_bytes o.event) it.seen
  stays_within =
      let to = run_of k job fit below in
      let run = to.run in
      rw (shown_alone (member_of k job) it.member (loaded_alone k job).bytes it.bytes run.step_count
      (steps_of k schedule)
      run.seen it.seen Ecall run.end refl run.halts it.makes)
      (All-take (λ (o : Observation). IsInside (frame_base_of k) job.image.frame_bytes o.event) (steps_of k schedule)
      run.seen to.within_frame)

  -- what its slots hold where its frame is as the run that halts leaves it
  means_there : it.bytes ≡ (run_of k job fit below).run.end.bytes
      → Means fit.program job.args (results_in (frame_base_of k) job.image end.bytes)
  means_there left =
      let to = run_of k job fit below in
      let run = to.run in
      let same : results_in (frame_base_of k) job.image end.bytes
      ≡ results_in (frame_base_of k) job.image run.end.bytes =
      outcome_same (frame_base_of k) job.image fit.allowed run.end.bytes end.bytes
      (λ x low high. same_frame x low high ∙ ap (λ (b : ByteMap). b x) left) in
      subst (λ (results : Results). Means fit.program job.args results) (sym same) to.outcome

  has_finished : job.image.max_steps ≤ steps_of k schedule
      → (it.member.stop ≡ Some Ecall) × Means fit.program job.args (results_in (frame_base_of k) job.image end.bytes)
  has_finished enough =
      let to = run_of k job fit below in
      let run = to.run in
      let stop = stopped_alone (member_of k job) it.member (loaded_alone k job).bytes it.bytes run.step_count
      (steps_of k schedule) run.seen it.seen Ecall run.end refl run.halts it.makes
      (omega (arith, to.within_steps)) in
      (stop.0, means_there stop.1)

  -- it has not stopped, or is what it is after more steps
  has_ended : (stop : Option Stop) → it.member.stop ≡ stop
      → (it.member.stop ≡ None)
      ⊎ ((it.member.stop ≡ Some Ecall)
      × Means fit.program job.args (results_in (frame_base_of k) job.image end.bytes))
  has_ended None is = inl is
  has_ended (Some stop) is =
      let run = (run_of k job fit below).run in
      let longer = rests_on run.step_count is it.makes in
      let ended = stopped_alone (member_of k job) it.member (loaded_alone k job).bytes it.bytes run.step_count
      (steps_of k schedule + run.step_count) run.seen it.seen Ecall run.end refl run.halts longer (omega arith) in
      inr (ended.0, means_there ended.1)

  is_alone : IsAlone fit.program k job schedule list end
  is_alone = record {
    bytes = it.bytes;
    member = it.member;
    seen = it.seen;
    makes = it.makes;
    there = it.there;
    frame = same_frame;
    shown = it.shown;
    within_frame = stays_within;
    so_far = has_ended it.member.stop refl;
    finished = has_finished;
  }

pub each_is_alone : (jobs : List Job) (schedule : List ℕ) (list : List HartObservation) (end : System) (k : ℕ)
    (job : Job) (from : IsFromSource job) → length jobs ≤ most_images → AllByRecursion IsFromSource jobs
    → FollowsSchedule schedule (system_of jobs) list end → slice_get jobs k ≡ Some job
    → IsAlone from.built.program k job schedule list end
each_is_alone jobs schedule list end k job from few all follows at =
    let fits = all_fit jobs all in
    let place : zero + k ≡ k = omega arith in
    let there = rw place at (member_at zero jobs k job at) in
    let it = alone (own_of jobs) schedule (system_of jobs) end list k (member_of k job) (jobs_apart jobs few fits)
    follows there in
    let short = slice_get_within jobs k job at in
    is_alone k (omega (arith, short, few)) job (fit_of job from) schedule list end
    (rw (own_is jobs k job at) at it)

-- Two lists of jobs.

agree_at : (one other : List Job) (k : ℕ) (a b : Job) → AllAgree one other → slice_get one k ≡ Some a
    → slice_get other k ≡ Some b → JobsAgree a b
agree_at [] other k a b agree at at' = absurd (none-some a at)
agree_at (x ∷ one) [] k a b agree at at' = absurd (none-some b at')
agree_at (x ∷ one) (y ∷ other) zero a b agree at at' =
    rw (same_Some x a at, same_Some y b at') at agree.0
agree_at (x ∷ one) (y ∷ other) (suc k) a b agree at at' = agree_at one other k a b agree.1 at at'

-- what agrees with a fit job is fit
fit_too : (a b : Job) → IsFitJob a → JobsAgree a b → IsFitJob b
fit_too a b fit agree = record {
  program = fit.program;
  before = fit.before;
  export = fit.export;
  compiled = rw agree.image at fit.compiled;
  allowed = rw agree.image at fit.allowed;
  bases = rw agree.image at fit.bases;
  within = rw agree.image at agree.args.other_within;
}

all_fit_too : (one other : List Job) → AllByRecursion IsFitJob one → AllAgree one other → AllByRecursion IsFitJob other
all_fit_too [] [] fits agree = tt
all_fit_too (a ∷ one) (b ∷ other) fits agree = (fit_too a b fits.0 agree.0, all_fit_too one other fits.1 agree.1)
all_fit_too one other fits agree = absurd agree

as_many : (one other : List Job) → AllAgree one other → length other ≡ length one
as_many [] [] agree = refl
as_many (a ∷ one) (b ∷ other) agree = ap suc (as_many one other agree.1)
as_many one other agree = absurd agree

-- alone they show the same
shows_the_same : (k : ℕ) → k < most_images → (a b : Job) → IsFitJob a → IsFitJob b → JobsAgree a b
    → ShowTheSame (loaded_alone k a).bytes (member_of k a) (loaded_alone k b).bytes (member_of k b)
shows_the_same k below a b fit fit' agree n seen seen' bytes bytes' after after' makes makes' =
    let code = code_base_of k in
    let frame = frame_base_of k in
    let run = (run_of k a fit below).run in
    let run' = (run_of k b fit' below).run in
    let halts' : Halts (code_at code a.image) run'.step_count (loaded_at code frame a.image b.args) run'.seen Ecall
    run'.end = rw agree.image run'.halts in
    let lists : run.seen ≡ run'.seen = fit.compiled.equal_leakage (record {
      code = code;
      frame = frame;
      bases = fit.bases k below;
      args = a.args;
      args' = b.args;
      agree = agree.args;
      one = run;
      other = record { step_count = run'.step_count; seen = run'.seen; end = run'.end; halts = halts' };
    }) in
    shown_alone (member_of k a) after (loaded_alone k a).bytes bytes run.step_count n run.seen seen Ecall run.end refl
    run.halts makes
    ∙ ap (take n) lists
    ∙ sym (shown_alone (member_of k b) after' (loaded_alone k b).bytes bytes' run'.step_count n run'.seen seen' Ecall
    run'.end refl run'.halts makes')

module _ (one other : List Job) (few : length one ≤ most_images) (fits : AllByRecursion IsFitJob one)
    (fits' : AllByRecursion IsFitJob other) (agree : AllAgree one other) where
  all_alike : (k : ℕ) (m m' : Member) → slice_get (members_from zero one) k ≡ Some m
      → slice_get (members_from zero other) k ≡ Some m' → ShowTheSame (own_of one k) m (own_of other k) m'
  all_alike k m m' at at' =
      let found = job_at zero one k m at in
      let found' = job_at zero other k m' at' in
      let a = found.0 in
      let b = found'.0 in
      let place : zero + k ≡ k = omega arith in
      let is : m ≡ member_of k a = found.2 ∙ ap (λ i. member_of i a) place in
      let is' : m' ≡ member_of k b = found'.2 ∙ ap (λ i. member_of i b) place in
      let short = slice_get_within one k a found.1 in
      let both = shows_the_same k (omega (arith, short, few)) a b (fit_at one k a fits found.1)
      (fit_at other k b fits' found'.1) (agree_at one other k a b agree found.1 found'.1) in
      rw (own_is one k a found.1, own_is other k b found'.1)
      (subst (λ (x : Member). ShowTheSame (loaded_alone k a).bytes x (loaded_alone k b).bytes m') (sym is)
      (subst (ShowTheSame (loaded_alone k a).bytes (member_of k a) (loaded_alone k b).bytes) (sym is') both))

pub one_list : (one other : List Job) (schedule : List ℕ) (list list' : List HartObservation) (end end' : System)
    → length one ≤ most_images → AllByRecursion IsFromSource one → AllAgree one other
    → FollowsSchedule schedule (system_of one) list end → FollowsSchedule schedule (system_of other) list' end'
    → list ≡ list'
one_list one other schedule list list' end end' few all agree follows follows' =
    let fits = all_fit one all in
    let fits' = all_fit_too one other fits agree in
    let few' : length other ≤ most_images = omega (arith, as_many one other agree) in
    shown_the_same (own_of one) (own_of other) schedule (system_of one) (system_of other) end end' list list'
    (jobs_apart one few fits) (jobs_apart other few' fits') (all_alike one other few fits fits' agree)
    follows follows'
