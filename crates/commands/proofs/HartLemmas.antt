-- Harts that were loaded one after another, and files that were read to their end.
use Rattle.std.proofs.Common.{◌≡◌, ℕ, ◌+◌, ◌<◌, ◌≤◌, true, List, [], ◌∷◌, ◌++◌, ◌⊎◌, inl, inr, length, map, take, drop}
use Rattle.std.proofs.Common.{get_or, Bor, Result, Ok, Err, Some, append_assoc, refl, sym, ap, ◌∙◌}
use Rattle.std.proofs.Common.{subst, arith}
use Rattle.std.specs.List.{AllZip}
use Rattle.std.specs.Result.{IfOk, IfErr}
use Rattle.std.specs.String.{string_bytes}
use Rattle.std.proofs.lemmas.List.{take_more, take-append-drop, map-append, length-take, take_all}
use Rattle.commands.specs.Below.{Arg, cut_short, Fields, hart_of, HartEnd, HartObservation, HartsFault}
use Rattle.commands.specs.Below.{IsPlan, job_of, out_of_memory, params_of, PlanFault}
use Rattle.commands.specs.Below.{PlannedHart, ran, refused, Refuses, RunsHarts}
use Rattle.commands.specs.Answered.{answered, RequestGives, not_answered}
use Rattle.commands.specs.Contents.{Contents}
use Rattle.commands.specs.declared.answer.Answer.{Answer}
use Rattle.command_line.specs.declared.words.Request.TheVariants as requests
use Rattle.commands.specs.Harts.{IsJobOf, SaysPlan, RefusesHart, RefusesJobs, by_hart, RefusesPlan, by_line, by_run}
use Rattle.commands.specs.Harts.{by_plan, jobs_want_memory, no_arguments, no_image}
use Rattle.commands.specs.Harts.{by_text, GivesPlan, plan_wants_memory, RefusesHarts}
use Rattle.commands.specs.FileTexts.{unread_whole}
use Rattle.commands.specs.Unread.{IsOutOfMemory, out_of_memory as wants_memory}
use Rattle.commands.specs.ImageRefusals as refusals
use Rattle.commands.specs.ImageArguments.{LacksArguments}
use Rattle.commands.specs.HartsText.{harts_text, status_of_ends}
use Rattle.commands.specs.Images.{HoldsImage}
use Rattle.commands.specs.Words.{AreSpelled}
use Rattle.commands.specs.declared.fault.Fault.{Fault}
use Rattle.commands.specs.declared.fault.Fault.TheVariants as faults
use Rattle.harts.specs.declared.fault.HartsFault.TheVariants as harts_faults
use Rattle.input_files.specs.declared.harts_file.fault.PlanFault.TheVariants.{Line, Memory}
use Rattle.input_files.specs.declared.harts_file.fault.PlanFileFault.TheVariants.{Plan}
use Rattle.input_files.specs.harts_file.Faults.{IsFileFault}
use Rattle.harts.specs.SideBySide as side_by_side
use Rattle.input_files.specs.declared.harts_file.jobs.FileJob.{FileJob}

-- fewer bytes than were asked for are all that a file has
pub all_of_it : (limit : ℕ) (whole bytes : List ℕ) → bytes ≡ take limit whole → length bytes < limit → whole ≡ bytes
all_of_it limit whole bytes is fewer =
    let count : length bytes ≡ length (take limit whole) = ap length is in
    let short : length whole ≤ limit = omega (arith, length-take limit whole) in
    sym (take_all limit whole short) ∙ sym is

zip_more : {A B : Type 0} (R : A → B → Type 0) (xs : List A) (ys : List B) (x : A) (y : B) → AllZip R xs ys → R x y
    → AllZip R (xs ++ x ∷ []) (ys ++ y ∷ [])
zip_more R [] [] x y all one = (one, tt)
zip_more R [] (b ∷ ys) x y all one = absurd all
zip_more R (a ∷ xs) [] x y all one = absurd all
zip_more R (a ∷ xs) (b ∷ ys) x y all one = (all.0, zip_more R xs ys x y all.1 one)

-- one job more
pub one_job_more : (files : Contents) (named : List FileJob) (i : ℕ) (job : FileJob)
    (loaded loaded' : List (Fields × List Arg)) (image : Fields) (args : List Arg) → i < length named
    → job ≡ get_or named i job
    → loaded' ≡ loaded ++ (image, args) ∷ [] → IsJobOf files (hart_of job) (record { image = image; args = args })
    → AllZip (IsJobOf files) (map hart_of (take i named)) (map job_of loaded)
    → AllZip (IsJobOf files) (map hart_of (take (i + 1) named)) (map job_of loaded')
one_job_more files named i job loaded loaded' image args low is put one all =
    let names : map hart_of (take (i + 1) named) ≡ map hart_of (take i named) ++ hart_of job ∷ [] =
    ap (map hart_of) (take_more named i job low ∙ ap (λ (j : FileJob). take i named ++ j ∷ []) (sym is))
    ∙ map-append hart_of (take i named) (job ∷ []) in
    let jobs : map job_of loaded' ≡ map job_of loaded ++ job_of (image, args) ∷ [] = ap (map job_of) put
    ∙ map-append job_of loaded ((image, args) ∷ []) in
    subst (λ xs. AllZip (IsJobOf files) xs (map job_of loaded')) (sym names)
    (subst (λ ys. AllZip (IsJobOf files) (map hart_of (take i named) ++ hart_of job ∷ []) ys) (sym jobs)
    (zip_more (IsJobOf files) (map hart_of (take i named)) (map job_of loaded) (hart_of job)
    (job_of (image, args)) all one))

-- the job of a hart, from what was read
pub job_from : (files : Contents) (job : FileJob) (image : Fields) (args : List Arg) (path : List ℕ)
    (words : List (List ℕ)) → path ≡ string_bytes job.path → words ≡ map string_bytes job.arguments.items
    → HoldsImage files path image → AreSpelled (params_of image) words args
    → IsJobOf files (hart_of job) (record { image = image; args = args })
job_from files job image args path words same_path same_words held spelled = record {
  held = subst (λ (p : List ℕ). HoldsImage files p image) same_path held;
  spelled = subst (λ (ws : List (List ℕ)). AreSpelled (params_of image) ws args) same_words spelled;
}

-- what is said of a plan, from the answers of those who read it, load its jobs, run them and print that
module _ (files : Contents) (plan : List ℕ) (harts : List PlannedHart) (schedule schedule' : List ℕ)
    (jobs jobs' jobs'' : List side_by_side.Job) (before seen seen' : List HartObservation)
    (ends ends' ends'' : List HartEnd) (text : List ℕ) (status : ℕ) where
  pub plan_said : IsPlan plan harts schedule → AllZip (IsJobOf files) harts jobs
      → RunsHarts jobs' schedule' true before (Ok ends) seen → before ≡ [] → jobs' ≡ jobs → schedule' ≡ schedule
      → text ≡ harts_text jobs'' seen' ends' → jobs'' ≡ jobs → seen' ≡ seen → ends' ≡ ends
      → status ≡ status_of_ends ends'' → ends'' ≡ ends → SaysPlan files plan text status
  plan_said planned loaded was_run none same_jobs same_schedule printed printed_jobs printed_seen printed_ends ended
      ended_ends = record {
        harts = harts;
        schedule = schedule;
        jobs = jobs;
        seen = seen;
        ends = ends;
        planned = planned;
        loaded = loaded;
        ran =
            subst (λ (js : List side_by_side.Job). RunsHarts js schedule true [] (Ok ends) seen) same_jobs
            (subst (λ (steps : List ℕ). RunsHarts jobs' steps true [] (Ok ends) seen) same_schedule
            (subst (λ (list : List HartObservation). RunsHarts jobs' schedule' true list (Ok ends) seen) none was_run));
        printed = printed ∙ ap (λ js. harts_text js seen' ends') printed_jobs
            ∙ ap (λ list. harts_text jobs list ends') printed_seen ∙ ap (λ list. harts_text jobs seen list) printed_ends;
        ended = ended ∙ ap status_of_ends ended_ends;
      }

-- what stands before and behind an element
split_at : {A : Type 0} (xs : List A) (i : ℕ) (x : A) → i < length xs → x ≡ get_or xs i x
    → xs ≡ take i xs ++ x ∷ drop (i + 1) xs
split_at {A} xs i x low is =
    sym (take-append-drop (i + 1) xs)
    ∙ ap (λ front. front ++ drop (i + 1) xs) (take_more xs i x low ∙ ap (λ (y : A). take i xs ++ y ∷ []) (sym is))
    ∙ append_assoc (take i xs) (x ∷ []) (drop (i + 1) xs)

-- why a job among those named is not had, where those before it were loaded
refused_at : (files : Contents) (named : List FileJob) (i : ℕ) (job : FileJob) (loaded : List (Fields × List Arg))
    (fault : Fault) → i < length named → job ≡ get_or named i job
    → AllZip (IsJobOf files) (map hart_of (take i named)) (map job_of loaded)
    → RefusesHart files (hart_of job) fault → RefusesJobs files (map hart_of named) fault
refused_at files named i job loaded fault low is all why =
    let split : named ≡ take i named ++ job ∷ drop (i + 1) named = split_at named i job low is in
    let names : map hart_of named ≡ map hart_of (take i named) ++ hart_of job ∷ map hart_of (drop (i + 1) named) =
    ap (map hart_of) split ∙ map-append hart_of (take i named) (job ∷ drop (i + 1) named) in
    by_hart _ _ (hart_of job) _ names all why

-- why a hart's job is not had, from what was read
lacks_job : (files : Contents) (job : FileJob) (fault : Fault)
    → LacksArguments files (string_bytes job.path) (map string_bytes job.arguments.items) fault
    → RefusesHart files (hart_of job) fault ⊎ IsOutOfMemory fault
lacks_job files job fault (refusals.no_image why) = inl (no_image why)
lacks_job files job fault (refusals.no_arguments held spelled) = inl (no_arguments held spelled)
lacks_job files job fault (refusals.no_answer held never) = absurd never
lacks_job files job fault (refusals.out_of_memory memory) = inr memory

pub hart_refused : (files : Contents) (job : FileJob) (fault : Fault) (path : List ℕ) (words : List (List ℕ))
    → path ≡ string_bytes job.path → words ≡ map string_bytes job.arguments.items
    → LacksArguments files path words fault → RefusesHart files (hart_of job) fault ⊎ IsOutOfMemory fault
hart_refused files job fault path words same_path same_words lacks =
    lacks_job files job fault
    (subst (λ (p : List ℕ). LacksArguments files p (map string_bytes job.arguments.items) fault) same_path
    (subst (λ (ws : List (List ℕ)). LacksArguments files path ws fault) same_words lacks))

-- and among those named
pub job_refused : (files : Contents) (named : List FileJob) (i : ℕ) (job : FileJob) (loaded : List (Fields × List Arg))
    (fault : Fault) → i < length named → job ≡ get_or named i job
    → AllZip (IsJobOf files) (map hart_of (take i named)) (map job_of loaded)
    → RefusesHart files (hart_of job) fault ⊎ IsOutOfMemory fault → RefusesJobs files (map hart_of named) fault
job_refused files named i job loaded fault low is all (inl why) =
    refused_at files named i job loaded fault low is all why
job_refused files named i job loaded fault low is all (inr memory) = jobs_want_memory memory

-- a file that gives no plan
pub plan_refused : (files : Contents) (path plan : List ℕ) (why : PlanFault) → files path ≡ Some plan
    → IsFileFault plan (Plan why) → RefusesHarts files path (faults.Plan why)
plan_refused files path plan (Line rule line) held faulty = by_plan held faulty.0 (by_line faulty.1)
plan_refused files path plan Memory held faulty = by_text (unread_whole (wants_memory refl))

-- a run of harts that answers a fault refuses by it, or memory was refused
run_answers : (jobs : List side_by_side.Job) (schedule : List ℕ) (before after : List HartObservation)
    (answer : Result (List HartEnd) HartsFault) (why : HartsFault) → RunsHarts jobs schedule true before answer after
    → answer ≡ Err why → Refuses jobs schedule why ⊎ (why ≡ harts_faults.Memory)
run_answers jobs schedule before after answer why (refused {fault = fault} refuses) is =
    let same : fault ≡ why = cc in inl (subst (λ (f : HartsFault). Refuses jobs schedule f) same refuses)
run_answers jobs schedule before after answer why (out_of_memory allowed) is = inr (cc)
run_answers jobs schedule before after answer why (cut_short allowed cut) is = inr (cc)
run_answers jobs schedule before after answer why (ran allowed followed last) is = cc

-- harts that are not run
pub run_refused : (files : Contents) (plan : List ℕ) (harts : List PlannedHart) (schedule schedule' : List ℕ)
    (jobs jobs' : List side_by_side.Job) (before after : List HartObservation) (why : HartsFault)
    → IsPlan plan harts schedule → AllZip (IsJobOf files) harts jobs
    → RunsHarts jobs' schedule' true before (Err why) after → jobs' ≡ jobs → schedule' ≡ schedule
    → RefusesPlan files plan (faults.Harts why)
run_refused files plan harts schedule schedule' jobs jobs' before after why planned loaded was_run same_jobs
    same_schedule = by (run_answers jobs' schedule' before after (Err why) why was_run refl)
  where
    by : Refuses jobs' schedule' why ⊎ (why ≡ harts_faults.Memory) → RefusesPlan files plan (faults.Harts why)
    by (inl refuses) =
        by_run planned loaded
        (subst (λ (steps : List ℕ). Refuses jobs steps why) same_schedule
        (subst (λ (js : List side_by_side.Job). Refuses js schedule' why) same_jobs refuses))
    by (inr memory) = plan_wants_memory memory

-- what is said of a plan is said of the file that gives it
pub finds_harts : {files : Contents} (file : Bor (List ℕ)) (harts : List PlannedHart) (schedule : List ℕ)
    (answer : Result Answer Fault) → GivesPlan files file.now harts schedule
    → IfOk answer (λ said. (plan : List ℕ) → IsPlan plan harts schedule → SaysPlan files plan said.text.items said.status)
    → IfErr answer (λ fault. (plan : List ℕ) → IsPlan plan harts schedule → RefusesPlan files plan fault)
    → RequestGives (requests.Harts file) files files answer
finds_harts {files} file harts schedule (Ok said) given so why =
    answered (record {
      plan = given.plan;
      held = given.held;
      is_text = given.is_text;
      said = so given.plan given.gives;
    }) refl
finds_harts {files} file harts schedule (Err fault) given so why =
    not_answered (by_plan given.held given.is_text (why given.plan given.gives), refl)
