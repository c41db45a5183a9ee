-- What is printed of the harts of a file, side by side, and why nothing is.
use Rattle.std.specs.Prelude.{◌≡◌, ℕ, true, List, [], ◌∷◌, ◌++◌, Some, Ok}
use Rattle.std.specs.List.{AllZip}
use Rattle.std.specs.Str.{IsUtf8}
use Rattle.commands.specs.Below.{fault_of_texts, Fields, HartEnd, HartObservation, HartsFault, HartsRule, IsFault}
use Rattle.commands.specs.Below.{IsPlan, Job, params_of, PlannedHart, Refuses, RunFault, RunsHarts}
use Rattle.commands.specs.Contents.{Contents}
use Rattle.commands.specs.FileTexts.{NoWholeText}
use Rattle.commands.specs.HartsText.{harts_text, status_of_ends}
use Rattle.commands.specs.Images.{HoldsImage, NoImage}
use Rattle.commands.specs.Unread.{IsOutOfMemory}
use Rattle.commands.specs.Words.{AreSpelled, IsFaultOfWords}
use Rattle.commands.specs.declared.fault.Fault.{Fault}
use Rattle.commands.specs.declared.fault.Fault.TheVariants.{Run, Plan, Harts}
use Rattle.input_files.specs.declared.harts_file.fault.PlanFault.TheVariants.{Line}

-- the job of a hart that a line names: the image of the file at its path, and the arguments that its words spell
pub record IsJobOf (files : Contents) (hart : PlannedHart) (job : Job) : Type 0 where
  pub held : HoldsImage files hart.path job.image
  pub spelled : AreSpelled (params_of job.image) hart.arguments job.args

-- the harts of a plan with this text are run in the order of its steps: what the steps show, how each hart ended, and
-- the exit status
pub record SaysPlan (files : Contents) (plan text : List ℕ) (status : ℕ) : Type 0 where
  pub harts : List PlannedHart
  pub schedule : List ℕ
  pub jobs : List Job
  pub seen : List HartObservation
  pub ends : List HartEnd
  pub planned : IsPlan plan harts schedule
  pub loaded : AllZip (IsJobOf files) harts jobs
  pub ran : RunsHarts jobs schedule true [] (Ok ends) seen
  pub printed : text ≡ harts_text jobs seen ends
  pub ended : status ≡ status_of_ends ends

-- all of a file is the text of a plan of these harts, and of this schedule of their turns
pub record GivesPlan (files : Contents) (path : List ℕ) (harts : List PlannedHart) (schedule : List ℕ) : Type 0 where
  pub plan : List ℕ
  pub held : files path ≡ Some plan
  pub is_text : IsUtf8 plan
  pub gives : IsPlan plan harts schedule

-- the same of a file, all of which is the plan's text
pub record SaysHarts (files : Contents) (path text : List ℕ) (status : ℕ) : Type 0 where
  pub plan : List ℕ
  pub held : files path ≡ Some plan
  pub is_text : IsUtf8 plan
  pub said : SaysPlan files plan text status

-- why the job of a hart that a line names is not had: there is no image, or the words have a first fault, by the image
pub data RefusesHart (files : Contents) (hart : PlannedHart) : Fault → Type 0 where
  no_image : {fault : Fault} → NoImage files hart.path fault → RefusesHart files hart fault
  no_arguments : {image : Fields} {fault : RunFault} → HoldsImage files hart.path image
      → IsFaultOfWords (fault_of_texts (params_of image) hart.arguments) fault → RefusesHart files hart (Run fault)

-- why the jobs of harts are not had: by the first of them whose job is not had; or memory was refused
pub data RefusesJobs (files : Contents) (harts : List PlannedHart) : Fault → Type 0 where
  by_hart : (before later : List PlannedHart) (hart : PlannedHart) (jobs : List Job) {fault : Fault}
      → harts ≡ before ++ hart ∷ later → AllZip (IsJobOf files) before jobs → RefusesHart files hart fault
      → RefusesJobs files harts fault
  jobs_want_memory : {fault : Fault} → IsOutOfMemory fault → RefusesJobs files harts fault

-- why the harts of a plan with this text are not run: by its first faulty line; by a hart's image or arguments; by what
-- is refused of all of them and the order of their steps; or memory was refused
pub data RefusesPlan (files : Contents) (plan : List ℕ) : Fault → Type 0 where
  by_line : {rule : HartsRule} {line : ℕ} → IsFault plan rule line → RefusesPlan files plan (Plan (Line rule line))
  by_jobs : {harts : List PlannedHart} {schedule : List ℕ} {fault : Fault} → IsPlan plan harts schedule
      → RefusesJobs files harts fault → RefusesPlan files plan fault
  by_run : {harts : List PlannedHart} {schedule : List ℕ} {jobs : List Job} {fault : HartsFault}
      → IsPlan plan harts schedule → AllZip (IsJobOf files) harts jobs → Refuses jobs schedule fault
      → RefusesPlan files plan (Harts fault)
  plan_wants_memory : {fault : Fault} → IsOutOfMemory fault → RefusesPlan files plan fault

-- the same of a file: it has no text; or all of it is the text of such a plan
pub data RefusesHarts (files : Contents) (path : List ℕ) : Fault → Type 0 where
  by_text : {fault : Fault} → NoWholeText files path fault → RefusesHarts files path fault
  by_plan : {plan : List ℕ} {fault : Fault} → files path ≡ Some plan → IsUtf8 plan → RefusesPlan files plan fault
      → RefusesHarts files path fault
