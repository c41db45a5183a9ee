-- Which images, arguments and schedules are refused.
use Rattle.std.specs.Prelude.{◌≡◌, ◌⊎◌, ℕ, ◌<◌, ◌≤◌, nat_lt, if◌then◌else◌, List, length, take, slice_get, Option}
use Rattle.std.specs.Prelude.{Some, None, All}
use Rattle.language.specs.arguments.Faults.{fault_of}
use Rattle.language.specs.declared.arguments.fault.ArgumentFault.{ArgumentFault}
use Rattle.harts.specs.Below.{most_images, params_of}
use Rattle.harts.specs.SideBySide.{Job}
use Rattle.harts.specs.declared.fault.HartsFault.{HartsFault}
use Rattle.harts.specs.declared.fault.HartsFault.TheVariants.{Schedule, Argument}
use Rattle.harts.specs.declared.fault.HartsRule.{HartsRule}
use Rattle.harts.specs.declared.fault.HartsRule.TheVariants.{HartCount, NoSuchHart, TooManyTurns}

-- how many entries of a schedule are followed at most
abbrev pub most_turns : ℕ
most_turns = 1048576

-- the first fault of a hart's arguments
abbrev pub fault_in : Job → Option ArgumentFault
fault_in job = fault_of (params_of job.image) job.args

abbrev pub HasNoFault : Job → Type 0
HasNoFault job = fault_in job ≡ None

-- the rule that an entry breaks: a number that no hart has before a place too far on
abbrev pub broken_at : ℕ → ℕ → ℕ → Option HartsRule
broken_at harts at number =
    if nat_lt number harts then if nat_lt at most_turns then None else Some TooManyTurns else Some NoSuchHart

-- there are harts, and not too many
abbrev pub AreFew : ℕ → Type 0
AreFew harts = (1 ≤ harts) × (harts ≤ most_images)

-- the first hart whose arguments have a fault
pub record IsFirstFault (jobs : List Job) (hart : ℕ) (fault : ArgumentFault) : Type 0 where
  pub job : Job
  pub there : slice_get jobs hart ≡ Some job
  pub faulty : fault_in job ≡ Some fault
  pub before : All HasNoFault (take hart jobs)

-- the first entry that breaks a rule
pub record IsFirstEntry (harts : ℕ) (schedule : List ℕ) (at : ℕ) (rule : HartsRule) : Type 0 where
  pub number : ℕ
  pub there : slice_get schedule at ≡ Some number
  pub broken : broken_at harts at number ≡ Some rule
  pub before : All (λ number. number < harts) (take at schedule)
  pub near : at ≤ most_turns

-- a count of harts is refused
pub data RefusesCount (harts : ℕ) : HartsFault → Type 0 where
  of_count : (harts ≡ 0) ⊎ (most_images < harts) → RefusesCount harts (Schedule HartCount 0)

-- arguments of a hart are refused
pub data RefusesArguments (jobs : List Job) : HartsFault → Type 0 where
  of_argument : {hart : ℕ} {fault : ArgumentFault} → IsFirstFault jobs hart fault
      → RefusesArguments jobs (Argument hart fault.rule fault.index)

-- an entry of a schedule is refused
pub data RefusesSchedule (harts : ℕ) (schedule : List ℕ) : HartsFault → Type 0 where
  of_entry : {at : ℕ} {rule : HartsRule} → IsFirstEntry harts schedule at rule
      → RefusesSchedule harts schedule (Schedule rule at)

-- harts and a schedule are refused: by their count first, then by the arguments of hart after hart, then by the
-- schedule
pub data Refuses (jobs : List Job) (schedule : List ℕ) : HartsFault → Type 0 where
  by_count : {fault : HartsFault} → RefusesCount (length jobs) fault → Refuses jobs schedule fault
  by_arguments : {fault : HartsFault} → AreFew (length jobs) → RefusesArguments jobs fault
      → Refuses jobs schedule fault
  by_schedule : {fault : HartsFault} → AreFew (length jobs) → All HasNoFault jobs
      → RefusesSchedule (length jobs) schedule fault → Refuses jobs schedule fault

-- nothing of them is refused
pub record AreAllowed (jobs : List Job) (schedule : List ℕ) : Type 0 where
  pub few : AreFew (length jobs)
  pub faultless : All HasNoFault jobs
  pub named : All (λ number. number < length jobs) schedule
  pub short : length schedule ≤ most_turns
