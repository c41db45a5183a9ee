-- What a run of several harts under a schedule gives.
use Rattle.std.specs.Prelude.{◌≡◌, ℕ, Bool, List, Vec, Result, Ok, Err}
use Rattle.harts.specs.Below.{CutShort, Followed, HartObservation, System}
use Rattle.harts.specs.Ends.{ends_of}
use Rattle.harts.specs.Refused.{Refuses, AreAllowed}
use Rattle.harts.specs.SideBySide.{Job, system_of}
use Rattle.harts.specs.declared.ends.HartEnd.{HartEnd}
use Rattle.harts.specs.declared.fault.HartsFault.{HartsFault}
use Rattle.harts.specs.declared.fault.HartsFault.TheVariants.{Memory}

-- what is answered, and the recorder's list before and after: the first fault, where there is one; else the whole
-- schedule is followed from the loaded harts, and the answer is their ends. Where memory is refused, what was
-- recorded is a beginning of what the schedule shows
pub data RunsHarts (jobs : List Job) (schedule : List ℕ) (keeps : Bool) (list : List HartObservation) : Result
    (List HartEnd) HartsFault → List HartObservation → Type 0 where
  refused : {fault : HartsFault} → Refuses jobs schedule fault → RunsHarts jobs schedule keeps list (Err fault) list
  out_of_memory : AreAllowed jobs schedule → RunsHarts jobs schedule keeps list (Err Memory) list
  cut_short : {list' : List HartObservation} → AreAllowed jobs schedule
      → CutShort keeps schedule (system_of jobs) list list' → RunsHarts jobs schedule keeps list (Err Memory) list'
  ran : {end : System} {list' : List HartObservation} {answer : Result (List HartEnd) HartsFault}
      → AreAllowed jobs schedule → Followed keeps schedule (system_of jobs) list end list'
      → answer ≡ Ok (ends_of jobs end) → RunsHarts jobs schedule keeps list answer list'

-- the ends that an answer holds
abbrev pub answer_of : {A : Type 0} → Result (Vec HartEnd A) HartsFault → Result (List HartEnd) HartsFault
answer_of (Ok ends) = Ok ends.items
answer_of (Err fault) = Err fault
