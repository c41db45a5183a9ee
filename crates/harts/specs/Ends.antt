-- How each hart has ended.
use Rattle.std.specs.Prelude.{ℕ, List, [], ◌∷◌, Option, Some, None}
use Rattle.std.proofs.Common.{suc}
use Rattle.harts.specs.Below.{AccessFault, Break, Budget, ByteMap, Ecall, Illegal, Member, Misaligned, RecorderRefused}
use Rattle.harts.specs.Below.{Results, results_in, Stop, System}
use Rattle.harts.specs.SideBySide.{Job, frame_base_of}
use Rattle.harts.specs.declared.ends.HartEnd.{HartEnd}

-- an outcome is there where the hart stopped by calling the environment
abbrev pub outcome_at : Stop → Results → Option Results
outcome_at Ecall results = Some results
outcome_at Break results = None
outcome_at Illegal results = None
outcome_at AccessFault results = None
outcome_at Misaligned results = None
outcome_at Budget results = None
outcome_at RecorderRefused results = None

-- and none where it is still going
abbrev pub outcome_after : Option Stop → Results → Option Results
outcome_after (Some stop) results = outcome_at stop results
outcome_after None results = None

-- the end of the hart with a number: its stop, and the numbers that its slots then hold
abbrev pub end_of : ℕ → Job → Option Stop → ByteMap → HartEnd
end_of k job stop bytes =
    record { stop = stop; outcome = outcome_after stop (results_in (frame_base_of k) job.image bytes) }

-- the ends of harts numbered from k on
abbrev pub ends_from : ℕ → List Job → List Member → ByteMap → List HartEnd
ends_from k [] members bytes = []
ends_from k (job ∷ jobs) [] bytes = []
ends_from k (job ∷ jobs) (m ∷ members) bytes = end_of k job m.stop bytes ∷ ends_from (suc k) jobs members bytes

-- the ends of all of them
abbrev pub ends_of : List Job → System → List HartEnd
ends_of jobs s = ends_from 0 jobs s.members s.bytes

-- a hart that has not stopped
abbrev pub still_going : HartEnd
still_going = record { stop = None; outcome = None }

-- one that has stopped by calling the environment, with this outcome
abbrev pub ended_with : Results → HartEnd
ended_with results = record { stop = Some Ecall; outcome = Some results }
