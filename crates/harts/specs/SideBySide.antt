-- Images side by side on one memory, a hart for each.
use Rattle.std.specs.Prelude.{ℕ, ◌+◌, ◌*◌, List, [], ◌∷◌, None}
use Rattle.std.proofs.Common.{zero, suc}
use Rattle.harts.specs.Below.{Arg, ByteMap, code_at, code_base, code_distance, Fields, first_of, frame_base}
use Rattle.harts.specs.Below.{frame_distance, loaded_at, Member, System}
use Rattle.rv_machine.specs.Machine.{State}

-- where the code and the frame of a hart lie
abbrev pub code_base_of : ℕ → ℕ
code_base_of k = code_base + code_distance * k

abbrev pub frame_base_of : ℕ → ℕ
frame_base_of k = frame_base + frame_distance * k

-- an image and its arguments
pub record Job : Type 0 where
  pub image : Fields
  pub args : List Arg

-- the hart of this number alone, where it begins
abbrev pub loaded_alone : ℕ → Job → State
loaded_alone k job = loaded_at (code_base_of k) (frame_base_of k) job.image job.args

-- and among others
abbrev pub member_of : ℕ → Job → Member
member_of k job = record {
  code = code_at (code_base_of k) job.image;
  pc = (loaded_alone k job).pc;
  regs = (loaded_alone k job).regs;
  stop = None;
}

-- the bytes of all frames, those of the first job at the frame of this number
abbrev pub bytes_from : ℕ → List Job → ByteMap
bytes_from k [] a = None
bytes_from k (job ∷ jobs) a = first_of ((loaded_alone k job).bytes a) (bytes_from (suc k) jobs a)

-- a hart for each job, numbered from here on
abbrev pub members_from : ℕ → List Job → List Member
members_from k [] = []
members_from k (job ∷ jobs) = member_of k job ∷ members_from (suc k) jobs

-- a hart for each job, where they all begin
abbrev pub system_of : List Job → System
system_of jobs = record { members = members_from zero jobs; bytes = bytes_from zero jobs }
