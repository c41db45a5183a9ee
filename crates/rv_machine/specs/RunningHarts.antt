-- What harts in progress are to the machine.
use Rattle.std.specs.Prelude.{◌≡◌, ℕ, ◌++◌, Bool, List, map}
use Rattle.rv_machine.specs.Bytes.{ByteMap}
use Rattle.rv_machine.specs.HartRecording.{kept_of}
use Rattle.rv_machine.specs.Harts.{pc_of, regs_of}
use Rattle.rv_machine.specs.Regions.{code_of}
use Rattle.rv_machine.specs.System.{Member, System, FollowsSchedule}
use Rattle.rv_machine.specs.declared.hart_recording.HartObservation.{HartObservation}
use Rattle.rv_machine.specs.declared.system.RunningHart.{RunningHart}

-- a hart among others
abbrev pub member_now : RunningHart → Member
member_now running = record {
  code = code_of running.code;
  pc = pc_of running.hart;
  regs = regs_of running.hart;
  stop = running.stop;
}

-- harts over the bytes of a memory
abbrev pub system_now : List RunningHart → ByteMap → System
system_now harts bytes = record { members = map member_now harts; bytes = bytes }

-- the whole schedule was followed, with the list of the recorder before and after
abbrev pub Followed : Bool → List ℕ → System → List HartObservation → System → List HartObservation → Type 0
Followed keeps schedule s list t list' =
    (seen : List HartObservation) × FollowsSchedule schedule s seen t × (list' ≡ kept_of keeps list seen)

-- what was recorded is a beginning of what the whole schedule shows
abbrev pub CutShort : Bool → List ℕ → System → List HartObservation → List HartObservation → Type 0
CutShort keeps schedule s list list' =
    (seen rest : List HartObservation) × (end : System) × FollowsSchedule schedule s (seen ++ rest) end
    × (list' ≡ kept_of keeps list seen)
