-- What is promised of the images of accepted texts side by side, under any schedule.
use Rattle.std.specs.Prelude.{◌≡◌, ◌⊎◌, ℕ, ◌+◌, ◌<◌, ◌≤◌, List, [], ◌∷◌, Some, None, All, slice_get}
use Rattle.language.specs.arguments.Agreement.{Agree}
use Rattle.harts.specs.Below.{AreWithin, ByteMap, Ecall, HartObservation, IsInside, HartMakes, Means, Member}
use Rattle.harts.specs.Below.{Observation, of_hart, params_of, ProgramTree, results_in, System, steps_of}
use Rattle.harts.specs.SideBySide.{frame_base_of, Job, loaded_alone, member_of}
use Rattle.hepurita.specs.Built.{IsBuilt}
use Rattle.compilation.specs.declared.optimised.Optimisation.{Optimisation}
use Rattle.image.specs.Reading.{Spells}
use Rattle.word.specs.declared.profile.Profile.{Profile}

-- the image of an accepted text, plain or optimised, for some observer, with arguments within its parameter types
pub record IsFromSource (job : Job) : Type 0 where
  pub optimisation : Optimisation
  pub profile : Profile
  pub text : List ℕ
  pub bytes : List ℕ
  pub built : IsBuilt optimisation profile text bytes
  pub spelled : Spells bytes job.image
  pub within : AreWithin (params_of job.image) job.args

-- what the hart of this number has come to under a schedule, and has shown, is what it comes to alone in as many
-- steps as the schedule names it: its program counter, its registers, its stop and the bytes of its frame. It stays
-- inside its frame. However few its steps, it has not stopped, or has with what its program means; and once it was
-- given as many as its image states, it has
pub record IsAlone (program : ProgramTree) (k : ℕ) (job : Job) (schedule : List ℕ) (list : List HartObservation)
    (end : System) : Type 0 where
  pub bytes : ByteMap
  pub member : Member
  pub seen : List Observation
  pub makes : HartMakes (steps_of k schedule) (loaded_alone k job).bytes (member_of k job) seen bytes member
  pub there : slice_get end.members k ≡ Some member
  pub frame : (a : ℕ) → frame_base_of k ≤ a → a < frame_base_of k + job.image.frame_bytes → end.bytes a ≡ bytes a
  pub shown : of_hart k list ≡ seen
  pub within_frame : All (λ (o : Observation). IsInside (frame_base_of k) job.image.frame_bytes o.event) seen
  pub so_far : (member.stop ≡ None)
      ⊎ ((member.stop ≡ Some Ecall) × Means program job.args (results_in (frame_base_of k) job.image end.bytes))
  pub finished : job.image.max_steps ≤ steps_of k schedule
      → (member.stop ≡ Some Ecall) × Means program job.args (results_in (frame_base_of k) job.image end.bytes)

-- two jobs of one image that an observer is allowed to tell apart by nothing
pub record JobsAgree (one other : Job) : Type 0 where
  pub image : one.image ≡ other.image
  pub args : Agree (params_of one.image) one.args other.args

-- job by job
abbrev pub AllAgree : List Job → List Job → Type 0
AllAgree [] [] = Unit {0}
AllAgree [] (b ∷ other) = ⊥
AllAgree (a ∷ one) [] = ⊥
AllAgree (a ∷ one) (b ∷ other) = JobsAgree a b × AllAgree one other
