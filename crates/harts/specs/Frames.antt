-- Frames side by side in one memory, and arguments put into one after another.
use Rattle.std.specs.Prelude.{◌≡◌, ℕ, ◌+◌, List, [], ◌∷◌, slice_get, Some, All}
use Rattle.std.proofs.Common.{suc}
use Rattle.harts.specs.Below.{AddressRange, AreWithin, Arg, ByteMap, Fields, HoldsSlot, IsImage, params_of}
use Rattle.harts.specs.Below.{with_arguments}
use Rattle.harts.specs.SideBySide.{Job, frame_base_of}

-- the arguments are within the parameters' types
abbrev pub IsRunnable : Job → Type 0
IsRunnable job = AreWithin (params_of job.image) job.args

-- its fields are allowed
abbrev pub HasImage : Job → Type 0
HasImage job = IsImage job.image

-- the frame of the image with a number
abbrev pub frame_of : ℕ → Job → AddressRange
frame_of k job = record { begin = frame_base_of k; end = frame_base_of k + job.image.frame_bytes }

-- the bytes with the arguments of each, where they are numbered from k on
abbrev pub with_all_arguments : ℕ → List Job → ByteMap → ByteMap
with_all_arguments k [] bytes = bytes
with_all_arguments k (job ∷ jobs) bytes =
    with_all_arguments (suc k) jobs (with_arguments (frame_base_of k) bytes job.image.slots job.args)

-- what each gives with its number, where they are numbered from k on
abbrev pub each_from : {X Y : Type 0} → (ℕ → X → Y) → ℕ → List X → List Y
each_from f k [] = []
each_from f k (x ∷ xs) = f k x ∷ each_from f (suc k) xs

-- the job of an image and arguments
abbrev pub job_of : Fields × List Arg → Job
job_of both = record { image = both.0; args = both.1 }

-- each image's slots are data
abbrev pub HoldFrames : List Job → ByteMap → Type 0
HoldFrames jobs bytes =
    (k : ℕ) (job : Job) → slice_get jobs k ≡ Some job → All (HoldsSlot (frame_base_of k) bytes) job.image.slots
