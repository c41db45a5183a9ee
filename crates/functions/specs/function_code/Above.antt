-- The bytes above the frame of a call, counted once for a function.
use Rattle.std.specs.Prelude.{◌≡◌, ℕ, ◌*◌, ◌≤◌, length}
use Rattle.functions.specs.Below.{above_frame, Fields, needed_of}

pub record IsAbove (image : Fields) (above : ℕ) : Type 0 where
  pub bytes : above ≡ above_frame image
  pub least : 4 * length (needed_of image) ≤ above
  pub most : above ≤ 80
