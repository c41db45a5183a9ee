-- Where code and frame may lie, and accesses that stay inside the frame.
use Rattle.std.specs.Prelude.{◌≡◌, ℕ, ◌+◌, ◌*◌, ◌%◌, ◌^◌, ◌<◌, length}
use Rattle.expression_code.specs.image_fields.Fields.{Fields}
pub use Rattle.expression_code.specs.Inside.{IsInside}

-- bases that code and frame may have: multiples of 4, with room above them
pub record AreBases (image : Fields) (code frame : ℕ) : Type 0 where
  pub code_aligned : code % 4 ≡ 0
  pub frame_aligned : frame % 4 ≡ 0
  pub code_ends : code + 4 * length image.words < 2 ^ 32
  pub frame_ends : frame + image.frame_bytes < 2 ^ 32
