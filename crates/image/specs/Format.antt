-- Formats: which fields bytes consist of, one after another.
use Rattle.std.specs.Prelude.{ℕ, Bool, List, length, drop, Result, Ok, Err, nat_lt, ◌-◌, ◌==◌, if◌then◌else◌}
use Rattle.byteorder.specs.Endian.{little_number}
use Rattle.image.specs.declared.fault.ImageRule.{ImageRule}
use Rattle.image.specs.declared.fault.ImageRule.TheVariants.{Truncated, TrailingBytes}
use Rattle.image.specs.declared.fault.ImageFault.{ImageFault}
use Rattle.image.specs.declared.fault.ImageFault.TheVariants.{Field}
use Rattle.image.specs.Below.{Fields}

-- The end, where all is known. Or a number of so many bytes, the lowest first, which the rule wants to be allowed,
-- and what follows a value: which fields come later may depend on it.
pub data Format : Type 0 where
  ends : (fields : Fields) → Format
  field : (rule : ImageRule) (size : ℕ) (allowed : ℕ → Bool) (next : ℕ → Format) → Format

-- a fault at the field that the bytes left begin with, by its offset in all of so many
abbrev pub fault_at : ℕ → ImageRule → List ℕ → Result Fields ImageFault
fault_at total rule left = Err (Field rule (total - length left))

-- What the bytes left, of so many, spell by a format: each field in turn, up to the first that is not wholly there or
-- not allowed; then nothing may be left.
unfoldable pub read_by : ℕ → Format → List ℕ → Result Fields ImageFault
read_by total (ends fields) left = if length left == 0 then Ok fields else fault_at total TrailingBytes left
read_by total (field rule size allowed next) left =
    if nat_lt (length left) size then fault_at total Truncated left
    else if allowed (little_number size left) then read_by total (next (little_number size left)) (drop size left)
    else fault_at total rule left
