-- How the reader follows the format.
use Rattle.std.specs.Prelude.{◌≡◌, Result, Err, MatchResult}
use Rattle.image.specs.Format.{Format, read_by}
use Rattle.image.specs.declared.fault.ImageFault.{ImageFault}
use Rattle.image.specs.declared.fault.ImageFault.TheVariants.{Field, Memory}
use Rattle.image.specs.declared.reading.Reader.{Reader}
use Rattle.image.specs.Below.{Fields}

-- what the bytes that are left spell by a format
abbrev pub ahead : Format → Reader → Result Fields ImageFault
ahead format reader = read_by reader.total format reader.left.now

-- the fault is what they spell, or memory ran out
abbrev pub FaultIs : ImageFault → Result Fields ImageFault → Type 0
FaultIs (Field rule offset) read = read ≡ Err (Field rule offset)
FaultIs Memory read = Unit {0}

-- by the format is read what is read by the one that follows the value, after the call
abbrev pub Leads : {A : Type 0} → Format → (A → Format) → Result A ImageFault → Reader → Reader → Type 0
Leads format next result old new =
    MatchResult result (λ x. ahead format old ≡ ahead (next x) new) (λ fault. FaultIs fault (ahead format old))
