-- What all bodies with numbered variables keep.
use Rattle.inline.specs.Flat.{FlatProgram}
use Rattle.inline.specs.FlatSize.{IsSized}
use Rattle.inline.specs.FlatTyping.{IsTypedFlat}

-- it is well typed, and within the limits on size
pub record IsFlat (p : FlatProgram) : Type 0 where
  pub typed : IsTypedFlat p
  pub sized : IsSized p
