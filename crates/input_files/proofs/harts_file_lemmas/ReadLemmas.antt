-- What is held of what a line says.
use Rattle.std.proofs.Common.{◌≡◌, Option, Some, refl}
use Rattle.std.specs.Option.{option_map}
use Rattle.input_files.specs.harts_file.Lines.{PlannedTurns, LineContent, some_turns}
use Rattle.input_files.specs.harts_file.private.Reading.{held, held_turns}

pub held_as : (said : Option LineContent) (turns : PlannedTurns) → Some (some_turns turns) ≡ option_map held said
    → (whole : PlannedTurns) × (said ≡ Some (some_turns whole)) × (turns ≡ held_turns whole)
held_as (Some (some_turns whole)) turns e = (whole, refl, cc)
held_as said turns e = cc
