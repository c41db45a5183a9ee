-- What code needs of its frame where it begins: that some words are zeros, and that the arguments stand in their
-- slots, but for arrays that it sets whole before it reads them.
use Rattle.std.specs.Prelude.{Bool, List}
use Rattle.std.specs.Option.{option_map}
use Rattle.compilation.specs.Below.{FlatVariable, optimised_variables, set_whole_of, StraightProgram}
use Rattle.compilation.specs.Blank.{Blank, blank_of}
use Rattle.compilation.specs.declared.needs.FrameNeeds.{FrameNeeds}

pub record Needs : Type 0 where
  -- the words that have to be zeros
  pub blank : Blank
  -- of each parameter whether its slot may hold any elements
  pub spared : List Bool

-- what the code of a program needs that lays its variables out so
abbrev pub needs_of : List FlatVariable → StraightProgram → Needs
needs_of laid p = record { blank = blank_of laid p; spared = set_whole_of p }

-- plain code lays them out as they are declared
abbrev pub plain_needs : StraightProgram → Needs
plain_needs p = needs_of p.declared p

-- and optimised code without those that live in registers
abbrev pub optimised_needs : StraightProgram → Needs
optimised_needs p = needs_of (optimised_variables p) p

-- what is needed, as it is handed out
abbrev pub needs_as : FrameNeeds → Needs
needs_as needs =
    record { blank = option_map (λ offsets. offsets.items) needs.blank; spared = needs.spared.items }
