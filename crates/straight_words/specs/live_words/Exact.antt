-- The one program with shared variables that straight code is made into, where sharing fits and it passes the test for
-- straight code: two answers of `share_words` are one. How it is made is private.
use Rattle.std.specs.Prelude.{Option}
use Rattle.straight_words.specs.Below.{StraightProgram}
use Rattle.straight_words.specs.live_words.private.Whole.{shared_program}

unfoldable pub shared_of : StraightProgram → Option StraightProgram
shared_of straight = shared_program straight
