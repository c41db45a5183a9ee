-- The words that a program's numbers become, and the program in which they are, where it passes the test for straight
-- code: two answers of `NumberWords::of` are one, and so are two of `apply`. How they are made is private.
use Rattle.std.specs.Prelude.{Option}
use Rattle.variable_room.specs.Below.{checked, StraightProgram}
use Rattle.variable_room.specs.number_words.private.Plan.{NumberPlan, plan_of, worded_program}

unfoldable pub number_words_of : StraightProgram → NumberPlan
number_words_of straight = plan_of straight

unfoldable pub numbers_as_words : StraightProgram → Option StraightProgram
numbers_as_words straight = checked (worded_program straight)
