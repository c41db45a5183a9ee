-- The words that a program's arrays become, and the program in which they are, where it passes the test for straight
-- code: two answers of `Words::of` are one, and so are two of `apply`. How they are made is private.
use Rattle.std.specs.Prelude.{Option}
use Rattle.straight_words.specs.Below.{checked, StraightProgram}
use Rattle.straight_words.specs.element_words.private.Plan.{WordPlan, plan_of, split_program}

unfoldable pub words_of : StraightProgram → WordPlan
words_of straight = plan_of straight

unfoldable pub split_of : StraightProgram → Option StraightProgram
split_of straight = checked (split_program straight)
