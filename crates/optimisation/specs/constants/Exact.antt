-- The one simpler program that straight code is made into by `simplify`, and the one by `unroll`, where it passes the
-- test for straight code. How they are made is private.
use Rattle.std.specs.Prelude.{[], Option}
use Rattle.optimisation.specs.Below.{checked, StraightProgram}
use Rattle.optimisation.specs.constants.private.Choice.{unroll_limits_of}
use Rattle.optimisation.specs.constants.private.Simplification.{simplified_program}

-- all loops that make iterations stay
unfoldable pub simplified_of : StraightProgram → Option StraightProgram
simplified_of straight = checked (simplified_program [] straight)

-- loops become their iterations, as far as there is room for them
unfoldable pub unrolled_of : StraightProgram → Option StraightProgram
unrolled_of straight = checked (simplified_program (unroll_limits_of straight) straight)
