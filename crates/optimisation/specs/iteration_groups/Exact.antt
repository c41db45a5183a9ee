-- What the groups of a program's loops need, and the program in which loops are over groups of iterations, where it
-- passes the test for straight code: two answers of `IterationGroups::of` are one, and so are two of `apply`. How they
-- are made is private.
use Rattle.std.specs.Prelude.{Option}
use Rattle.optimisation.specs.Below.{StraightProgram}
use Rattle.optimisation.specs.iteration_groups.private.Grouping.{GroupPlan, made_by, plan_of}

unfoldable pub groups_for : StraightProgram → GroupPlan
groups_for straight = plan_of straight

unfoldable pub grouped_of : StraightProgram → Option StraightProgram
grouped_of straight = made_by (plan_of straight) straight
