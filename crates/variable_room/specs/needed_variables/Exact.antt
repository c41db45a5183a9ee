-- The variables that straight code needs, and the one program with them: two answers of `needed_variables` are one, and
-- so are two of `with_needed`. How they are found is private.
use Rattle.std.specs.Prelude.{List}
use Rattle.variable_room.specs.Below.{FlatVariable, redeclared, StraightProgram}
use Rattle.variable_room.specs.needed_variables.private.Named.{needed_by}

unfoldable pub needed_of : StraightProgram → List FlatVariable
needed_of straight = needed_by straight

unfoldable pub fitted_of : StraightProgram → StraightProgram
fitted_of straight = redeclared straight (needed_of straight)
