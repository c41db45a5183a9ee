-- The one program in which upper words of products are operators, where straight code makes one of halves, and where it
-- passes the test for straight code. Which expressions these are is private.
use Rattle.std.specs.Prelude.{if◌then◌else◌, None, Option}
use Rattle.optimisation.specs.Below.{checked, StraightProgram}
use Rattle.optimisation.specs.high_products.private.Replacing.{program_makes, replaced_program}

unfoldable pub with_high_products : StraightProgram → Option StraightProgram
with_high_products straight = if program_makes straight then checked (replaced_program straight) else None
