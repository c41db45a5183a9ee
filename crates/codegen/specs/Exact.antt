-- The one image for straight code: two answers of `generate` are one. How its words are made is private.
use Rattle.codegen.specs.Below.{FlatVariable, StraightProgram}
use Rattle.std.specs.Prelude.{List, Option}
use Rattle.codegen.specs.private.Generated.{image_of, image_within, laid_out}
use Rattle.codegen.specs.private.Homes.{word_homes}
use Rattle.expression_code.specs.Allocation.{plain}
use Rattle.expression_code.specs.image_fields.Fields.{Fields}

unfoldable pub fields_of : StraightProgram → Fields
fields_of straight = image_of plain straight

-- and the one in which words live in registers, where it has no more words than are promised: two answers of
-- `generate_optimised` are one
unfoldable pub optimised_fields_of : StraightProgram → Option Fields
optimised_fields_of straight = image_within (word_homes straight) straight

-- its variables as that image lays them out: one that lives in a register, and is no parameter, takes no words
unfoldable pub optimised_variables : StraightProgram → List FlatVariable
optimised_variables straight = laid_out (word_homes straight) straight
