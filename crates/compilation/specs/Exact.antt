-- The one image for an exported procedure, behind those before it, for an observer, plain or optimised: what the
-- passes make of it, one after another.
use Rattle.std.specs.Prelude.{List, [], ◌∷◌, Option, None, Some, unwrap_or}
use Rattle.std.specs.Option.{option_map}
use Rattle.compilation.specs.Below.{Fields, fields_of, flattened, optimised_fields_of, ProcedureTree, Profile, ranged}
use Rattle.compilation.specs.Below.{simplified_of, straight_of, StraightProgram, unrolled_of}
use Rattle.compilation.specs.Needs.{Needs, optimised_needs, plain_needs}
use Rattle.straight_words.specs.element_words.Exact.{split_of}
use Rattle.compilation.specs.declared.optimised.Optimisation.{Optimisation}
use Rattle.compilation.specs.declared.optimised.Optimisation.TheVariants.{Off, On, Small}
use Rattle.optimisation.specs.high_products.Exact.{with_high_products}
use Rattle.optimisation.specs.iteration_groups.Exact.{grouped_of}
use Rattle.straight_words.specs.live_words.Exact.{shared_of}
use Rattle.variable_room.specs.needed_variables.Exact.{fitted_of}
use Rattle.variable_room.specs.number_words.Exact.{numbers_as_words}

-- the first image of those that are there, and else another
abbrev pub first_of : List (Option Fields) → Fields → Fields
first_of [] otherwise = otherwise
first_of (None ∷ images) otherwise = first_of images otherwise
first_of (Some image ∷ images) otherwise = image

-- what a pass makes of straight code, and the code itself where it makes none
abbrev pub after : (StraightProgram → Option StraightProgram) → StraightProgram → StraightProgram
after pass straight = unwrap_or (pass straight) straight

-- numbers that are used much are words, and the code has only the variables that it needs
abbrev pub fitted_with_words : StraightProgram → StraightProgram
fitted_with_words straight = fitted_of (after numbers_as_words straight)

abbrev pub fitted_where_shared : StraightProgram → Option StraightProgram
fitted_where_shared straight = option_map fitted_with_words (shared_of straight)

-- what the passes make of straight code whose loops are as they stay: its short arrays are words, what is known then is
-- a number, words share variables, numbers that are used much are words, and variables that nothing names have no room
abbrev pub finished_of : StraightProgram → StraightProgram
finished_of straight = after fitted_where_shared (after simplified_of (after split_of straight))

-- and of straight code as it is: first of all, upper words of products that it makes of halves are operators. Then its
-- loops stay, or they are unrolled, or in groups of iterations
abbrev pub small_of : StraightProgram → StraightProgram
small_of straight = finished_of (after simplified_of (after with_high_products straight))

-- with four iterations of those that stay as one, where these are short
abbrev pub finished_in_groups : StraightProgram → StraightProgram
finished_in_groups straight = finished_of (after grouped_of straight)

abbrev pub fast_of : StraightProgram → StraightProgram
fast_of straight = finished_in_groups (after unrolled_of (after with_high_products straight))

-- the images that are tried for straight code where optimised code is asked for. Each is there where it is within the
-- limit on words: for small code one with its loops, and else one with its loops unrolled first
abbrev pub small_for : StraightProgram → List (Option Fields)
small_for straight = optimised_fields_of (small_of straight) ∷ []

abbrev pub optimised_for : StraightProgram → List (Option Fields)
optimised_for straight = optimised_fields_of (fast_of straight) ∷ small_for straight

-- the image for straight code, which is the plain one where no optimised one is there: only from here on do the codes
-- differ
abbrev pub code_for : Optimisation → StraightProgram → Fields
code_for Off straight = fields_of straight
code_for On straight = first_of (optimised_for straight) (fields_of straight)
code_for Small straight = first_of (small_for straight) (fields_of straight)

unfoldable pub image_for : Optimisation → Profile → List ProcedureTree → ProcedureTree → Fields
image_for optimisation profile before export =
    code_for optimisation (straight_of (ranged (flattened profile before export)))

-- and what it needs of its frame: what the program does that it is generated from

abbrev pub if_there : Option Fields → Needs → Needs → Needs
if_there None one other = other
if_there (Some image) one other = one

abbrev pub first_needs : List StraightProgram → StraightProgram → Needs
first_needs [] otherwise = plain_needs otherwise
first_needs (straight ∷ others) otherwise =
    if_there (optimised_fields_of straight) (optimised_needs straight) (first_needs others otherwise)

abbrev pub needs_for : Optimisation → StraightProgram → Needs
needs_for Off straight = plain_needs straight
needs_for On straight = first_needs (fast_of straight ∷ small_of straight ∷ []) straight
needs_for Small straight = first_needs (small_of straight ∷ []) straight

unfoldable pub frame_needs_for : Optimisation → Profile → List ProcedureTree → ProcedureTree → Needs
frame_needs_for optimisation profile before export =
    needs_for optimisation (straight_of (ranged (flattened profile before export)))
