-- What a pass made is handed on, or else the code that it was given: either is straight code of each body that the
-- code is of.
use Rattle.std.proofs.Common.{◌≡◌, Option, None, Some, IfSome, ap, option_map, subst, sym, ◌∙◌}
use Rattle.std.specs.Prelude.{unwrap_or}
use Rattle.compilation.specs.Below.{IsRemoved, RangedProgram, StraightProgram}
use Rattle.compilation.specs.Exact.{after, fitted_where_shared, fitted_with_words}
use Rattle.straight_words.specs.live_words.Exact.{shared_of}
use Rattle.branch_removal.specs.Replaced.{IsReplaced}

pub stands_on : (ranged : RangedProgram) (made : Option StraightProgram) (given result : StraightProgram)
    → ((one other : StraightProgram) → IsRemoved ranged one → IsReplaced one other → IsRemoved ranged other)
    → IfSome made (IsReplaced given) → result ≡ unwrap_or made given → IsRemoved ranged given
    → IsRemoved ranged result
stands_on ranged None given result law replaced is removed = subst (IsRemoved ranged) (sym is) removed
stands_on ranged (Some code) given result law replaced is removed =
    subst (IsRemoved ranged) (sym is) (law given code removed replaced)

pub after_pass : (pass : StraightProgram → Option StraightProgram) (made : Option StraightProgram)
    (given before result : StraightProgram)
    → result ≡ unwrap_or made given → made ≡ pass given → given ≡ before → result ≡ after pass before
after_pass pass made given before result is from same =
    is ∙ (ap (λ (o : Option StraightProgram). unwrap_or o given) from ∙ ap (after pass) same)

-- the end of the passes, where words share variables
pub shared_found : (straight shared : StraightProgram) → shared_of straight ≡ Some shared
    → after fitted_where_shared straight ≡ fitted_with_words shared
shared_found straight shared found =
    ap (λ (o : Option StraightProgram). unwrap_or (option_map fitted_with_words o) straight) found

-- a pass that made code
pub after_made : (pass : StraightProgram → Option StraightProgram) (given made : StraightProgram)
    → pass given ≡ Some made → after pass given ≡ made
after_made pass given made is = ap (λ (o : Option StraightProgram). unwrap_or o given) is

-- and one that made none
pub after_none : (pass : StraightProgram → Option StraightProgram) (given : StraightProgram)
    → pass given ≡ None → after pass given ≡ given
after_none pass given is = ap (λ (o : Option StraightProgram). unwrap_or o given) is
