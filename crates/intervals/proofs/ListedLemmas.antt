-- Of two passes the second is asked where the first finds nothing.
use Rattle.std.proofs.Common.{◌≡◌, true, false, List, [], ◌∷◌, Option, None, Some, fold, is_none, length, refl, ap, sym}
use Rattle.std.proofs.Common.{◌∙◌, true≢false, arith}
use Rattle.language.proofs.SoonerLemmas.{found_none}
use Rattle.language.specs.Sooner.{sooner}
use Rattle.language.specs.declared.typing.Violation.{Violation}
use Rattle.intervals.specs.Below.{first_found}

pub none_first : (found later : List Violation) (first : Option Violation) → first ≡ fold sooner None found
    → is_none first ≡ true → first_found found later ≡ later
none_first found later None is none = empty found (found_none found (sym is))
  where
    empty : (found : List Violation) → length found ≡ 0 → first_found found later ≡ later
    empty [] h = refl
    empty (v ∷ vs) h = absurd (omega (arith, h))
none_first found later (Some u) is none = absurd (true≢false (sym none))

pub some_first : (found later : List Violation) (first : Option Violation) → first ≡ fold sooner None found
    → is_none first ≡ false → first_found found later ≡ found
some_first [] later first is some = absurd (true≢false (sym (ap is_none is) ∙ some))
some_first (v ∷ vs) later first is some = refl
