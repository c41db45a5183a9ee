-- How the logic stores a body with what is counted for it.
use Rattle.std.proofs.Common.{ℕ, List, refl}
use Rattle.std.specs.Coded.{Coded, code_by, coded×, coded_ℕ, coded_list}
use Rattle.inline.specs.Codes.{coded_program}
use Rattle.intervals.specs.Below.{FlatProgram}
use Rattle.intervals.specs.Ranged.{RangedProgram}

abbrev pub coded_ranged : Coded RangedProgram
coded_ranged =
    code_by (FlatProgram × (List ℕ × ℕ))
    (coded× coded_program (coded× (coded_list coded_ℕ) coded_ℕ))
    (λ r. (r.flat, (r.iterations, r.work)))
    (λ t. record { flat = t.0; iterations = t.1.0; work = t.1.1 })
    (λ _. refl)
