-- Refusals, by the place where the check has come to.
use Rattle.std.proofs.Common.{ℕ, ◌<◌, ◌≤◌, List, length, take, get_or, All, lt-ltb, le-ltb, refl}
use Rattle.std.proofs.lemmas.Option.{slice_get-get_or}
use Rattle.harts.specs.Refused.{most_turns, RefusesSchedule, of_entry}
use Rattle.harts.specs.declared.fault.HartsFault.TheVariants.{Schedule}
use Rattle.harts.specs.declared.fault.HartsRule.TheVariants.{NoSuchHart, TooManyTurns}

module _ (harts : ℕ) (schedule : List ℕ) (at : ℕ) (inside : at < length schedule)
    (before : All (λ number. number < harts) (take at schedule)) (near : at ≤ most_turns) where
  pub no_such_hart : harts ≤ get_or schedule at 0 → RefusesSchedule harts schedule (Schedule NoSuchHart at)
  no_such_hart above =
      of_entry (record {
        number = get_or schedule at 0;
        there = slice_get-get_or schedule at 0 inside;
        broken = rw (le-ltb (get_or schedule at 0) harts above) refl;
        before = before;
        near = near;
      })

  pub too_many_turns : get_or schedule at 0 < harts → most_turns ≤ at
      → RefusesSchedule harts schedule (Schedule TooManyTurns at)
  too_many_turns named far =
      of_entry (record {
        number = get_or schedule at 0;
        there = slice_get-get_or schedule at 0 inside;
        broken = rw (lt-ltb (get_or schedule at 0) harts named, le-ltb at most_turns far) refl;
        before = before;
        near = near;
      })
