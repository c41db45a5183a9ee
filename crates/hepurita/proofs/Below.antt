-- What these proofs take from the proofs of the crates below, in one place.
pub use Rattle.inline.proofs.Face.{flat_is_typed, flat_keeps_meaning}
pub use Rattle.intervals.proofs.Safe.{accepted_is_safe, safe_runs_meet_no_fault}
pub use Rattle.labels.proofs.ExportLemmas.{Export, export_at, has_export}
pub use Rattle.language.proofs.LimitLemmas.{few_of}
pub use Rattle.language.proofs.SoonerLemmas.{first_of}
pub use Rattle.rv_machine.proofs.Face.{
  Halts-determined,
  Ran-beginning,
  Ran-determined,
  Ran-halts,
  Runs-determined,
  Step-determined,
  differ-apart,
  first-unique,
  goes_on≢stops,
  is_some-with_number,
  number_at-suc,
  number_at-zero,
  step_stops,
}
