-- What these proofs take from the proofs of the crates below, in one place.
pub use Rattle.hepurita.proofs.GrammaticalExports.{grammatical_export, same_cost}
