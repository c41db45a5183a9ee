-- What these proofs take from the proofs of the crates below, in one place.
pub use Rattle.hepurita.proofs.GrammaticalExports.{grammatical_export}
pub use Rattle.hepurita.proofs.JudgementLemmas.{one_export}
pub use Rattle.image.proofs.SlotEnds.{slots_end_at_last}
