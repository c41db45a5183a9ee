-- What these proofs take from the proofs of the crates below, in one place.
pub use Rattle.hepurita.proofs.JudgementLemmas.{one_export}
pub use Rattle.hepurita.proofs.OneImage.{one_image}
pub use Rattle.listing.proofs.Pieces.{where_ok}
