-- What these proofs take from the proofs of the crates below, in one place.
pub use Rattle.hepurita.proofs.Compilations.{spelled}
pub use Rattle.language.proofs.arguments_lemmas.FaultLemmas.{Decides-values, fault_by-same, length-AreWithin, rule_of-None}
