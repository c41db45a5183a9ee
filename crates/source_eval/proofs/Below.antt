-- What these proofs take from the proofs of the crates below, in one place.
pub use Rattle.language.proofs.BlockLemmas.{conditional_tree, loop_tree}
pub use Rattle.language.proofs.KnownLemmas.{Found, known-named, known-none}
pub use Rattle.language.proofs.names_lemmas.Lookup.{found-split}
