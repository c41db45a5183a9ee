-- What these proofs take from the proofs of the crates below, in one place.
pub use Rattle.language.proofs.BlockLemmas.{conditional_tree, loop_tree}
pub use Rattle.language.proofs.KnownLemmas.{Found, known-named, known_by_name, made}
pub use Rattle.language.proofs.LimitLemmas.{few_of}
pub use Rattle.language.proofs.SoonerLemmas.{found_first}
pub use Rattle.language.proofs.names_lemmas.Lookup.{found-kept, found-new, found-other, found-split}
