-- What these proofs take from the proofs of the crates below, in one place.
pub use Rattle.tokens.proofs.TokenLaws.{keywords, keyword_found, spelled_some}
pub use Rattle.tokens.proofs.TokenNumbers.{name_word, number_cut, number_word, suffixes, suffix_found, value_unique}
pub use Rattle.tokens.proofs.TokenPieces.{OnlySigns, blank_piece, comment_piece, signs, word_piece, word_some}
pub use Rattle.tokens.proofs.TokenRuns.{run_at}
pub use Rattle.tokens.proofs.TokenShapes.{none_from_all}
pub use Rattle.tokens.proofs.TokenSigns.{find_passes}
pub use Rattle.tokens.proofs.TokenSteps.{rest_shorter}
pub use Rattle.syntax.proofs.MachineAnswers.{answers, lt-false, lt-true}
