-- What these proofs take from the proofs of the crates below, in one place.
pub use Rattle.elf_runs.proofs.Ends.{answered, refused_so}
pub use Rattle.elf_runs.proofs.Segments.{found_there, passed_by}
pub use Rattle.listing.proofs.Pieces.{cut_before_line, cut_in_line, with_line}
