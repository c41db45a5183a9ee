pub mod Candidates
pub mod Expected
