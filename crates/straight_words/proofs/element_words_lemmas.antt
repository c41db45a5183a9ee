pub mod PartLemmas
pub mod Known
pub mod Values
pub mod Held
pub mod Given
pub mod Runs
pub mod Whole
