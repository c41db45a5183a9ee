pub mod Held
pub mod Values
pub mod Runs
pub mod Whole
