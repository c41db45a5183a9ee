pub mod Chosen
pub mod Values
pub mod Iterations
pub mod Groups
pub mod Runs
pub mod Whole
