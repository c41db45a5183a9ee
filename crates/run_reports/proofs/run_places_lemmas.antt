pub mod Below
pub mod Openings
pub mod Parting
pub mod Runs
