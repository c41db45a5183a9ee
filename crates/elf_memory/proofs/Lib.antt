pub mod Filling
pub mod Ranges
