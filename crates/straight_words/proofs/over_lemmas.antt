pub mod Variables
pub mod Values
pub mod Beside
pub mod Whole
pub mod Starts
