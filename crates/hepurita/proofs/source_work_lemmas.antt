pub mod Below
pub mod Walked
pub mod Sums
pub mod Parts
pub mod Export
