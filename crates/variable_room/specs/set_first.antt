pub mod Order
pub mod Starts
