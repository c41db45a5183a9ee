pub mod Habits
pub mod Spots
