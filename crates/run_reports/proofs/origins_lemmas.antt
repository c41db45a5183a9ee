pub mod Kept
pub mod Made
pub mod Steps
