pub mod Changes
pub mod Stepped
