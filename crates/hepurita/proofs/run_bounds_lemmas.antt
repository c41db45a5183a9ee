pub mod Below
pub mod Counts
pub mod Spending
pub mod Programs
pub mod Answered
